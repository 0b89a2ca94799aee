use Rattle.std.proofs.Common.{rules}
use Rattle.rules.specs.StepsLemmas.{last_at}
use Rattle.rules.proofs.step.StepRule.greatest_up_to.Goals as goal

pub returns-clause-last : goal.returns-clause-last
returns-clause-last c = last_at c.args.self.now c.args.z _ (search rules)
