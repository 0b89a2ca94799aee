use Rattle.std.proofs.Common.{rules}
use Rattle.rules.specs.StepsLemmas.{first_at}
use Rattle.rules.proofs.step.StepRule.least_from.Goals as goal

pub returns-clause-first : goal.returns-clause-first
returns-clause-first c = first_at c.args.self.now c.args.z _ (search rules)
