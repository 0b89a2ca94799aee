use Rattle.octagon_theory.proofs.Theorems.{limits_are_tight}
use Rattle.octagon_theory.proofs.limits_are_tight.Goals as goal

pub returns : goal.returns
returns c = limits_are_tight
