use Rattle.octagon_theory.proofs.Theorems.{every_limit_is_reached}
use Rattle.octagon_theory.proofs.every_limit_is_reached.Goals as goal

pub returns : goal.returns
returns c = every_limit_is_reached
