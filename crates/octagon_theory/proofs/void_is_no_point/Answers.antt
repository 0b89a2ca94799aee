use Rattle.octagon_theory.proofs.Theorems.{void_is_no_point}
use Rattle.octagon_theory.proofs.void_is_no_point.Goals as goal

pub returns : goal.returns
returns c = void_is_no_point
