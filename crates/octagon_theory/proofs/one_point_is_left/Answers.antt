use Rattle.octagon_theory.proofs.Theorems.{one_point_is_left}
use Rattle.octagon_theory.proofs.one_point_is_left.Goals as goal

pub returns : goal.returns
returns c = one_point_is_left
