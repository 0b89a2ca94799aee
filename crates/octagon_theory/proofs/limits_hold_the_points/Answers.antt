use Rattle.octagon_theory.proofs.Theorems.{limits_hold_the_points}
use Rattle.octagon_theory.proofs.limits_hold_the_points.Goals as goal

pub returns : goal.returns
returns c = limits_hold_the_points
