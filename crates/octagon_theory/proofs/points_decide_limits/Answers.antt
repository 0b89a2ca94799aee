use Rattle.octagon_theory.proofs.Theorems.{points_decide_limits}
use Rattle.octagon_theory.proofs.points_decide_limits.Goals as goal

pub returns : goal.returns
returns c = points_decide_limits
