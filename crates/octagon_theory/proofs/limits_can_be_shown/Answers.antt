use Rattle.octagon_theory.proofs.Theorems.{limits_can_be_shown}
use Rattle.octagon_theory.proofs.limits_can_be_shown.Goals as goal

pub returns : goal.returns
returns c = limits_can_be_shown
