use Rattle.octagon_theory.proofs.Theorems.{home_alone}
use Rattle.octagon_theory.proofs.home_alone.Goals as goal

pub returns : goal.returns
returns c = home_alone
