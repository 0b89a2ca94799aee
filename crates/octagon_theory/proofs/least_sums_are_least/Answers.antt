use Rattle.octagon_theory.proofs.Theorems.{least_sums_are_least}
use Rattle.octagon_theory.proofs.least_sums_are_least.Goals as goal

pub returns : goal.returns
returns c = least_sums_are_least
