use Rattle.octagon_theory.proofs.Theorems.{least_values_are_least}
use Rattle.octagon_theory.proofs.least_values_are_least.Goals as goal

pub returns : goal.returns
returns c = least_values_are_least
