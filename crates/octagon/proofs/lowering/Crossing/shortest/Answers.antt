use Rattle.std.proofs.Common.{rules}
use Rattle.std.proofs.lemmas.Int.{to_z-of_z}
use Rattle.octagon.specs.Entries.{over_cut}
use Rattle.octagon.proofs.lowering.Crossing.shortest.Goals as goal

pub returns : goal.returns
unfolding over_cut
returns c = search (rules, to_z-of_z)
