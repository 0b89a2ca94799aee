use Rattle.std.proofs.lemmas.Int.{to_z-of_z}
use Rattle.std.proofs.Common.{w32}
use Rattle.interface.proofs.Cuts.{cut_made}
use Rattle.interface.proofs.cut.Cut.new.Goals as goal

pub returns-then-is_cut : goal.returns-then-is_cut
returns-then-is_cut c = cut_made _ _ c.args.c _ (to_z-of_z w32 c.args.c c.ranges.c) _
