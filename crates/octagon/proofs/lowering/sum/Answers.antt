use Rattle.std.proofs.Common.{w32}
use Rattle.std.proofs.lemmas.Int.{wrapping_add_is}
use Rattle.octagon.specs.Entries.{plus}
use Rattle.octagon.proofs.lowering.sum.Goals as goal

pub returns : goal.returns
unfolding plus
returns c = wrapping_add_is w32 c.args.a c.args.b c.ranges.a c.ranges.b
