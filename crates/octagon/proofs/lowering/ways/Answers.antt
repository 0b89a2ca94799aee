use Rattle.std.proofs.Common.{pos, rules}
use Rattle.interface.proofs.Filled.{filled}
use Rattle.octagon.specs.Entries.{way, listed}
use Rattle.octagon.proofs.lowering.ways.Goals as goal

pub returns : goal.returns
unfolding listed
returns c = filled _ (way c.args.limits.now c.args.a c.args.b c.args.c) (pos 0) _ (λ k y q called. search rules) c.from_fn.ensures.items
