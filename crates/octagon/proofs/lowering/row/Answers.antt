use Rattle.std.proofs.Common.{pos, rules}
use Rattle.interface.proofs.Filled.{filled}
use Rattle.octagon.specs.Entries.{at, listed}
use Rattle.octagon.proofs.lowering.row.Goals as goal

pub returns : goal.returns
unfolding listed
returns c = filled _ (at c.args.limits.now c.args.p) (pos 0) _ (λ k y q called. search rules) c.from_fn.ensures.items
