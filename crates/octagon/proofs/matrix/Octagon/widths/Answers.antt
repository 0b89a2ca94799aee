use Rattle.std.proofs.Common.{rules}
use Rattle.interface.proofs.Filled.{filled}
use Rattle.octagon.specs.Entries.{at}
use Rattle.octagon.specs.Ranges.{width_at, widths}
use Rattle.octagon.proofs.matrix.Octagon.widths.Goals as goal

pub returns : goal.returns
unfolding widths
returns c = filled _ (width_at (at c.args.self.now.limits)) 0 _ (λ k y q called. search rules) c.from_fn.ensures.items
