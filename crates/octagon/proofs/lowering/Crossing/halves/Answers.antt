use Rattle.std.proofs.Common.{pos, rules}
use Rattle.interface.proofs.Filled.{filled}
use Rattle.octagon.specs.Crossings.{half_by}
use Rattle.octagon.specs.Entries.{listed}
use Rattle.octagon.proofs.lowering.Crossing.halves.Goals as goal

pub returns : goal.returns
unfolding listed
returns c = filled _ (half_by c.args.self.now c.args.limits.now) (pos 0) _ (λ k y q called. search rules) c.from_fn.ensures.items
