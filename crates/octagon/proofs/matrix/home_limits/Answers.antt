use Rattle.std.proofs.Common.{◌/◌, ◌%◌, pos, rules}
use Rattle.interface.proofs.Filled.{filled}
use Rattle.octagon.specs.Entries.{home_limit, listed}
use Rattle.octagon.proofs.matrix.home_limits.Goals as goal

pub returns : goal.returns
unfolding listed
returns c = filled _ (λ k. home_limit c.args.home.now (k / 16) (k % 16)) (pos 0) _ (λ k y q called. search rules) c.from_fn.ensures.items
