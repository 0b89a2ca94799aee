use Rattle.std.proofs.Common.{[], ◌∷◌, rules}
use Rattle.interface.specs.Shapes.{range_of}
use Rattle.digests.proofs.Folding.{mixed_over}
use Rattle.digests.proofs.ranges.Goals as goal

pub returns : goal.returns
returns g c =
    let M = g.S.Shape.model in
    let s = c.args.s.now in
    mixed_over _ (λ k. (range_of M s k).0 ∷ (range_of M s k).1 ∷ []) _ (λ a x b k called. search rules) _ _ _ c.fold.ensures.ran
