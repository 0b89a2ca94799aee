use Rattle.std.proofs.Common.{map, rules}
use Rattle.std.specs.List.{range_with_len}
use Rattle.digests.proofs.Folding.{mixed_over}
use Rattle.digests.proofs.limits.Goals as goal

pub returns : goal.returns
returns g c =
    mixed_over _ (λ p. map (λ q. g.S.Shape.model.limit c.args.s.now p q) (range_with_len 0 c.args.nodes)) _ (λ a x b k called. search rules) _ _ _ c.fold.ensures.ran
