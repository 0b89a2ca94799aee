use Rattle.std.proofs.Common.{◌≡◌, ◌+◌, ◌*◌, ℕ, ℤ, map, ◌-ℤ◌, fold, ap, ◌∙◌, arith, rules, w32, w64, SFits, to_z, of_z}
use borrow.Author.Differences.{ints}
use Rattle.std.specs.List.{range_with_len}
use Rattle.std.specs.Int.{int_max}
use Rattle.std.proofs.lemmas.Int.{to_z-of_z}
use Rattle.std.proofs.lemmas.Iterator.{YieldsList-from_range, YieldsList-from_map}
use Rattle.std.proofs.lemmas.Iterator.Consumers.{fold_from_yields_List}
use Rattle.interface.specs.Nodes.{value}
use Rattle.octagon.specs.Entries.{at}
use Rattle.octagon.specs.Octagons.{narrow}
use Rattle.octagon.specs.Offering.{bounds_all, narrow_is}
use Rattle.octagon.specs.Ranges.{low_at}
use Rattle.octagon.proofs.matrix.Octagon.next_value.Goals as goal

pub returns : goal.returns
returns c =
    let L = at c.args.self.now.limits in
    let k = c.args.point.now.n in
    let w = 2 * k in
    let x = c.args.point.now.values in
    let bound : ℕ → ℤ = λ p. value x p -ℤ L p (2 * k + 1) in
    let low : to_z w64 (of_z w64 c.own_bound.result) ≡ low_at L k = omega (arith, ints, c.own_bound.ensures) in
    let greatest : c.fold.result ≡ fold int_max (low_at L k) (map bound (range_with_len 0 w)) = fold_from_yields_List _ int_max _ _ c.fold.ensures.ran (YieldsList-from_map _ bound (YieldsList-from_range 0 w w (cc) (omega arith)) c.map-bounds.ensures.closure (λ y r q z. search rules)) (λ a y b q z. search (rules, to_z-of_z)) ∙ ap (λ a. fold int_max a (map bound (range_with_len 0 w))) low in
    let fits : SFits w32 c.unwrap_or.result = search rules in
    let wide : SFits w64 c.fold.result = search rules in
    let narrowed : c.unwrap_or.result ≡ narrow c.fold.result = c.unwrap_or.ensures ∙ narrow_is c.fold.result c.try_from.result (simp to_z-of_z at c.try_from.ensures) in
    simp to_z-of_z (narrowed ∙ ap narrow (greatest ∙ bounds_all L x k (omega arith)))
