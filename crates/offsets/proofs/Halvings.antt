-- 169 places are enough for an octagon: eight ranges of at most 2,000,001 values take 21 halvings each. Assumes nothing.
use Rattle.std.proofs.Common.{ℕ, suc, ◌+◌, ◌*◌, ◌<◌, ◌≤◌, ◌⊎◌, List, [], ◌∷◌, length, get_or, inl, inr, arith}
use Rattle.std.proofs.lemmas.List.{get_or_past}
use Rattle.std.proofs.lemmas.Int.{ints}
use Rattle.std.proofs.lemmas.List.Sums.{sum_by-cons}
use Rattle.std.proofs.lemmas.Bool.{cases_lt}
use Rattle.halving.proofs.Lowers.{bits_least}
use Rattle.halving.specs.Halvings.{bits_for, halvings_of}
use Rattle.interface.specs.declared.cut.Cut.{Cut}
use Rattle.interface.specs.declared.home.Home.{Home}
use Rattle.interface.specs.Homes.{Passes}
use Rattle.interface.specs.Shapes.{built}
use Rattle.octagon.specs.Facts.{halvings_are}
use Rattle.octagon.specs.Made.{built_of}
use Rattle.octagon.specs.Widths.{length_widths, getD_widths, limit_small, even_is, width_is}
use Rattle.octagon.specs.Octagons.{octagon_model}
use Rattle.octagon.specs.Ranges.{widths, width_at}
use Rattle.octagon_theory.specs.Limits.{limit}

few_bits : (w : ℕ) → w ≤ 2000000 → bits_for (w + 1) ≤ 21
few_bits w h = (bits_least (w + 1)).1 21 (omega arith)

all_few : (ws : List ℕ) → ((k : ℕ) → get_or ws k 0 ≤ 2000000) → halvings_of ws ≤ 21 * length ws
all_few [] h = omega arith
all_few (w ∷ ws) h = let a = few_bits w (h 0) in let b = all_few ws (λ k. h (suc k)) in let e = sum_by-cons (λ v. bits_for (v + 1)) w ws in omega (arith, a, b, e)

module _ (h : Home) (ok : Passes h) (ts : List Cut) where
  width_small : (k : ℕ) → width_at (limit h ts) k ≤ 2000000
  width_small k =
      let a = limit_small h ok ts (2 * k) (2 * k) in
      let b = limit_small h ok ts (2 * k + 1) (2 * k + 1) in
      let c = even_is h ok ts (2 * k) in
      let d = even_is h ok ts (2 * k + 1) in
      let e = width_is h ok ts k in
      omega (arith, ints)

  widths_small : (k : ℕ) → get_or (widths (limit h ts)) k 0 ≤ 2000000
  widths_small k = by (cases_lt k 8)
    where
      by : (k < 8) ⊎ (8 ≤ k) → get_or (widths (limit h ts)) k 0 ≤ 2000000
      by (inl b) = let a = getD_widths (limit h ts) k b in let w = width_small k in omega (arith, a, w)
      by (inr b) = let l = length_widths (limit h ts) in let a = get_or_past (widths (limit h ts)) k 0 (omega (arith, l)) in omega (arith, a)

  pub enough : 1 + octagon_model.halvings (built octagon_model h ts) ≤ 169
  enough =
      let s = built octagon_model h ts in
      let e = halvings_are h ts s (built_of h ok ts) in
      let l = length_widths (limit h ts) in
      let a = all_few (widths (limit h ts)) widths_small in
      omega (arith, e, l, a)
