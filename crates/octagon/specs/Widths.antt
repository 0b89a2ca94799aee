-- The ranges of a home and its cuts: none is crossed, a cut widens none, and the widest of several values is split in two halves.
use Rattle.std.specs.Prelude.{◌≡◌, ℕ, ◌+◌, ◌*◌, ◌<◌, ◌≤◌, true, false, ◌⊎◌, List, [], ◌∷◌, ◌++◌, length, ℤ, pos, negsuc, ◌+ℤ◌, ◌-ℤ◌, neg_ℤ, ◌≤ℤ◌, nat_eq, slice_index, unsigned_abs, refl}
use Rattle.std.proofs.Common.{inl, inr, sym, ap₂, subst, ◌∙◌, arith}
use Rattle.std.proofs.lemmas.Int.{ints}
use Rattle.std.proofs.lemmas.List.FromFn.{get_or-map-range_with_len, length-map-range_with_len}
use Rattle.std.proofs.lemmas.List.{get_or_past}
use Rattle.std.proofs.lemmas.Bool.{cases_Bool, cases_lt, eqb-true, eq-eqb, both_ways}
use Rattle.halving.specs.Halvings.{width, widest_of, all_single, Narrower}
use Rattle.halving.proofs.First.{all_decides}
use Rattle.halving.proofs.Places.{Widest, widest_is}
use Rattle.interface.specs.declared.cut.Cut.{Cut}
use Rattle.interface.specs.declared.home.Home.{Home}
use Rattle.interface.specs.Homes.{Passes}
use Rattle.interface.specs.Nodes.{opp}
use Rattle.interface.specs.Numbers.{half}
use Rattle.octagon_theory.specs.Limits.{void, limit}
use Rattle.octagon_theory.proofs.Exact.{limit_void, limit_off, limits_tight}
use Rattle.octagon_theory.proofs.Halves.{half_is}
use Rattle.octagon_theory.proofs.Theorems.{limits_can_be_shown, one_cut_at_a_time}
use Rattle.octagon.specs.Ranges.{low_at, high_at, width_at, widths, widest_at}
use Rattle.octagon.specs.Offering.{map_same}
use Rattle.octagon.specs.Taking.{small_from_within}
use Rattle.octagon.specs.Wrapping.{Small}

pub length_widths : (L : ℕ → ℕ → ℤ) → length (widths L) ≡ 8
unfolding widths
length_widths L = length-map-range_with_len (width_at L) 0 8

pub getD_widths : (L : ℕ → ℕ → ℤ) (k : ℕ) → k < 8 → slice_index (widths L) k ≡ width_at L k
unfolding widths
getD_widths L k h = get_or-map-range_with_len (width_at L) 0 8 k k 0 h (omega arith)

pub widths_same : (M L : ℕ → ℕ → ℤ) → ((p q : ℕ) → p < 16 → q < 16 → M p q ≡ L p q) → widths M ≡ widths L
unfolding widths
widths_same M L same = map_same (width_at M) (width_at L) 0 8 (λ k b. ap₂ (λ x y. width (neg_ℤ (half x)) (half y)) (same (2 * k + 1) (2 * k + 1) (omega arith) (omega arith)) (same (2 * k) (2 * k) (omega arith) (omega arith)))

pos_unsigned_abs : (z : ℤ) → pos 0 ≤ℤ z → pos (unsigned_abs z) ≡ z
pos_unsigned_abs (pos n) h = refl
pos_unsigned_abs (negsuc n) h = absurd (omega (arith, ints))

-- every width is 0, or the widest one is not
pub single_says : (L : ℕ → ℕ → ℤ) → all_single (widths L) ≡ true → (k : ℕ) → k < 8 → width_at L k ≡ 0
single_says L e k h = sym (getD_widths L k h) ∙ eqb-true (slice_index (widths L) k) 0 ((all_decides (λ w. nat_eq w 0) (widths L)).0 e k (let l = length_widths L in omega arith))

pub record WidestOf (L : ℕ → ℕ → ℤ) : Type 0 where
  pub room : widest_at L < 8
  pub wide : 0 < width_at L (widest_at L)

pub open_says : (L : ℕ → ℕ → ℤ) → all_single (widths L) ≡ false → WidestOf L
open_says L e =
    let l = length_widths L in
    let w : Widest (widths L) (length (widths L)) (widest_of (widths L)) = widest_is (widths L) 7 l in
    let a = w.0 in
    let r : widest_of (widths L) < 8 = omega arith in
    let g = getD_widths L (widest_of (widths L)) r in
    record { room = r; wide = by w r g (cases_lt 0 (slice_index (widths L) (widest_of (widths L)))) }
  where
    by : Widest (widths L) (length (widths L)) (widest_of (widths L)) → widest_of (widths L) < 8 → slice_index (widths L) (widest_of (widths L)) ≡ width_at L (widest_of (widths L)) → (0 < slice_index (widths L) (widest_of (widths L))) ⊎ (slice_index (widths L) (widest_of (widths L)) ≤ 0) → 0 < width_at L (widest_of (widths L))
    by w r g (inl h) = omega arith
    by w r g (inr h) = absurd (both_ways (all_single (widths L)) e ((all_decides (λ w. nat_eq w 0) (widths L)).1 (λ k b. eq-eqb (slice_index (widths L) k) 0 (let m = w.1 k b in omega arith))))

module _ (h : Home) (ok : Passes h) (ts : List Cut) where
  pub limit_small : (p q : ℕ) → Small 2000000 (limit h ts p q)
  limit_small p q = small_from_within 2000000 (limit h ts p q) ((limits_can_be_shown h ok ts).bounded p q)

  pub even_is : (p : ℕ) → limit h ts p p ≡ (half (limit h ts p p) +ℤ half (limit h ts p p))
  even_is p = (limits_can_be_shown h ok ts).even p

  around : (k : ℕ) → pos 0 ≤ℤ (limit h ts (2 * k) (2 * k) +ℤ limit h ts (2 * k + 1) (2 * k + 1))
  around k = by (cases_Bool (void h ts)) (cases_lt k h.n)
    where
      by : (void h ts ≡ true) ⊎ (void h ts ≡ false) → (k < h.n) ⊎ (h.n ≤ k) → pos 0 ≤ℤ (limit h ts (2 * k) (2 * k) +ℤ limit h ts (2 * k + 1) (2 * k + 1))
      by (inl v) b = let e = limit_void h ts v (2 * k) (2 * k) in let f = limit_void h ts v (2 * k + 1) (2 * k + 1) in omega (arith, ints)
      by (inr v) (inr b) = let e = limit_off h ts (2 * k) (2 * k) (inl (omega arith)) in let f = limit_off h ts (2 * k + 1) (2 * k + 1) (inl (omega arith)) in omega (arith, ints)
      by (inr v) (inl b) =
          let K = limits_tight h ts v in
          let o : opp (2 * k) ≡ 2 * k + 1 = omega arith in
          let t : limit h ts (2 * k) (2 * k + 1) ≤ℤ (limit h ts (2 * k) (2 * k) +ℤ limit h ts (2 * k + 1) (2 * k + 1)) = subst (λ r. limit h ts (2 * k) (2 * k + 1) ≤ℤ (limit h ts (2 * k) (2 * k) +ℤ limit h ts r (2 * k + 1))) o (K.triangle (2 * k) (2 * k + 1) (2 * k) (omega arith) (omega arith) (omega arith)) in
          let z : limit h ts (2 * k) (2 * k + 1) ≡ pos 0 = subst (λ r. limit h ts (2 * k) r ≡ pos 0) o (K.opposite (2 * k) (omega arith)) in
          omega (arith, ints)

  -- no range is crossed
  pub ordered : (k : ℕ) → low_at (limit h ts) k ≤ℤ high_at (limit h ts) k
  ordered k = let a = around k in let e = even_is (2 * k) in let f = even_is (2 * k + 1) in omega (arith, ints)

  pub width_is : (k : ℕ) → pos (width_at (limit h ts) k) ≡ (high_at (limit h ts) k -ℤ low_at (limit h ts) k)
  width_is k = pos_unsigned_abs (high_at (limit h ts) k -ℤ low_at (limit h ts) k) (let o = ordered k in omega (arith, ints))

  -- a setting that is not on the line has one value
  pub off_width : (k : ℕ) → h.n ≤ k → width_at (limit h ts) k ≡ 0
  off_width k b = let e = limit_off h ts (2 * k) (2 * k) (inl (omega arith)) in let f = limit_off h ts (2 * k + 1) (2 * k + 1) (inl (omega arith)) in (λ i. width (neg_ℤ (half (f i))) (half (e i)))

  pub void_width : void h ts ≡ true → (k : ℕ) → width_at (limit h ts) k ≡ 0
  void_width v k = let e = limit_void h ts v (2 * k) (2 * k) in let f = limit_void h ts v (2 * k + 1) (2 * k + 1) in (λ i. width (neg_ℤ (half (f i))) (half (e i)))

-- ---- one cut more
module _ (h : Home) (ok : Passes h) (ts : List Cut) (t : Cut) where
  -- no end of a range moves outwards
  pub inwards : void h (ts ++ (t ∷ [])) ≡ false → (k : ℕ) → k < h.n → (low_at (limit h ts) k ≤ℤ low_at (limit h (ts ++ (t ∷ []))) k) × (high_at (limit h (ts ++ (t ∷ []))) k ≤ℤ high_at (limit h ts) k)
  inwards v k b =
      let e = (one_cut_at_a_time h ts t).shrinks v (2 * k) (2 * k) (omega arith) (omega arith) in
      let f = (one_cut_at_a_time h ts t).shrinks v (2 * k + 1) (2 * k + 1) (omega arith) (omega arith) in
      (omega (arith, ints, half_is (limit h ts (2 * k + 1) (2 * k + 1)), half_is (limit h (ts ++ (t ∷ [])) (2 * k + 1) (2 * k + 1))), omega (arith, ints, half_is (limit h ts (2 * k) (2 * k)), half_is (limit h (ts ++ (t ∷ [])) (2 * k) (2 * k))))

  pub narrower_at : (k : ℕ) → width_at (limit h (ts ++ (t ∷ []))) k ≤ width_at (limit h ts) k
  narrower_at k = by (cases_Bool (void h (ts ++ (t ∷ [])))) (cases_lt k h.n)
    where
      by : (void h (ts ++ (t ∷ [])) ≡ true) ⊎ (void h (ts ++ (t ∷ [])) ≡ false) → (k < h.n) ⊎ (h.n ≤ k) → width_at (limit h (ts ++ (t ∷ []))) k ≤ width_at (limit h ts) k
      by (inl v) b = let e = void_width h ok (ts ++ (t ∷ [])) v k in omega arith
      by (inr v) (inr b) = let e = off_width h ok (ts ++ (t ∷ [])) k b in omega arith
      by (inr v) (inl b) = let i = inwards v k b in let x = i.0 in let y = i.1 in narrow_nat (width_at (limit h (ts ++ (t ∷ []))) k) (width_at (limit h ts) k) _ _ _ _ (width_is h ok (ts ++ (t ∷ [])) k) (width_is h ok ts k) x y
        where
          narrow_nat : (a b : ℕ) (x y u w : ℤ) → pos a ≡ (x -ℤ y) → pos b ≡ (u -ℤ w) → w ≤ℤ y → x ≤ℤ u → a ≤ b
          narrow_nat a b x y u w e f g j = omega (arith, ints)

  pub narrower : Narrower (widths (limit h (ts ++ (t ∷ [])))) (widths (limit h ts))
  narrower = (length_widths (limit h (ts ++ (t ∷ []))) ∙ sym (length_widths (limit h ts)), λ k. by k (cases_lt k 8))
    where
      by : (k : ℕ) → (k < 8) ⊎ (8 ≤ k) → slice_index (widths (limit h (ts ++ (t ∷ [])))) k ≤ slice_index (widths (limit h ts)) k
      by k (inl b) = let e = getD_widths (limit h (ts ++ (t ∷ []))) k b in let f = getD_widths (limit h ts) k b in let g = narrower_at k in omega arith
      by k (inr b) = let l = length_widths (limit h (ts ++ (t ∷ []))) in let e = get_or_past (widths (limit h (ts ++ (t ∷ [])))) k 0 (omega arith) in omega arith
