-- The two cuts of a split: both exist, each halves the widest range, and each point of an open octagon meets exactly one.
use Rattle.std.specs.Prelude.{◌≡◌, ℕ, ◌+◌, ◌*◌, ◌<◌, ◌≤◌, true, false, not, ◌&&◌, ◌⊎◌, List, [], ◌∷◌, ◌++◌, length, ℤ, pos, ◌+ℤ◌, ◌-ℤ◌, neg_ℤ, ◌≤ℤ◌, ◌==◌, nat_lt, refl}
use Rattle.std.proofs.Common.{inl, inr, sym, ap₂, subst, ◌∙◌, arith}
use Rattle.std.proofs.Math.Path.{ap}
use Rattle.std.proofs.lemmas.Int.{ints}
use Rattle.std.proofs.lemmas.Bool.{cases_Bool, cases_lt, lt-ltb, ne_eqb, and_from, not_from_false, not-true, and_parts, cond-true, cond-false}
use Rattle.halving.specs.Halvings.{halvings_of, widest_of, all_single}
use Rattle.halving.proofs.Lowers.{halving_lowers}
use Rattle.interface.specs.declared.cut.Cut.{Cut}
use Rattle.interface.specs.declared.home.Home.{Home}
use Rattle.interface.specs.CutBounds.{valid_cut}
use Rattle.interface.specs.Cuts.{Meets}
use Rattle.interface.specs.Homes.{Passes}
use Rattle.interface.specs.Nodes.{opp, value}
use Rattle.interface.specs.Numbers.{half, within}
use Rattle.octagon_theory.specs.Limits.{void, limit}
use Rattle.octagon_theory.proofs.Entries.{value_even, value_odd}
use Rattle.octagon_theory.proofs.Halves.{half_is}
use Rattle.octagon_theory.proofs.Passing.{both_within}
use Rattle.octagon_theory.proofs.Theorems.{one_cut_at_a_time}
use Rattle.octagon.specs.declared.matrix.Octagon.{Octagon}
use Rattle.octagon.specs.Entries.{at}
use Rattle.octagon.specs.Octagons.{cut_to, lower_of, upper_of}
use Rattle.octagon.specs.Ranges.{low_at, high_at, width_at, widths, is_open, widest_at, middle_at, up_to, from_next}
use Rattle.octagon.specs.Taking.{OctagonOf, cut_of}
use Rattle.octagon.specs.Widths.{length_widths, getD_widths, widths_same, open_says, limit_small, width_is, off_width, inwards, narrower, void_width}
use Rattle.octagon.specs.Wrapping.{Small}

-- a node with itself and a bound within two million make a cut
pub own_valid : (p : ℕ) (c : ℤ) → p < 16 → Small 2000000 c → valid_cut p p c ≡ true
own_valid p c a b = and_from (nat_lt p 16) _ (lt-ltb p 16 a) (and_from (nat_lt p 16) _ (lt-ltb p 16 a) (and_from (not (p == opp p)) (within 2000000 c) (not_from_false (p == opp p) (ne_eqb p (opp p) (λ e. omega arith))) (both_within 2000000 c b.0 b.1)))

module _ (h : Home) (ok : Passes h) (ts : List Cut) where
  -- what is known of an open octagon's widest range
  pub record Wide (k : ℕ) (m : ℤ) : Type 0 where
    pub sound : void h ts ≡ false
    pub on : k < h.n
    pub room : k < 8
    pub above_low : low_at (limit h ts) k ≤ℤ m
    pub below_high : (m +ℤ pos 1) ≤ℤ high_at (limit h ts) k
    pub middle_low : (m +ℤ m) ≤ℤ (low_at (limit h ts) k +ℤ high_at (limit h ts) k)
    pub middle_high : (low_at (limit h ts) k +ℤ high_at (limit h ts) k) ≤ℤ ((m +ℤ m) +ℤ pos 1)
    pub small_low : Small 1000000 (low_at (limit h ts) k)
    pub small_high : Small 1000000 (high_at (limit h ts) k)

  pub wide : is_open (void h ts) (limit h ts) ≡ true → Wide (widest_at (limit h ts)) (middle_at (limit h ts) (widest_at (limit h ts)))
  wide e =
      let p = and_parts (not (void h ts)) (not (all_single (widths (limit h ts)))) e in
      let v = not-true (void h ts) p.0 in
      let W = open_says (limit h ts) (not-true (all_single (widths (limit h ts))) p.1) in
      by (widest_at (limit h ts)) v W.room W.wide (cases_lt (widest_at (limit h ts)) h.n)
    where
      by : (k : ℕ) → void h ts ≡ false → k < 8 → 0 < width_at (limit h ts) k → (k < h.n) ⊎ (h.n ≤ k) → Wide k (middle_at (limit h ts) k)
      by k v r w (inr b) = let z = off_width h ok ts k b in absurd (omega arith)
      by k v r w (inl b) =
          let d = width_is h ok ts k in
          let x = limit_small h ok ts (2 * k) (2 * k) in
          let y = limit_small h ok ts (2 * k + 1) (2 * k + 1) in
          halves k v r b (low_at (limit h ts) k) (high_at (limit h ts) k) refl refl (apart (width_at (limit h ts) k) (low_at (limit h ts) k) (high_at (limit h ts) k) w d) (small_half k)
        where
          apart : (w : ℕ) (l u : ℤ) → 0 < w → pos w ≡ (u -ℤ l) → (l +ℤ pos 1) ≤ℤ u
          apart w l u a e = omega (arith, ints)

          small_half : (k : ℕ) → Small 1000000 (low_at (limit h ts) k) × Small 1000000 (high_at (limit h ts) k)
          small_half k =
              let x = limit_small h ok ts (2 * k) (2 * k) in
              let y = limit_small h ok ts (2 * k + 1) (2 * k + 1) in
              ((omega (arith, ints, half_is (limit h ts (2 * k + 1) (2 * k + 1))), omega (arith, ints, half_is (limit h ts (2 * k + 1) (2 * k + 1)))), (omega (arith, ints, half_is (limit h ts (2 * k) (2 * k))), omega (arith, ints, half_is (limit h ts (2 * k) (2 * k)))))

          halves : (k : ℕ) → void h ts ≡ false → k < 8 → k < h.n → (l u : ℤ) → low_at (limit h ts) k ≡ l → high_at (limit h ts) k ≡ u → (l +ℤ pos 1) ≤ℤ u → Small 1000000 (low_at (limit h ts) k) × Small 1000000 (high_at (limit h ts) k) → Wide k (middle_at (limit h ts) k)
          halves k v r b l u e f a s =
              let g : middle_at (limit h ts) k ≡ half (l +ℤ u) = ap₂ (λ x y. half (x +ℤ y)) e f in
              let i = half_is (l +ℤ u) in
              record {
                sound = v;
                on = b;
                room = r;
                above_low = omega (arith, ints, i);
                below_high = omega (arith, ints, i);
                middle_low = omega (arith, ints, i);
                middle_high = omega (arith, ints, i);
                small_low = s.0;
                small_high = s.1;
              }

  module _ (k : ℕ) (m : ℤ) (W : Wide k m) where
    pub lower_bound : Small 2000000 (up_to m)
    lower_bound = let a = W.above_low in let b = W.below_high in let c = W.small_low.0 in let d = W.small_high.1 in (omega (arith, ints), omega (arith, ints))

    pub upper_bound : Small 2000000 (from_next m)
    upper_bound = let a = W.above_low in let b = W.below_high in let c = W.small_low.0 in let d = W.small_high.1 in (omega (arith, ints), omega (arith, ints))

    unfoldable pub lower_cut : Cut
    lower_cut = record { p = 2 * k; q = 2 * k; c = up_to m; ok = own_valid (2 * k) (up_to m) (let r = W.room in omega arith) lower_bound }

    unfoldable pub upper_cut : Cut
    upper_cut = record { p = 2 * k + 1; q = 2 * k + 1; c = from_next m; ok = own_valid (2 * k + 1) (from_next m) (let r = W.room in omega arith) upper_bound }

    -- halving leaves at most half the width
    halved_nat : (a b : ℕ) (l u x y : ℤ) → pos a ≡ (y -ℤ x) → pos b ≡ (u -ℤ l) → (y -ℤ x) ≤ℤ (m -ℤ l) → (m +ℤ m) ≤ℤ (l +ℤ u) → 2 * a ≤ b
    halved_nat a b l u x y e f g i = omega (arith, ints)

    halved_nat' : (a b : ℕ) (l u x y : ℤ) → pos a ≡ (y -ℤ x) → pos b ≡ (u -ℤ l) → (y -ℤ x) ≤ℤ (u -ℤ (m +ℤ pos 1)) → (l +ℤ u) ≤ℤ ((m +ℤ m) +ℤ pos 1) → 2 * a ≤ b
    halved_nat' a b l u x y e f g i = omega (arith, ints)

    some_width : 0 < width_at (limit h ts) k
    some_width = by (width_at (limit h ts) k) (low_at (limit h ts) k) (high_at (limit h ts) k) (width_is h ok ts k) W.above_low W.below_high
      where
        by : (a : ℕ) (l u : ℤ) → pos a ≡ (u -ℤ l) → l ≤ℤ m → (m +ℤ pos 1) ≤ℤ u → 0 < a
        by a l u e f g = omega (arith, ints)

    -- to halve the width at k lowers the halvings
    fewer : (t : Cut) → (void h (ts ++ (t ∷ [])) ≡ false → 2 * width_at (limit h (ts ++ (t ∷ []))) k ≤ width_at (limit h ts) k) → halvings_of (widths (limit h (ts ++ (t ∷ [])))) < halvings_of (widths (limit h ts))
    fewer t s =
        let l = length_widths (limit h ts) in
        let r = W.room in
        let e = getD_widths (limit h ts) k r in
        let f = getD_widths (limit h (ts ++ (t ∷ []))) k r in
        let w = some_width in
        let b = by (cases_Bool (void h (ts ++ (t ∷ [])))) in
        (halving_lowers (widths (limit h (ts ++ (t ∷ [])))) (widths (limit h ts)) (narrower h ok ts t)).1 k (omega arith, omega arith, omega arith)
      where
        by : (void h (ts ++ (t ∷ [])) ≡ true) ⊎ (void h (ts ++ (t ∷ [])) ≡ false) → 2 * width_at (limit h (ts ++ (t ∷ []))) k ≤ width_at (limit h ts) k
        by (inl v) = let e = void_width h ok (ts ++ (t ∷ [])) v k in omega arith
        by (inr v) = s v

    pub lower_fewer : halvings_of (widths (limit h (ts ++ (lower_cut ∷ [])))) < halvings_of (widths (limit h ts))
    unfolding lower_cut
    lower_fewer = fewer lower_cut (λ v.
        let L' = limit h (ts ++ (lower_cut ∷ [])) in
        let o = (one_cut_at_a_time h ts lower_cut).obeyed v (let b = W.on in omega arith) (let b = W.on in omega arith) in
        let i = (inwards h ok ts lower_cut v k W.on).0 in
        halved_nat (width_at L' k) (width_at (limit h ts) k) (low_at (limit h ts) k) (high_at (limit h ts) k) (low_at L' k) (high_at L' k) (width_is h ok (ts ++ (lower_cut ∷ [])) k) (width_is h ok ts k) (let j = half_is (L' (2 * k) (2 * k)) in omega (arith, ints)) W.middle_low)

    pub upper_fewer : halvings_of (widths (limit h (ts ++ (upper_cut ∷ [])))) < halvings_of (widths (limit h ts))
    unfolding upper_cut
    upper_fewer = fewer upper_cut (λ v.
        let L' = limit h (ts ++ (upper_cut ∷ [])) in
        let o = (one_cut_at_a_time h ts upper_cut).obeyed v (let b = W.on in omega arith) (let b = W.on in omega arith) in
        let i = (inwards h ok ts upper_cut v k W.on).1 in
        halved_nat' (width_at L' k) (width_at (limit h ts) k) (low_at (limit h ts) k) (high_at (limit h ts) k) (low_at L' k) (high_at L' k) (width_is h ok (ts ++ (upper_cut ∷ [])) k) (width_is h ok ts k) (let j = half_is (L' (2 * k + 1) (2 * k + 1)) in omega (arith, ints)) W.middle_high)

    -- which points meet the two cuts
    pub meets_lower : (x : List ℤ) → value x (2 * k) ≤ℤ m → Meets x lower_cut
    unfolding lower_cut
    meets_lower x e a b = omega (arith, ints)

    pub lower_met : (x : List ℤ) → length x ≡ h.n → Meets x lower_cut → value x (2 * k) ≤ℤ m
    unfolding lower_cut
    lower_met x l e = let b = W.on in let r = e (omega arith) (omega arith) in omega (arith, ints)

    pub meets_upper : (x : List ℤ) → (m +ℤ pos 1) ≤ℤ value x (2 * k) → Meets x upper_cut
    unfolding upper_cut
    meets_upper x e a b = let f = value_even k x in let g = value_odd k x in omega (arith, ints)

    pub upper_met : (x : List ℤ) → length x ≡ h.n → Meets x upper_cut → (m +ℤ pos 1) ≤ℤ value x (2 * k)
    unfolding upper_cut
    upper_met x l e = let b = W.on in let r = e (omega arith) (omega arith) in let f = value_even k x in let g = value_odd k x in omega (arith, ints)

-- ---- the parts of an octagon
module _ (h : Home) (ts : List Cut) (s : Octagon) (O : OctagonOf h ts s) where
  pub widths_are : widths (at s.limits) ≡ widths (limit h ts)
  widths_are = widths_same (at s.limits) (limit h ts) O.entries

  pub open_is : is_open s.void (at s.limits) ≡ is_open (void h ts) (limit h ts)
  open_is = ap₂ (λ v ws. not v && not (all_single ws)) O.same_void widths_are

  pub widest_same : widest_at (at s.limits) ≡ widest_at (limit h ts)
  widest_same = ap widest_of widths_are

  pub middle_same : (k : ℕ) → k < 8 → middle_at (at s.limits) k ≡ middle_at (limit h ts) k
  middle_same k b = ap₂ (λ x y. half (neg_ℤ (half x) +ℤ half y)) (O.entries (2 * k + 1) (2 * k + 1) (omega arith) (omega arith)) (O.entries (2 * k) (2 * k) (omega arith) (omega arith))

  module _ (e : is_open (void h ts) (limit h ts) ≡ true) where
    abbrev wide_k : ℕ
    wide_k = widest_at (limit h ts)

    abbrev wide_m : ℤ
    wide_m = middle_at (limit h ts) (widest_at (limit h ts))

    abbrev W : Wide h O.passes ts wide_k wide_m
    W = wide h O.passes ts e

    unfoldable pub lower_split : Cut
    lower_split = lower_cut h O.passes ts wide_k wide_m W

    unfoldable pub upper_split : Cut
    upper_split = upper_cut h O.passes ts wide_k wide_m W

    pub lower_is : lower_of s ≡ cut_to s lower_split.p lower_split.q lower_split.c
    unfolding lower_split lower_cut
    lower_is = cond-true _ _ s (open_is ∙ e) ∙ ap (λ j. cut_to s (2 * j) (2 * j) (up_to (middle_at (at s.limits) j))) widest_same ∙ ap (λ z. cut_to s (2 * wide_k) (2 * wide_k) (up_to z)) (middle_same wide_k W.room)

    pub upper_is : upper_of s ≡ cut_to s upper_split.p upper_split.q upper_split.c
    unfolding upper_split upper_cut
    upper_is = cond-true _ _ s (open_is ∙ e) ∙ ap (λ j. cut_to s (2 * j + 1) (2 * j + 1) (from_next (middle_at (at s.limits) j))) widest_same ∙ ap (λ z. cut_to s (2 * wide_k + 1) (2 * wide_k + 1) (from_next z)) (middle_same wide_k W.room)

    pub lower_octagon : OctagonOf h (ts ++ (lower_split ∷ [])) (lower_of s)
    lower_octagon = subst (OctagonOf h (ts ++ (lower_split ∷ []))) (sym lower_is) (cut_of h ts s O lower_split)

    pub upper_octagon : OctagonOf h (ts ++ (upper_split ∷ [])) (upper_of s)
    upper_octagon = subst (OctagonOf h (ts ++ (upper_split ∷ []))) (sym upper_is) (cut_of h ts s O upper_split)

  pub lower_same : is_open (void h ts) (limit h ts) ≡ false → lower_of s ≡ s
  lower_same e = cond-false _ _ s (open_is ∙ e)

  pub upper_same : is_open (void h ts) (limit h ts) ≡ false → upper_of s ≡ s
  upper_same e = cond-false _ _ s (open_is ∙ e)
