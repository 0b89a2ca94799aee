-- An open box's parts: the values up to the middle and those after it, so each held point lies in one, and each part has half the width. Assumes nothing.
use Rattle.std.specs.Prelude.{◌≡◌, ℕ, ◌+◌, ◌<◌, Bool, true, false, List, ℤ, pos, ◌+ℤ◌, ◌≤ℤ◌, refl}
use Rattle.std.proofs.Common.{sym, subst, arith}
use Rattle.std.proofs.lemmas.Int.{ints, clamps, by_lt_z}
use Rattle.std.proofs.lemmas.Bool.{both_ways, cond-false}
use Rattle.std.specs.Int.{int_min, int_max}
use Rattle.interface.specs.Shapes.{one_if}
use Rattle.interface.proofs.Halves.{half_is}
use Rattle.halving.specs.Halvings.{widest_of}
use Rattle.intervals.specs.declared.interval_box.IntervalBox.{IntervalBox}
use Rattle.intervals.specs.Boxes.{low_at, high_at, widths_of, at_most, at_least}
use Rattle.intervals.specs.Answers.{closed, middle, lower_box, upper_box, holds_box, halvings_box}
use Rattle.intervals.specs.Extents.{Opened}
use Rattle.intervals.specs.Holding.{In, coord, holds_decides}
use Rattle.intervals.specs.Restricts.{Restricts, at_most_restricts, at_least_restricts}
use Rattle.intervals.specs.Sound.{Sound}
use Rattle.intervals.specs.Widths.{narrowed_lowers}

module _ (s : IntervalBox) (sd : Sound s) (o : Opened s) where
  abbrev at : ℕ
  at = widest_of (widths_of s)

  abbrev mid : ℤ
  mid = middle s (widest_of (widths_of s))

  pub lower_is : lower_box s ≡ at_most s at mid
  lower_is = cond-false (closed s) s (at_most s at mid) o.unclosed

  pub upper_is : upper_box s ≡ at_least s at (mid +ℤ pos 1)
  upper_is = cond-false (closed s) s (at_least s at (mid +ℤ pos 1)) o.unclosed

  pub lower_restricts : Restricts s (lower_box s) (λ x. coord x at ≤ℤ mid)
  lower_restricts = subst (λ r. Restricts s r (λ x. coord x at ≤ℤ mid)) (sym lower_is) (at_most_restricts s sd at o.on mid)

  pub upper_restricts : Restricts s (upper_box s) (λ x. (mid +ℤ pos 1) ≤ℤ coord x at)
  upper_restricts = subst (λ r. Restricts s r (λ x. (mid +ℤ pos 1) ≤ℤ coord x at)) (sym upper_is) (at_least_restricts s sd at o.on (mid +ℤ pos 1))

  pub lower_lowers : halvings_box (lower_box s) < halvings_box s
  lower_lowers =
      let h = half_is (low_at s at +ℤ high_at s at) in
      let w = o.wide in
      let g = (sd.good at).ordered in
      subst (λ r. halvings_box r < halvings_box s) (sym lower_is) (narrowed_lowers s sd at o.on (low_at s at) (int_min mid (high_at s at)) (omega (arith, ints)) (omega (arith, ints, clamps)) o.full (omega (arith, ints, clamps, h, g)) w (omega (arith, ints, clamps, h, g)))

  pub upper_lowers : halvings_box (upper_box s) < halvings_box s
  upper_lowers =
      let h = half_is (low_at s at +ℤ high_at s at) in
      let w = o.wide in
      let g = (sd.good at).ordered in
      subst (λ r. halvings_box r < halvings_box s) (sym upper_is) (narrowed_lowers s sd at o.on (int_max (mid +ℤ pos 1) (low_at s at)) (high_at s at) (omega (arith, ints, clamps)) (omega (arith, ints)) o.full (omega (arith, ints, clamps, h, g, w)) w (omega (arith, ints, clamps, h, g, w)))

-- a box that does not hold the point answers so
pub holds_not : (s : IntervalBox) (x : List ℤ) → (In s x → ⊥) → holds_box s x ≡ false
holds_not s x h = by (holds_box s x) refl
  where
    by : (b : Bool) → holds_box s x ≡ b → b ≡ false
    by true e = absurd (h ((holds_decides s x).0 e))
    by false e = refl

tally : (a b c u v w : Bool) → a ≡ u → b ≡ v → c ≡ w → one_if u + one_if v ≡ one_if w → one_if a + one_if b ≡ one_if c
tally a b c u v w p q r e = cc

module _ (s : IntervalBox) (sd : Sound s) (o : Opened s) (x : List ℤ) where
  abbrev l : Bool
  l = holds_box (lower_box s) x

  abbrev u : Bool
  u = holds_box (upper_box s) x

  pub split_counts : one_if l + one_if u ≡ one_if (holds_box s x)
  split_counts = by (holds_box s x) refl
    where
      low : Restricts s (lower_box s) (λ y. coord y (widest_of (widths_of s)) ≤ℤ middle s (widest_of (widths_of s)))
      low = lower_restricts s sd o

      up : Restricts s (upper_box s) (λ y. (middle s (widest_of (widths_of s)) +ℤ pos 1) ≤ℤ coord y (widest_of (widths_of s)))
      up = upper_restricts s sd o

      by : (b : Bool) → holds_box s x ≡ b → one_if l + one_if u ≡ one_if b
      by false e = tally l u false false false false (holds_not (lower_box s) x (λ i. both_ways (holds_box s x) e ((holds_decides s x).1 (low.adds_none x i).0))) (holds_not (upper_box s) x (λ i. both_ways (holds_box s x) e ((holds_decides s x).1 (up.adds_none x i).0))) refl refl
      by true e = let i = (holds_decides s x).0 e in by_lt_z (middle s (widest_of (widths_of s))) (coord x (widest_of (widths_of s))) (λ h. tally l u true false true true (holds_not (lower_box s) x (λ j. omega (arith, ints, h, (low.adds_none x j).1))) ((holds_decides (upper_box s) x).1 (up.keeps x i (omega (arith, ints, h)))) refl refl) (λ h. tally l u true true false true ((holds_decides (lower_box s) x).1 (low.keeps x i h)) (holds_not (upper_box s) x (λ j. omega (arith, ints, h, (up.adds_none x j).1))) refl refl)
