-- The widths of a box's ranges: read by setting, and how narrowing one range moves the halvings. Assumes nothing.
use Rattle.std.specs.Prelude.{◌≡◌, ℕ, ◌*◌, ◌<◌, ◌≤◌, false, length, ℤ, ◌≤ℤ◌, slice_index, refl}
use Rattle.std.proofs.Common.{⊎_elim, sym, subst, ◌∙◌, le_refl, arith}
use Rattle.std.proofs.lemmas.List.FromFn.{length-map-range_with_len, get_or-map-range_with_len}
use Rattle.std.proofs.lemmas.List.{get_or_past}
use Rattle.std.proofs.lemmas.Int.{ints}
use Rattle.std.proofs.lemmas.Bool.{both_ways, cases_lt, cond-false}
use Rattle.halving.specs.Halvings.{width, halvings_of, Narrower}
use Rattle.halving.proofs.Lowers.{halving_lowers}
use Rattle.intervals.specs.declared.interval_box.IntervalBox.{IntervalBox}
use Rattle.intervals.specs.Boxes.{low_at, high_at, widths_of, with_range, narrowed}
use Rattle.intervals.specs.Answers.{halvings_box}
use Rattle.intervals.specs.Sound.{Sound, narrowed_cases, range_cases}

pub length_widths : (s : IntervalBox) → length (widths_of s) ≡ 8
unfolding widths_of
length_widths s = length-map-range_with_len (λ k. width (low_at s k) (high_at s k)) 0 8

pub width_at : (s : IntervalBox) (k : ℕ) → k < 8 → slice_index (widths_of s) k ≡ width (low_at s k) (high_at s k)
unfolding widths_of
width_at s k h = get_or-map-range_with_len (λ k. width (low_at s k) (high_at s k)) 0 8 k k 0 h (omega arith)

pub halvings_full : (s : IntervalBox) → s.void ≡ false → halvings_box s ≡ halvings_of (widths_of s)
halvings_full s e = cond-false s.void 0 (halvings_of (widths_of s)) e

module _ (s : IntervalBox) (sd : Sound s) (k : ℕ) (on : k < s.n) (lo hi : ℤ) (above : low_at s k ≤ℤ lo) (below : hi ≤ℤ high_at s k) where
  width_le : lo ≤ℤ hi → (j : ℕ) → width (low_at (with_range s k lo hi) j) (high_at (with_range s k lo hi) j) ≤ width (low_at s j) (high_at s j)
  width_le le j = range_cases s k lo hi j (λ a b. width a b ≤ width (low_at s j) (high_at s j)) sd (omega (arith, sd.most)) (λ e. subst (λ i. width lo hi ≤ width (low_at s i) (high_at s i)) (sym e) (omega (arith, ints, le, above, below))) (λ _. le_refl (width (low_at s j) (high_at s j)))

  narrower : lo ≤ℤ hi → Narrower (widths_of (with_range s k lo hi)) (widths_of s)
  narrower le = (length_widths (with_range s k lo hi) ∙ sym (length_widths s), λ j. ⊎_elim (λ (h : j < 8). omega (arith, width_at (with_range s k lo hi) j h, width_at s j h, width_le le j)) (λ (h : 8 ≤ j). omega (arith, get_or_past (widths_of (with_range s k lo hi)) j 0 (omega (arith, length_widths (with_range s k lo hi))))) (cases_lt j 8))

  pub narrowed_fewer : halvings_box (narrowed s k lo hi) ≤ halvings_box s
  narrowed_fewer = narrowed_cases s k lo hi (λ r. halvings_box r ≤ halvings_box s) (λ _. le_refl (halvings_box s)) (λ _ _. omega arith) (λ e le. omega (arith, halvings_full s e, halvings_full (with_range s k lo hi) e, (halving_lowers (widths_of (with_range s k lo hi)) (widths_of s) (narrower le)).0))

  -- a range of two values or more that is left with half its width
  pub narrowed_lowers : s.void ≡ false → lo ≤ℤ hi → 0 < width (low_at s k) (high_at s k) → 2 * width lo hi ≤ width (low_at s k) (high_at s k) → halvings_box (narrowed s k lo hi) < halvings_box s
  narrowed_lowers full le some half =
      let k<8 : k < 8 = omega (arith, sd.most) in
      let here : width (low_at (with_range s k lo hi) k) (high_at (with_range s k lo hi) k) ≡ width lo hi = range_cases s k lo hi k (λ a b. width a b ≡ width lo hi) sd k<8 (λ _. refl) (λ ne. absurd (ne refl)) in
      narrowed_cases s k lo hi (λ r. halvings_box r < halvings_box s) (λ e. absurd (both_ways s.void full e)) (λ _ l. absurd (omega (arith, ints, l, le))) (λ e _. omega (arith, halvings_full s e, halvings_full (with_range s k lo hi) e, (halving_lowers (widths_of (with_range s k lo hi)) (widths_of s) (narrower le)).1 k (omega (arith, length_widths s), omega (arith, width_at s k k<8), omega (arith, width_at s k k<8, width_at (with_range s k lo hi) k k<8, here))))
