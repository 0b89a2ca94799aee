-- What each extent says of a box, and the widest range of an open one. Assumes nothing.
use Rattle.std.specs.Prelude.{◌≡◌, ℕ, ◌<◌, ◌≤◌, Bool, true, false, cond, ◌||◌, ◌≢◌, nat_eq, slice_index, slice_index_or, refl}
use Rattle.std.proofs.Common.{⊎_elim, sym, ap, ◌∙◌, arith}
use Rattle.std.proofs.lemmas.List.{get_or_past}
use Rattle.std.proofs.lemmas.Int.{ints}
use Rattle.std.proofs.lemmas.Bool.{both_ways, cases_lt, eqb-true, eq-eqb}
use Rattle.interface.specs.declared.extent.Extent.TheVariants.{Void, Lone, Open}
use Rattle.halving.specs.Halvings.{width, widest_of, all_single}
use Rattle.halving.proofs.First.{all_decides}
use Rattle.halving.proofs.Places.{widest_is}
use Rattle.intervals.specs.declared.interval_box.IntervalBox.{IntervalBox}
use Rattle.interface.specs.Homes.{zero_span}
use Rattle.intervals.specs.Boxes.{low_at, high_at, widths_of}
use Rattle.intervals.specs.Answers.{extent_box, closed}
use Rattle.intervals.specs.Sound.{Sound}
use Rattle.intervals.specs.Widths.{length_widths, width_at}

if_void : (v a : Bool) → cond v Void (cond a Lone Open) ≡ Void → v ≡ true
if_void true a e = refl
if_void false true e = cc
if_void false false e = cc

if_lone : (v a : Bool) → cond v Void (cond a Lone Open) ≡ Lone → (v ≡ false) × (a ≡ true)
if_lone true a e = cc
if_lone false true e = (refl, refl)
if_lone false false e = cc

if_open : (v a : Bool) → cond v Void (cond a Lone Open) ≡ Open → (v ≡ false) × (a ≡ false)
if_open true a e = cc
if_open false true e = cc
if_open false false e = (refl, refl)

if_not_open : (v a : Bool) → cond v Void (cond a Lone Open) ≢ Open → (v || a) ≡ true
if_not_open true a ne = refl
if_not_open false true ne = refl
if_not_open false false ne = absurd (ne refl)

pub void_says : (s : IntervalBox) → extent_box s ≡ Void → s.void ≡ true
void_says s e = if_void s.void (all_single (widths_of s)) e

pub closed_says : (s : IntervalBox) → extent_box s ≢ Open → closed s ≡ true
closed_says s ne = if_not_open s.void (all_single (widths_of s)) ne

pub record Lonely (s : IntervalBox) : Type 0 where
  pub full : s.void ≡ false
  pub level : (k : ℕ) → low_at s k ≡ high_at s k

pub lone_says : (s : IntervalBox) → Sound s → extent_box s ≡ Lone → Lonely s
lone_says s sd e = record { full = p.0; level = level }
  where
    p : (s.void ≡ false) × (all_single (widths_of s) ≡ true)
    p = if_lone s.void (all_single (widths_of s)) e

    level : (k : ℕ) → low_at s k ≡ high_at s k
    level k = ⊎_elim (λ (h : k < 8). let z = eqb-true (slice_index (widths_of s) k) 0 ((all_decides (λ w. nat_eq w 0) (widths_of s)).0 p.1 k (omega (arith, length_widths s))) in omega (arith, ints, z, width_at s k h)) (λ (h : 8 ≤ k). let past = get_or_past s.spans k zero_span (omega (arith, sd.spans_are)) in ap (λ r. r.low) past ∙ sym (ap (λ r. r.high) past)) (cases_lt k 8)

-- an open box: its widest range is on the line and has two values
pub record Opened (s : IntervalBox) : Type 0 where
  pub full : s.void ≡ false
  pub unclosed : closed s ≡ false
  pub on : widest_of (widths_of s) < s.n
  pub wide : 0 < width (low_at s (widest_of (widths_of s))) (high_at s (widest_of (widths_of s)))

pub open_says : (s : IntervalBox) → Sound s → extent_box s ≡ Open → Opened s
open_says s sd e = record { full = p.0; unclosed = rw (p.1, p.0); on = on; wide = wide }
  where
    p : (s.void ≡ false) × (all_single (widths_of s) ≡ false)
    p = if_open s.void (all_single (widths_of s)) e

    k<8 : widest_of (widths_of s) < 8
    k<8 = omega (arith, (widest_is (widths_of s) 7 (length_widths s)).0, length_widths s)

    wide_at : 0 < slice_index (widths_of s) (widest_of (widths_of s))
    wide_at = ⊎_elim (λ (h : 0 < slice_index (widths_of s) (widest_of (widths_of s))). h) (λ (h : slice_index_or (widths_of s) (widest_of (widths_of s)) 0 ≤ 0). absurd (both_ways (all_single (widths_of s)) p.1 ((all_decides (λ w. nat_eq w 0) (widths_of s)).1 (λ j l. eq-eqb (slice_index (widths_of s) j) 0 (omega (arith, (widest_is (widths_of s) 7 (length_widths s)).1 j l, h)))))) (cases_lt 0 (slice_index (widths_of s) (widest_of (widths_of s))))

    wide : 0 < width (low_at s (widest_of (widths_of s))) (high_at s (widest_of (widths_of s)))
    wide = omega (arith, wide_at, width_at s (widest_of (widths_of s)) k<8)

    on : widest_of (widths_of s) < s.n
    on = ⊎_elim (λ (h : widest_of (widths_of s) < s.n). h) (λ (h : s.n ≤ widest_of (widths_of s)). let z = (sd.good (widest_of (widths_of s))).past h in absurd (omega (arith, ints, wide, z.0, z.1))) (cases_lt (widest_of (widths_of s)) s.n)
