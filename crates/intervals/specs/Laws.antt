-- The interval box means what a shape means: every law, from what each operation keeps. Assumes nothing.
use Rattle.std.specs.Prelude.{◌≡◌, ℕ, ◌<◌, ◌≤◌, Bool, true, false, cond, ◌||◌, List, length, take, ℤ, pos, ◌+ℤ◌, ◌≤ℤ◌, is_some, Some, None, refl}
use Rattle.std.proofs.Common.{sym, subst, ◌∙◌, arith}
use Rattle.std.proofs.lemmas.List.{length-take-le, get_or-take, ext_get_or}
use Rattle.std.proofs.lemmas.List.FromFn.{length-map-range_with_len, get_or-map-range_with_len}
use Rattle.std.proofs.lemmas.Int.{ints}
use Rattle.std.proofs.lemmas.Bool.{both_ways, cond-true, cond-false}
use Rattle.std.proofs.lemmas.Bool.Decides.{Decides-like}
use Rattle.interface.specs.declared.extent.Extent.TheVariants.{Void, Lone, Open}
use Rattle.interface.specs.declared.home.Home.{Home}
use Rattle.interface.specs.declared.home.Span.{Span}
use Rattle.interface.specs.declared.point.Point.{Point}
use Rattle.interface.specs.Homes.{Passes, InHome}
use Rattle.interface.specs.Points.{values_of}
use Rattle.interface.specs.Shapes.{ShapeLaws, Made}
use Rattle.interface.proofs.Homes.{passed_n}
use Rattle.halving.specs.Halvings.{widest_of}
use Rattle.halving.proofs.Lowers.{halvings_some}
use Rattle.halving.proofs.Places.{widest_is}
use Rattle.intervals.specs.declared.interval_box.IntervalBox.{IntervalBox}
use Rattle.intervals.specs.Boxes.{low_at, widths_of, greatest, at_most}
use Rattle.intervals.specs.Answers.{start_box, clipped, limited, limit_box, closed, lower_box, upper_box, middle, extent_box, holds_box, all_lows, offer_box, halvings_box}
use Rattle.intervals.specs.Model.{box_model}
use Rattle.intervals.specs.Cutting.{cut_cuts}
use Rattle.intervals.specs.Extents.{void_says, closed_says, Lonely, lone_says, Opened, open_says}
use Rattle.intervals.specs.Holding.{In, coord, holds_decides}
use Rattle.intervals.specs.Limits.{off_limited, opposite_limited, void_limited, limit_is_within, limit_is_even, sum_below, lone_sum}
use Rattle.intervals.specs.Sound.{Sound, start_sound, home_span_at}
use Rattle.intervals.specs.Splitting.{lower_restricts, upper_restricts, lower_lowers, upper_lowers, holds_not, split_counts}
use Rattle.intervals.specs.Widths.{length_widths, width_at, halvings_full}

-- the two parts are the box itself, or those of an open box
part_cases : (s t : IntervalBox) (v a : Bool) (P : IntervalBox → Type 0) → P s → (cond v Void (cond a Lone Open) ≡ Open → P (cond (v || a) s t)) → P (cond (v || a) s t)
part_cases s t true a P same parts = same
part_cases s t false true P same parts = same
part_cases s t false false P same parts = parts refl

lower_cases : (s : IntervalBox) (P : IntervalBox → Type 0) → P s → (extent_box s ≡ Open → P (lower_box s)) → P (lower_box s)
lower_cases s P same parts = part_cases s (at_most s (widest_of (widths_of s)) (middle s (widest_of (widths_of s)))) s.void _ P same parts

upper_cases : (s : IntervalBox) (P : IntervalBox → Type 0) → P s → (extent_box s ≡ Open → P (upper_box s)) → P (upper_box s)
upper_cases s P same parts = part_cases s _ s.void _ P same parts

-- every made box is sound, by the ways in which it is made
pub made_sound : {s : IntervalBox} → Made box_model s → Sound s
made_sound (Made.by_start h ok) = start_sound h ok
made_sound (Made.by_cut {s} m t) = (cut_cuts s (made_sound m) t).sound
made_sound (Made.by_lower {s} m) = let sd = made_sound m in lower_cases s Sound sd (λ o. (lower_restricts s sd (open_says s sd o)).sound)
made_sound (Made.by_upper {s} m) = let sd = made_sound m in upper_cases s Sound sd (λ o. (upper_restricts s sd (open_says s sd o)).sound)

abbrev Within : ℤ → Span → Type 0
Within z r = (r.low ≤ℤ z) × (z ≤ℤ r.high)

-- a home's points are those of the box that starts from it
start_in : (h : Home) → Passes h → (x : List ℤ) → (In (start_box h) x → InHome h x) × (InHome h x → In (start_box h) x)
start_in h ok x =
    let most = (passed_n h ok).1 in (
      (λ i. (i.sized, λ k l. subst (Within (coord x k)) (home_span_at h k most l) (i.inside k l))),
      (λ i. record { full = refl; sized = i.0; inside = λ k l. subst (Within (coord x k)) (sym (home_span_at h k most l)) (i.1 k l) }),
    )

low_is : (s : IntervalBox) → Sound s → (k : ℕ) → k < s.n → coord (take s.n (all_lows s)) k ≡ low_at s k
unfolding all_lows
low_is s sd k l = get_or-take s.n (all_lows s) k (pos 0) l ∙ get_or-map-range_with_len (low_at s) 0 8 k k (pos 0) (omega (arith, sd.most)) (omega arith)

length_lows : (s : IntervalBox) → length (all_lows s) ≡ 8
unfolding all_lows
length_lows s = length-map-range_with_len (low_at s) 0 8

-- a full box holds the point of all lows
lows_in : (s : IntervalBox) → Sound s → s.void ≡ false → In s (take s.n (all_lows s))
lows_in s sd e = record {
  full = e;
  sized = length-take-le s.n (all_lows s) (omega (arith, sd.most, length_lows s));
  inside = λ k l. let same = low_is s sd k l in (omega (arith, ints, same), omega (arith, ints, same, (sd.good k).ordered));
}

lone_one : (s : IntervalBox) → Sound s → Lonely s → (y : List ℤ) → In s y → y ≡ take s.n (all_lows s)
lone_one s sd o y i =
    let l = lows_in s sd o.full in
    ext_get_or (pos 0) y (take s.n (all_lows s)) (i.sized ∙ sym l.sized) (λ k h. let k<n : k < s.n = omega (arith, i.sized) in let a = i.inside k k<n in let same = low_is s sd k k<n in omega (arith, ints, a, same, o.level k))

offer_in : (s : IntervalBox) → Sound s → (x : Point) → offer_box s ≡ Some x → In s (values_of x)
offer_in s sd x e = by s.void refl e
  where
    by : (v : Bool) → s.void ≡ v → cond v None (Some (record { n = s.n; values = all_lows s })) ≡ Some x → In s (values_of x)
    by true f g = cc
    by false f g = let same : record { n = s.n; values = all_lows s } ≡ x = cc in subst (λ y. In s (values_of y)) same (lows_in s sd f)

offer_some : (s : IntervalBox) → s.void ≡ false → is_some (offer_box s) ≡ true
offer_some s e = subst (λ v. is_some {T = Point} (cond v None (Some (record { n = s.n; values = all_lows s }))) ≡ true) (sym e) refl

open_some : (s : IntervalBox) → Opened s → 1 ≤ halvings_box s
open_some s o =
    let k<8 : widest_of (widths_of s) < 8 = omega (arith, (widest_is (widths_of s) 7 (length_widths s)).0, length_widths s) in
    omega (arith, halvings_full s o.full, halvings_some (widths_of s) (widest_of (widths_of s)) (omega (arith, k<8, length_widths s)) (omega (arith, width_at s (widest_of (widths_of s)) k<8, o.wide)))

pub box_laws : ShapeLaws box_model
box_laws = record {
  start_n = λ h ok. refl;
  start_holds = λ h ok x. Decides-like (holds_box (start_box h) x) (start_in h ok x).0 (start_in h ok x).1 (holds_decides (start_box h) x);
  cut_n = λ s m t. (cut_cuts s (made_sound m) t).same_n;
  split_n = λ s m. (lower_cases s (λ r. r.n ≡ s.n) refl (λ o. (lower_restricts s (made_sound m) (open_says s (made_sound m) o)).same_n), upper_cases s (λ r. r.n ≡ s.n) refl (λ o. (upper_restricts s (made_sound m) (open_says s (made_sound m) o)).same_n));
  cut_keeps = λ s m t x e met. (holds_decides (box_model.cut s t) x).1 ((cut_cuts s (made_sound m) t).keeps x ((holds_decides s x).0 e) met);
  cut_adds_none = λ s m t x e. (holds_decides s x).1 ((cut_cuts s (made_sound m) t).adds_none x ((holds_decides (box_model.cut s t) x).0 e));
  void_holds = λ s m v x. holds_not s x (λ i. both_ways s.void i.full (void_says s v));
  lone_holds = λ s m l. (take s.n (all_lows s), (holds_decides s (take s.n (all_lows s))).1 (lows_in s (made_sound m) (lone_says s (made_sound m) l).full), λ y e. lone_one s (made_sound m) (lone_says s (made_sound m) l) y ((holds_decides s y).0 e));
  limit_above = λ s m x e p q on-p on-q. sum_below s (made_sound m) x ((holds_decides s x).0 e) p q on-p on-q;
  limit_within = λ s m p q. limit_is_within s (made_sound m) p q;
  limit_even = λ s m p. limit_is_even s (made_sound m) p;
  lone_limit = λ s m l x e p q on-p on-q. lone_sum s (made_sound m) x ((holds_decides s x).0 e) p q on-p on-q (lone_says s (made_sound m) l);
  limit_opposite = λ s m p. zero_limit s m p _ (opposite_limited s p);
  limit_off = λ s m p q off. (zero_limit s m p q (off_limited s p q off).0, zero_limit s m q p (off_limited s p q off).1);
  limit_void = λ s m v p q. zero_limit s m p q (void_limited s p q (void_says s v));
  offer_holds = λ s m x e. (holds_decides s (values_of x)).1 (offer_in s (made_sound m) x e);
  lone_offers = λ s m l. offer_some s (lone_says s (made_sound m) l).full;
  cut_halvings = λ s m t. (cut_cuts s (made_sound m) t).fewer;
  open_halvings = λ s m o. open_some s (open_says s (made_sound m) o);
  split_holds = λ s m o x. split_counts s (made_sound m) (open_says s (made_sound m) o) x;
  split_halvings = λ s m o. (lower_lowers s (made_sound m) (open_says s (made_sound m) o), upper_lowers s (made_sound m) (open_says s (made_sound m) o));
  split_same = λ s m ne. (cond-true (closed s) s _ (closed_says s ne), cond-true (closed s) s _ (closed_says s ne));
}
  where
    zero_limit : (s : IntervalBox) → Made box_model s → (p q : ℕ) → limited s p q ≡ false → limit_box s p q ≡ pos 0
    zero_limit s m p q e = cond-false (limited s p q) (clipped (greatest s p +ℤ greatest s q)) (pos 0) e
