-- What an interval box answers to each question. Assumes nothing.
use Rattle.std.specs.Prelude.{ℕ, Bool, false, cond, not, ◌&&◌, ◌||◌, List, map, length, ℤ, pos, ◌+ℤ◌, ◌-ℤ◌, neg_ℤ, Some, None, Option, ◌==◌, int_le, slice_index_or}
use Rattle.std.specs.List.{range_with_len}
use Rattle.std.specs.Int.{int_min, int_max}
use Rattle.interface.specs.declared.cut.Cut.{Cut}
use Rattle.interface.specs.declared.extent.Extent.{Extent}
use Rattle.interface.specs.declared.extent.Extent.TheVariants.{Void, Lone, Open}
use Rattle.interface.specs.declared.home.Home.{Home}
use Rattle.interface.specs.declared.home.Span.{Span}
use Rattle.interface.specs.declared.point.Point.{Point}
use Rattle.interface.specs.Homes.{low_of, high_of, eight_spans}
use Rattle.interface.specs.Nodes.{opp}
use Rattle.interface.specs.Numbers.{half}
use Rattle.halving.specs.First.{every}
use Rattle.halving.specs.Halvings.{all_single, halvings_of, widest_of}
use Rattle.intervals.specs.declared.interval_box.IntervalBox.{IntervalBox}
use Rattle.intervals.specs.Boxes.{low_at, high_at, least, greatest, widths_of, on_line, bounded, at_most, at_least}

-- the home's spans, and 0 past its settings
unfoldable pub home_spans : Home → List Span
home_spans h = eight_spans h.n (low_of h) (high_of h)

abbrev pub start_box : Home → IntervalBox
start_box h = record { n = h.n; void = false; spans = home_spans h }

-- A cut with p = q bounds v(p) by c halved. Another bounds each of v(p) and v(q) by c less the least of the other, as it was before the cut.
-- One with a node that is not on the line changes nothing.
abbrev pub cut_box : IntervalBox → Cut → IntervalBox
cut_box s t = cond (on_line s t.p && on_line s t.q) (cond (t.p == t.q) (bounded s t.p (half t.c)) (bounded (bounded s t.p (t.c -ℤ least s t.q)) t.q (t.c -ℤ least s t.p))) s

-- void, or no range has two values: nothing is left to split
abbrev pub closed : IntervalBox → Bool
closed s = s.void || all_single (widths_of s)

-- the middle of setting k's range, rounded down
abbrev pub middle : IntervalBox → ℕ → ℤ
middle s k = half (low_at s k +ℤ high_at s k)

-- the widest range, the first among equals, up to its middle, and from the value after that on
abbrev pub lower_box : IntervalBox → IntervalBox
lower_box s = cond (closed s) s (at_most s (widest_of (widths_of s)) (middle s (widest_of (widths_of s))))

abbrev pub upper_box : IntervalBox → IntervalBox
upper_box s = cond (closed s) s (at_least s (widest_of (widths_of s)) (middle s (widest_of (widths_of s)) +ℤ pos 1))

abbrev pub extent_box : IntervalBox → Extent
extent_box s = cond s.void Void (cond (all_single (widths_of s)) Lone Open)

-- the number nearest to z within two million of 0; no made box has a sum beyond
abbrev pub clipped : ℤ → ℤ
clipped z = int_max (neg_ℤ (pos 2000000)) (int_min z (pos 2000000))

-- the box has a limit at p and q
abbrev pub limited : IntervalBox → ℕ → ℕ → Bool
limited s p q = not s.void && (on_line s p && (on_line s q && not (q == opp p)))

-- the sum of the two greatest values
abbrev pub limit_box : IntervalBox → ℕ → ℕ → ℤ
limit_box s p q = cond (limited s p q) (clipped (greatest s p +ℤ greatest s q)) (pos 0)

-- z lies in the range of setting k
abbrev pub in_range : IntervalBox → ℕ → ℤ → Bool
in_range s k z = int_le (low_at s k) z && int_le z (high_at s k)

abbrev pub holds_box : IntervalBox → List ℤ → Bool
holds_box s x = not s.void && (length x == s.n && every (λ k. in_range s k (slice_index_or x k (pos 0))) s.n)

unfoldable pub all_lows : IntervalBox → List ℤ
all_lows s = map (low_at s) (range_with_len 0 8)

abbrev pub offer_box : IntervalBox → Option Point
offer_box s = cond s.void None (Some (record { n = s.n; values = all_lows s }))

abbrev pub halvings_box : IntervalBox → ℕ
halvings_box s = cond s.void 0 (halvings_of (widths_of s))
