-- The interval box: its ranges, and what bounding a setting leaves of it. Assumes nothing.
use Rattle.std.specs.Prelude.{ℕ, ◌*◌, ◌/◌, ◌%◌, Bool, true, cond, List, map, replicate, ℤ, neg_ℤ, ◌==◌, int_lt, nat_lt, slice_index_or, slice_set}
use Rattle.std.specs.List.{range_with_len}
use Rattle.std.specs.Int.{int_min, int_max}
use Rattle.interface.specs.Homes.{zero_span}
use Rattle.halving.specs.Halvings.{width}
use Rattle.intervals.specs.declared.interval_box.IntervalBox.{IntervalBox}

-- the least and the greatest value of setting k
abbrev pub low_at : IntervalBox → ℕ → ℤ
low_at s k = (slice_index_or s.spans k zero_span).low

abbrev pub high_at : IntervalBox → ℕ → ℤ
high_at s k = (slice_index_or s.spans k zero_span).high

-- the least and the greatest v(p): an odd node stands for the negative of its setting
abbrev pub least : IntervalBox → ℕ → ℤ
least s p = cond (p % 2 == 0) (low_at s (p / 2)) (neg_ℤ (high_at s (p / 2)))

abbrev pub greatest : IntervalBox → ℕ → ℤ
greatest s p = cond (p % 2 == 0) (high_at s (p / 2)) (neg_ℤ (low_at s (p / 2)))

-- the widths of the ranges
unfoldable pub widths_of : IntervalBox → List ℕ
widths_of s = map (λ k. width (low_at s k) (high_at s k)) (range_with_len 0 8)

-- the node stands for a setting of the line, or its negative
abbrev pub on_line : IntervalBox → ℕ → Bool
on_line s p = nat_lt p (2 * s.n)

-- the one void box of n settings: its ranges say nothing and are 0
abbrev pub voided : IntervalBox → IntervalBox
voided s = record { n = s.n; void = true; spans = replicate 8 zero_span }

-- the box with another range of setting k
abbrev pub with_range : IntervalBox → ℕ → ℤ → ℤ → IntervalBox
with_range s k low high = record { n = s.n; void = s.void; spans = slice_set s.spans k (record { low = low; high = high }) }

-- the same where the range has a value, else the void box; what is void stays as it is
abbrev pub narrowed : IntervalBox → ℕ → ℤ → ℤ → IntervalBox
narrowed s k low high = cond s.void s (cond (int_lt high low) (voided s) (with_range s k low high))

-- the box without the values of setting k above b, and without those below b
abbrev pub at_most : IntervalBox → ℕ → ℤ → IntervalBox
at_most s k b = narrowed s k (low_at s k) (int_min b (high_at s k))

abbrev pub at_least : IntervalBox → ℕ → ℤ → IntervalBox
at_least s k b = narrowed s k (int_max b (low_at s k)) (high_at s k)

-- the box with v(p) at most b: an odd node bounds its setting from below
unfoldable pub bounded : IntervalBox → ℕ → ℤ → IntervalBox
bounded s p b = cond (p % 2 == 0) (at_most s (p / 2) b) (at_least s (p / 2) (neg_ℤ b))
