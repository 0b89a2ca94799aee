-- A home: its check, and the points within it. Assumes nothing.
use Rattle.std.specs.Prelude.{◌≡◌, ℕ, ◌+◌, ◌*◌, ◌<◌, Bool, cond, not, ◌&&◌, List, [], ◌∷◌, map, length, ℤ, pos, ◌≤ℤ◌, Ok, Result, int_lt, nat_lt, slice_index_or}
use Rattle.std.specs.List.{range_with_len, flat_map}
use Rattle.interface.specs.declared.fault.RecordFault.{RecordFault}
use Rattle.interface.specs.declared.fault.RecordFault.TheVariants.{Settings, Range, Crossed}
use Rattle.interface.specs.declared.home.Home.{Home}
use Rattle.interface.specs.declared.home.Span.{Span}
use Rattle.interface.specs.Grounds.{first_fault, next}
use Rattle.interface.specs.Numbers.{within}

-- the span of one value, 0
abbrev pub zero_span : Span
zero_span = record { low = pos 0; high = pos 0 }

-- the low and the high of setting k
abbrev pub low_of : Home → ℕ → ℤ
low_of h k = (slice_index_or h.spans k zero_span).low

abbrev pub high_of : Home → ℕ → ℤ
high_of h k = (slice_index_or h.spans k zero_span).high

-- eight spans by their index, from low to high, and 0 past the first n
abbrev pub span_or_0 : ℕ → (ℕ → ℤ) → (ℕ → ℤ) → ℕ → Span
span_or_0 n low high k = cond (nat_lt k n) (record { low = low k; high = high k }) zero_span

abbrev pub eight_spans : ℕ → (ℕ → ℤ) → (ℕ → ℤ) → List Span
eight_spans n low high = map (span_or_0 n low high) (range_with_len 0 8)

-- In a home's frame the number of settings is byte 2, and setting k's low and high start at bytes 3 + 8k and 7 + 8k.
abbrev pub range_grounds : Home → ℕ → List (Bool × RecordFault)
range_grounds h k = (not (within 1000000 (low_of h k)), Range (3 + 8 * k)) ∷ (not (within 1000000 (high_of h k)), Range (7 + 8 * k)) ∷ []

abbrev pub crossed_grounds : Home → ℕ → List (Bool × RecordFault)
crossed_grounds h k = (int_lt (high_of h k) (low_of h k), Crossed (7 + 8 * k)) ∷ []

abbrev pub settings_grounds : Home → List (Bool × RecordFault)
settings_grounds h = (not (nat_lt 0 h.n && nat_lt h.n 9), Settings 2) ∷ []

-- each ground is tried on every setting before the next
abbrev pub home_check : Home → Result (Unit {0}) RecordFault
home_check h = next (first_fault (settings_grounds h)) (next (first_fault (flat_map (range_grounds h) (range_with_len 0 h.n))) (first_fault (flat_map (crossed_grounds h) (range_with_len 0 h.n))))

abbrev pub Passes : Home → Type 0
Passes h = home_check h ≡ Ok tt

-- the point x gives each setting a value from its low to its high
abbrev pub InHome : Home → List ℤ → Type 0
InHome h x = (length x ≡ h.n) × ((k : ℕ) → k < h.n → (low_of h k ≤ℤ slice_index_or x k (pos 0)) × (slice_index_or x k (pos 0) ≤ℤ high_of h k))
