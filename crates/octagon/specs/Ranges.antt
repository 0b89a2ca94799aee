-- What follows from the limits alone: ranges, their widths, the extent, the halvings and where to split. Assumes nothing.
use Rattle.std.specs.Prelude.{ℕ, ◌+◌, ◌*◌, Bool, cond, not, ◌&&◌, List, map, ℤ, pos, ◌+ℤ◌, neg_ℤ}
use Rattle.std.specs.List.{range_with_len}
use Rattle.halving.specs.Halvings.{width, widest_of, all_single}
use Rattle.interface.specs.declared.extent.Extent.{Extent}
use Rattle.interface.specs.declared.extent.Extent.TheVariants.{Void, Lone, Open}
use Rattle.interface.specs.Numbers.{half}

-- L is the limits of a shape: the lowest and the highest value of setting k
abbrev pub low_at : (ℕ → ℕ → ℤ) → ℕ → ℤ
low_at L k = neg_ℤ (half (L (2 * k + 1) (2 * k + 1)))

abbrev pub high_at : (ℕ → ℕ → ℤ) → ℕ → ℤ
high_at L k = half (L (2 * k) (2 * k))

-- the widths of the eight ranges: 0 past the last setting
abbrev pub width_at : (ℕ → ℕ → ℤ) → ℕ → ℕ
width_at L k = width (low_at L k) (high_at L k)

unfoldable pub widths : (ℕ → ℕ → ℤ) → List ℕ
widths L = map (width_at L) (range_with_len 0 8)

-- lone when no range has two values
abbrev pub extent_by : Bool → (ℕ → ℕ → ℤ) → Extent
extent_by v L = cond v Void (cond (all_single (widths L)) Lone Open)

-- what is open can be split
abbrev pub is_open : Bool → (ℕ → ℕ → ℤ) → Bool
is_open v L = not v && not (all_single (widths L))

-- the widest range, the first among equals
abbrev pub widest_at : (ℕ → ℕ → ℤ) → ℕ
widest_at L = widest_of (widths L)

-- the middle of a range, rounded down
abbrev pub middle_at : (ℕ → ℕ → ℤ) → ℕ → ℤ
middle_at L k = half (low_at L k +ℤ high_at L k)

-- the cut to values of setting k up to m is (2k, 2k, 2m), that to values from m + 1 is (2k + 1, 2k + 1, -2(m + 1))
abbrev pub up_to : ℤ → ℤ
up_to m = m +ℤ m

abbrev pub from_next : ℤ → ℤ
from_next m = neg_ℤ (m +ℤ pos 1) +ℤ neg_ℤ (m +ℤ pos 1)
