-- The frames of a region, from its limits and its point alone. Assumes nothing.
use Rattle.std.specs.Prelude.{ℕ, ◌*◌, ◌/◌, ◌%◌, min, Bool, cond, not, ◌&&◌, List, [], ◌∷◌, take, ℤ, ◌+ℤ◌, ◌==◌, int_lt, nat_lt}
use Rattle.std.specs.Int.{w32}
use Rattle.std.proofs.Common.{of_z}
use Rattle.std.specs.List.{range_with_len, flat_map}
use Rattle.interface.specs.declared.home.Home.{Home}
use Rattle.interface.specs.declared.point.Point.{Point}
use Rattle.interface.specs.declared.reading.Reading.{Reading}
use Rattle.interface.specs.Homes.{eight_spans}
use Rattle.interface.specs.Nodes.{opp}
use Rattle.interface.specs.Numbers.{half}
use Rattle.interface.specs.Readings.{limit_at, low_in, high_in}
use Rattle.wire.specs.Bytes.{be}
use Rattle.wire.specs.HomeFrame.{write_home}

-- the four bytes of a number by two's complement, the highest first
abbrev pub word : ℤ → List ℕ
word z = be 4 (of_z w32 z)

-- the values that are written: a point has at most eight
abbrev pub point_values : Point → List ℤ
point_values x = take (min x.n 8) x.values

-- 10, n and the point's values
abbrev pub point_frame : Point → List ℕ
point_frame x = 16 ∷ x.n ∷ flat_map word (point_values x)

-- the ranges as a home; 0 past the settings
abbrev pub ranges_of : Reading → Home
ranges_of g = record { n = g.n; spans = eight_spans g.n (low_in g) (high_in g) }

abbrev pub ranges_frame : Reading → List ℕ
ranges_frame g = write_home (ranges_of g)

-- two nodes in their order that are not opposite
abbrev pub ordered : ℕ → ℕ → Bool
ordered p q = nat_lt p q && not (q == opp p)

-- the limit says more than the ranges do: it is below half of the two limits of the nodes with themselves
abbrev pub tells_more : Reading → ℕ → ℕ → Bool
tells_more g p q = int_lt (limit_at g p q) (half (limit_at g p p +ℤ limit_at g q q))

abbrev pub pair_written : Reading → ℕ → ℕ → Bool
pair_written g p q = ordered p q && (nat_lt q (2 * g.n) && tells_more g p q)

-- 02, the nodes and their limit
abbrev pub pair_frame : Reading → ℕ → ℕ → List ℕ
pair_frame g p q = 2 ∷ p ∷ q ∷ word (limit_at g p q)

abbrev pub pair_at : Reading → ℕ → List (List ℕ)
pair_at g k = cond (pair_written g (k / 16) (k % 16)) (pair_frame g (k / 16) (k % 16) ∷ []) []

-- ascending by p, and then by q, for nodes below 16
unfoldable pub pair_frames : Reading → List (List ℕ)
pair_frames g = flat_map (pair_at g) (range_with_len 0 256)

abbrev pub region_frames : Reading → Point → List (List ℕ)
region_frames g x = point_frame x ∷ ranges_frame g ∷ pair_frames g
