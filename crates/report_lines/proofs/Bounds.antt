-- A region's lines have at most 69 + 133 + 112 · 15 bytes: of the 256 pairs of nodes 112 are ordered and not opposite. Assumes nothing.
use Rattle.std.proofs.Common.{◌≡◌, ℕ, ◌+◌, ◌*◌, ◌/◌, ◌%◌, ◌≤◌, min, Bool, true, false, cond, ◌&&◌, ltb, List, [], ◌∷◌, ◌++◌, length, filter, refl, arith}
use Rattle.std.specs.List.{range_with_len, flat_map}
use Rattle.std.proofs.lemmas.List.FromFn.{length-map-range_with_len}
use Rattle.std.proofs.lemmas.List.{length-take}
use Rattle.interface.specs.declared.point.Point.{Point}
use Rattle.interface.specs.declared.reading.Reading.{Reading}
use Rattle.wire.specs.HomeFrame.{home_byte}
use Rattle.wire.specs.Appending.{line_size, lines_size}
use Rattle.report_lines.specs.RegionFrames.{ordered, tells_more, point_values, point_frame, ranges_of, ranges_frame, pair_frame, pair_at, pair_frames, region_frames}
use Rattle.report_lines.proofs.Pointed.{words_long}

abbrev ordered_at : ℕ → Bool
ordered_at k = ordered (k / 16) (k % 16)

ordered_count : length (filter ordered_at (range_with_len 0 256)) ≡ 112
ordered_count = refl

module _ (g : Reading) where
  -- a pair that is written is ordered, and its line has 15 bytes
  pairs_size : (ks : List ℕ) → lines_size (flat_map (pair_at g) ks) ≤ 15 * length (filter ordered_at ks)
  pairs_size [] = omega arith
  pairs_size (k ∷ ks) = by (ordered_at k) (ltb (k % 16) (2 * g.n) && tells_more g (k / 16) (k % 16)) (pairs_size ks)
    where
      by : (a b : Bool) → lines_size (flat_map (pair_at g) ks) ≤ 15 * length (filter ordered_at ks) → lines_size (cond (a && b) (pair_frame g (k / 16) (k % 16) ∷ []) [] ++ flat_map (pair_at g) ks) ≤ 15 * length (cond a (k ∷ filter ordered_at ks) (filter ordered_at ks))
      by true true h = omega arith
      by true false h = omega arith
      by false b h = h

  pairs_bound : lines_size (pair_frames g) ≤ 1680
  unfolding pair_frames
  pairs_bound = omega (arith, pairs_size (range_with_len 0 256), ordered_count)

  ranges_bound : line_size (ranges_frame g) ≤ 133
  ranges_bound = omega (arith, length-map-range_with_len (home_byte (ranges_of g)) 0 (2 + 8 * min g.n 8))

point_bound : (x : Point) → line_size (point_frame x) ≤ 69
point_bound x = omega (arith, words_long (point_values x), length-take (min x.n 8) x.values)

pub region_bound : (g : Reading) (x : Point) → lines_size (region_frames g x) ≤ 1882
region_bound g x = omega (arith, point_bound x, ranges_bound g, pairs_bound g)

pub size_on : (fs gs : List (List ℕ)) → lines_size (fs ++ gs) ≡ lines_size fs + lines_size gs
size_on [] gs = omega arith
size_on (f ∷ fs) gs = omega (arith, size_on fs gs)

-- as many regions as there are
pub regions_bound : {A : Type 0} (g : A → Reading) (x : A → Point) (rs : List A) → lines_size (flat_map (λ r. region_frames (g r) (x r)) rs) ≤ 1882 * length rs
regions_bound g x [] = omega arith
regions_bound g x (r ∷ rs) = omega (arith, size_on (region_frames (g r) (x r)) (flat_map (λ r. region_frames (g r) (x r)) rs), region_bound (g r) (x r), regions_bound g x rs)
