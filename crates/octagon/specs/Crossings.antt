-- What is read off the limits before a cut lowers them. Assumes nothing.
use Rattle.std.specs.Prelude.{ℕ, ℤ, pos, List, slice_index_or}
use Rattle.std.specs.Int.{int_min}
use Rattle.interface.specs.Numbers.{half}
use Rattle.octagon.specs.declared.lowering.Crossing.{Crossing}
use Rattle.octagon.specs.Entries.{plus, at, listed, way, over_cut}

-- rows a and b, and from each node the shorter way over the cut that ends at a and at b
abbrev pub crossing : List ℤ → ℕ → ℕ → ℤ → Crossing
crossing l a b c = record {
  to_a = listed (at l a) 16;
  to_b = listed (at l b) 16;
  by_a = listed (way l b a c) 16;
  by_b = listed (way l a b c) 16;
}

-- the least of the entry (i, j) and the ways over the cut
abbrev pub shortest_by : Crossing → ℤ → ℕ → ℕ → ℤ
shortest_by x e i j = int_min e (over_cut (slice_index_or x.by_b i (pos 0)) (slice_index_or x.to_b j (pos 0)) (slice_index_or x.by_a i (pos 0)) (slice_index_or x.to_a j (pos 0)))

-- half the way from i to itself, rounded down
abbrev pub half_by : Crossing → List ℤ → ℕ → ℤ
half_by x l i = half (shortest_by x (at l i i) i i)

-- the entry (i, j), joined: it is at most the sum of the two halves
abbrev pub joined_by : Crossing → List ℤ → ℕ → ℕ → ℤ → ℤ
joined_by x halves i j e = int_min (shortest_by x e i j) (plus (slice_index_or halves i (pos 0)) (slice_index_or halves j (pos 0)))
