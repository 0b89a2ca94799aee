-- Readings: the limits that a rule is judged on, and the points within them. Assumes nothing.
use Rattle.std.specs.Prelude.{◌≡◌, ℕ, ◌+◌, ◌*◌, ◌<◌, cond, ◌&&◌, List, length, ℤ, pos, ◌+ℤ◌, neg_ℤ, ◌≤ℤ◌, nat_lt, slice_index_or}
use Rattle.interface.specs.declared.reading.Reading.{Reading}
use Rattle.interface.specs.Nodes.{value}
use Rattle.interface.specs.Numbers.{half}

-- the limit at nodes p and q, 0 where one is above 15
abbrev pub limit_at : Reading → ℕ → ℕ → ℤ
limit_at g p q = cond (nat_lt p 16 && nat_lt q 16) (slice_index_or g.limits (16 * p + q) (pos 0)) (pos 0)

-- the least and the greatest value of setting a within the reading
abbrev pub low_in : Reading → ℕ → ℤ
low_in g a = neg_ℤ (half (limit_at g (2 * a + 1) (2 * a + 1)))

abbrev pub high_in : Reading → ℕ → ℤ
high_in g a = half (limit_at g (2 * a) (2 * a))

-- the point x keeps every limit of the reading
abbrev pub Within : Reading → List ℤ → Type 0
Within g x = (length x ≡ g.n) × ((p q : ℕ) → p < 2 * g.n → q < 2 * g.n → (value x p +ℤ value x q) ≤ℤ limit_at g p q)

-- the limits are the sums of the one point x
abbrev pub SumsOf : Reading → List ℤ → Type 0
SumsOf g x = (length x ≡ g.n) × ((p q : ℕ) → p < 2 * g.n → q < 2 * g.n → (value x p +ℤ value x q) ≡ limit_at g p q)
