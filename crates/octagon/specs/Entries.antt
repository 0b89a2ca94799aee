-- The octagon's matrix as a list: its entries, that of a home, and what one cut makes of it. Assumes nothing.
use Rattle.std.specs.Prelude.{◌≡◌, ℕ, ◌+◌, ◌*◌, ◌/◌, ◌%◌, ◌<◌, cond, ◌&&◌, ◌||◌, List, map, ℤ, pos, ◌+ℤ◌, neg_ℤ, ◌==◌, nat_le, nat_lt, slice_index_or}
use Rattle.std.specs.List.{range_with_len}
use Rattle.std.specs.Int.{int_min, int_wrap, w32}
use Rattle.interface.specs.declared.home.Home.{Home}
use Rattle.interface.specs.Homes.{low_of, high_of}
use Rattle.interface.specs.Nodes.{opp}
use Rattle.interface.specs.Numbers.{half}

-- the sum, which wraps past 32 bits: no octagon that is made comes near them
unfoldable pub plus : ℤ → ℤ → ℤ
plus a b = int_wrap w32 (a +ℤ b)

-- the entry at row p and column q: rows of 16 entries, one after the other
abbrev pub at : List ℤ → ℕ → ℕ → ℤ
at l p q = slice_index_or l (16 * p + q) (pos 0)

-- the list of f at the numbers below m
unfoldable pub listed : {X : Type 0} → (ℕ → X) → ℕ → List X
listed f m = map f (range_with_len 0 m)

-- the list of the entries f p q
abbrev pub tabled : (ℕ → ℕ → ℤ) → List ℤ
tabled f = listed (λ k. f (k / 16) (k % 16)) 256

-- the greatest v(p) at home
abbrev pub top : Home → ℕ → ℤ
top h p = cond (p % 2 == 0) (high_of h (p / 2)) (int_wrap w32 (neg_ℤ (low_of h (p / 2))))

-- off the line or at opposite nodes 0, else the sum of the two greatest values
abbrev pub home_limit : Home → ℕ → ℕ → ℤ
home_limit h p q = cond (nat_le (2 * h.n) p || (nat_le (2 * h.n) q || q == opp p)) (pos 0) (plus (top h p) (top h q))

-- A cut to c between the opposites of a and b follows. The matrix is symmetric, so its rows serve as its columns.

-- the shorter way from i over the cut that ends at b: by a, or by b and once more over the cut
abbrev pub way : List ℤ → ℕ → ℕ → ℤ → ℕ → ℤ
way l a b c i = int_min (plus (at l a i) c) (plus (plus (at l b i) c) (plus (at l a a) c))

-- the shorter of the ways x and y, each over the cut and on
unfoldable pub over_cut : ℤ → ℤ → ℤ → ℤ → ℤ
over_cut x to-b y to-a = int_min (plus x to-b) (plus y to-a)

-- the shortest way from i to j
abbrev pub crossed : List ℤ → ℕ → ℕ → ℤ → ℕ → ℕ → ℤ
crossed l a b c i j = int_min (at l i j) (over_cut (way l a b c i) (at l b j) (way l b a c i) (at l a j))

-- half the way from i to itself, rounded down
abbrev pub halved : List ℤ → ℕ → ℕ → ℤ → ℕ → ℤ
halved l a b c i = half (crossed l a b c i i)

-- the entry that the cut leaves: rounded, then joined
unfoldable pub lowered_entry : List ℤ → ℕ → ℕ → ℤ → ℕ → ℕ → ℤ
lowered_entry l a b c i j = int_min (crossed l a b c i j) (plus (halved l a b c i) (halved l a b c j))

-- the whole matrix after the cut: what is off a line of n settings stays
unfoldable pub lowered : ℕ → List ℤ → ℕ → ℕ → ℤ → List ℤ
lowered n l a b c = tabled (λ i j. cond (nat_lt i (2 * n) && nat_lt j (2 * n)) (lowered_entry l a b c i j) (at l i j))

-- the first i rows are lowered, up to column m, and all others stayed
abbrev pub RowsLowered : (after before : List ℤ) (a b : ℕ) (c : ℤ) (i m : ℕ) → Type 0
RowsLowered after before a b c i m = (p q : ℕ) → p < 16 → q < 16 → at after p q ≡ cond (nat_lt p i && nat_lt q m) (lowered_entry before a b c p q) (at before p q)

-- in row i, the first m entries became what f makes of them, and all others stayed
abbrev pub RowLowered : (after before : List ℤ) (i m : ℕ) (f : ℕ → ℤ → ℤ) → Type 0
RowLowered after before i m f = (p q : ℕ) → p < 16 → q < 16 → at after p q ≡ cond (p == i && nat_lt q m) (f q (at before p q)) (at before p q)
