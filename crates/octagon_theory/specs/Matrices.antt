-- Matrices over the nodes: what tight means, and what one cut, the home alone and the least point come to. Assumes nothing.
use Rattle.std.specs.Prelude.{◌≡◌, ℕ, zero, suc, ◌+◌, ◌*◌, ◌<◌, List, [], ◌∷◌, ◌++◌, map, length, ℤ, pos, ◌+ℤ◌, ◌-ℤ◌, neg_ℤ, ◌≤ℤ◌, fold}
use Rattle.std.specs.List.{range_with_len}
use Rattle.std.specs.Int.{int_min, int_max}
use Rattle.interface.specs.Nodes.{opp, value}
use Rattle.interface.specs.Numbers.{half}

-- tightly closed on a line of n settings: symmetric, 0 at opposite nodes, no way over a third node is shorter, each entry on the diagonal is twice its half, and no entry is above the sum of its two halves
pub record TightlyClosed (n : ℕ) (L : ℕ → ℕ → ℤ) : Type 0 where
  pub symmetric : (p q : ℕ) → p < 2 * n → q < 2 * n → L p q ≡ L q p
  pub opposite : (p : ℕ) → p < 2 * n → L p (opp p) ≡ pos 0
  pub triangle : (p q r : ℕ) → p < 2 * n → q < 2 * n → r < 2 * n → L p q ≤ℤ (L p r +ℤ L (opp r) q)
  pub even : (p : ℕ) → p < 2 * n → L p p ≡ (half (L p p) +ℤ half (L p p))
  pub joined : (p q : ℕ) → p < 2 * n → q < 2 * n → L p q ≤ℤ (half (L p p) +ℤ half (L q q))

-- the point x lies under the matrix, at the nodes of its settings
abbrev pub Below : (ℕ → ℕ → ℤ) → List ℤ → Type 0
Below L x = (p q : ℕ) → p < 2 * length x → q < 2 * length x → (value x p +ℤ value x q) ≤ℤ L p q

-- over a cut to c between the opposites of a and b: the least of the five ways from i to j, past the cut, once over it in either direction, twice over it in either order
unfoldable pub shortest : {N : Type 0} → (N → N → ℤ) → N → N → ℤ → N → N → ℤ
shortest L a b c i j = int_min (L i j) (int_min (int_min ((L i a +ℤ c) +ℤ L b j) ((L i b +ℤ c) +ℤ L a j)) (int_min ((((L i a +ℤ c) +ℤ L b b) +ℤ c) +ℤ L a j) ((((L i b +ℤ c) +ℤ L a a) +ℤ c) +ℤ L b j)))

-- rounded and joined: no entry is above the sum of the two halves of the diagonal, rounded down
abbrev pub rounded : {N : Type 0} → (N → N → ℤ) → N → N → ℤ
rounded D p q = int_min (D p q) (half (D p p) +ℤ half (D q q))

-- the least value of the next setting, after those of x: the greatest of its lower bounds
unfoldable pub next_value : (ℕ → ℕ → ℤ) → List ℤ → ℤ
next_value L x = fold int_max (neg_ℤ (half (L (2 * length x + 1) (2 * length x + 1)))) (map (λ p. value x p -ℤ L p (2 * length x + 1)) (range_with_len 0 (2 * length x)))

-- the least values of m more settings, one after the other
unfoldable pub least_values : (ℕ → ℕ → ℤ) → List ℤ → ℕ → List ℤ
least_values L x zero = []
least_values L x (suc m) = next_value L x ∷ least_values L (x ++ (next_value L x ∷ [])) m
