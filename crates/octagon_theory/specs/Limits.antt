-- The octagon's limits, as they are defined from a home and a list of cuts. Assumes nothing.
use Rattle.std.specs.Prelude.{◌≡◌, ℕ, zero, suc, ◌-◌, ◌*◌, ◌/◌, ◌%◌, ◌<◌, Bool, false, cond, not, ◌&&◌, ◌||◌, List, [], ◌∷◌, map, length, ℤ, pos, ◌+ℤ◌, neg_ℤ, ◌≤ℤ◌, fold, ◌==◌, int_lt, nat_lt}
use Rattle.std.specs.List.{range_with_len, AllByRecursion}
use Rattle.std.specs.Int.{int_min}
use Rattle.interface.specs.declared.cut.Cut.{Cut}
use Rattle.interface.specs.declared.home.Home.{Home}
use Rattle.interface.specs.Homes.{low_of, high_of}
use Rattle.interface.specs.Nodes.{opp}
use Rattle.interface.specs.Numbers.{half}

-- the greatest v(p) at home
unfoldable pub top_of : Home → ℕ → ℤ
top_of h p = cond (p % 2 == 0) (high_of h (p / 2)) (neg_ℤ (low_of h (p / 2)))

-- T of a home alone: twice the greatest value on the diagonal, 0 for opposite nodes, else half the sum of the two diagonal entries
unfoldable pub home_entry : Home → ℕ → ℕ → ℤ
home_entry h p q = cond (q == opp p) (pos 0) (cond (q == p) (top_of h p +ℤ top_of h p) (half ((top_of h p +ℤ top_of h p) +ℤ (top_of h q +ℤ top_of h q))))

-- whether the cut is between these nodes, in either order
abbrev pub is_between : Cut → ℕ → ℕ → Bool
is_between t p q = (t.p == p && t.q == q) || (t.p == q && t.q == p)

-- T: each cut lowers its two entries to at most c; one with a node that is not on the line lowers no entry on it
unfoldable pub entry : Home → List Cut → ℕ → ℕ → ℤ
entry h [] p q = home_entry h p q
entry h (t ∷ ts) p q = cond (is_between t p q) (int_min (entry h ts p q) t.c) (entry h ts p q)

-- the sum along the chain from p over the nodes between to q: each step starts at the opposite of the node that the last one reached
abbrev pub chain_sum : (ℕ → ℕ → ℤ) → ℕ → List ℕ → ℕ → ℤ
chain_sum T p [] q = T p q
chain_sum T p (r ∷ rs) q = T p r +ℤ chain_sum T (opp r) rs q

-- the nodes between the ends of a chain on a line of n settings: at most 2n - 1, each on the line
abbrev pub Between : ℕ → List ℕ → Type 0
Between n rs = (length rs < 2 * n) × AllByRecursion (λ r. r < 2 * n) rs

-- z is the least sum of a chain from p to q: no chain's sum is lower, and some chain's sum is z
pub record LeastSum (n : ℕ) (T : ℕ → ℕ → ℤ) (p q : ℕ) (z : ℤ) : Type 0 where
  pub lowest : (rs : List ℕ) → Between n rs → z ≤ℤ chain_sum T p rs q
  pub reached : (rs : List ℕ) × Between n rs × (chain_sum T p rs q ≡ z)

-- the least sum of a chain from p to q with at most m nodes between, step by step
unfoldable pub least_upto : ℕ → (ℕ → ℕ → ℤ) → ℕ → ℕ → ℕ → ℤ
least_upto n T zero p q = T p q
least_upto n T (suc m) p q = fold int_min (least_upto n T m p q) (map (λ r. T p r +ℤ least_upto n T m (opp r) q) (range_with_len 0 (2 * n)))

-- C: the least sum of a chain from p to q
abbrev pub least : Home → List Cut → ℕ → ℕ → ℤ
least h ts p q = least_upto h.n (entry h ts) (2 * h.n - 1) p q

-- E: twice the half of C(p, p)
abbrev pub even : Home → List Cut → ℕ → ℤ
even h ts p = half (least h ts p p) +ℤ half (least h ts p p)

-- whether some number of the list passes the test
abbrev pub any : (ℕ → Bool) → List ℕ → Bool
any f [] = false
any f (x ∷ xs) = f x || any f xs

-- void: some chain to the opposite node has a sum below 0, or some rounded limits contradict each other
unfoldable pub void : Home → List Cut → Bool
void h ts = any (λ p. int_lt (least h ts p (opp p)) (pos 0) || int_lt (even h ts p +ℤ even h ts (opp p)) (pos 0)) (range_with_len 0 (2 * h.n))

-- the limit (p, q): 0 on void, off the line and for opposite nodes
unfoldable pub limit : Home → List Cut → ℕ → ℕ → ℤ
limit h ts p q = cond ((void h ts || not (nat_lt p (2 * h.n) && nat_lt q (2 * h.n))) || q == opp p) (pos 0) (cond (q == p) (even h ts p) (int_min (least h ts p q) (half (even h ts p +ℤ even h ts q))))
