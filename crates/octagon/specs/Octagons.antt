-- What the octagon answers, on every value of its type. Assumes nothing.
use Rattle.std.specs.Prelude.{ℕ, zero, suc, ◌+◌, ◌-◌, ◌*◌, min, Bool, true, false, cond, not, ◌&&◌, ◌||◌, List, [], ◌∷◌, ◌++◌, length, replicate, ℤ, pos, ◌+ℤ◌, neg_ℤ, Some, None, Option, ◌==◌, int_le, int_lt, nat_le, nat_lt}
use Rattle.interface.specs.declared.home.Home.{Home}
use Rattle.interface.specs.declared.point.Point.{Point}
use Rattle.interface.specs.Nodes.{opp, value}
use Rattle.octagon_theory.specs.Matrices.{next_value}
use Rattle.halving.specs.First.{every}
use Rattle.halving.specs.Halvings.{halvings_of}
use Rattle.interface.specs.Shapes.{ShapeModel}
use Rattle.octagon.specs.declared.matrix.Octagon.{Octagon}
use Rattle.octagon.specs.Ranges.{widths, extent_by, is_open, widest_at, middle_at, up_to, from_next}
use Rattle.octagon.specs.Entries.{plus, at, tabled, home_limit, lowered}

-- made from a home
abbrev pub started : Home → Octagon
started h = record { n = h.n; void = false; limits = tabled (home_limit h) }

-- the limit (p, q)
abbrev pub limit_at : Octagon → ℕ → ℕ → ℤ
limit_at s p q = cond (nat_lt p 16 && nat_lt q 16) (at s.limits p q) (pos 0)

-- no point is left: every limit is 0
abbrev pub voided : Octagon → Octagon
voided s = record { n = s.n; void = true; limits = replicate 256 (pos 0) }

-- the cut (p, q, c) takes nothing away: the octagon is void, a node is off the line, or the limit is no higher already
abbrev pub idle : Octagon → ℕ → ℕ → ℤ → Bool
idle s p q c = s.void || (nat_le (min 16 (2 * s.n)) p || (nat_le (min 16 (2 * s.n)) q || int_le (limit_at s p q) c))

-- no point meets the cut: v(p) + v(q) cannot be as low as c
abbrev pub unmet : Octagon → ℕ → ℕ → ℤ → Bool
unmet s p q c = int_lt (plus c (limit_at s (opp p) (opp q))) (pos 0)

-- the cut taken in
abbrev pub taken : Octagon → ℕ → ℕ → ℤ → Octagon
taken s p q c = record { n = s.n; void = s.void; limits = lowered s.n s.limits (opp p) (opp q) c }

-- the octagon after the cut (p, q, c)
abbrev pub cutting : Octagon → ℕ → ℕ → ℤ → Octagon
cutting s p q c = cond (idle s p q c) s (cond (unmet s p q c) (voided s) (taken s p q c))

-- the same, shut: who cites it need not look into it
unfoldable pub cut_to : Octagon → ℕ → ℕ → ℤ → Octagon
cut_to = cutting

-- row p: v(p) + v(q) is at most the entry, for every node q below w
abbrev pub row_under : List ℤ → List ℤ → ℕ → ℕ → Bool
row_under l x w p = every (λ q. int_le (value x p +ℤ value x q) (at l p q)) w

-- the same for all rows
unfoldable pub all_under : List ℤ → List ℤ → ℕ → Bool
all_under l x w = every (row_under l x w) w

-- a point is held if it has a value for each setting and no limit is below it
abbrev pub holds_at : Octagon → List ℤ → Bool
holds_at s x = not s.void && (length x == s.n && all_under s.limits x (2 * s.n))

-- z, where it has 32 bits
abbrev pub narrow : ℤ → ℤ
narrow z = cond (int_le (neg_ℤ (pos 2147483648)) z && int_le z (pos 2147483647)) z (pos 0)

-- m more settings after those of x, each at the greatest of its lower bounds
unfoldable pub least_from : (ℕ → ℕ → ℤ) → List ℤ → ℕ → List ℤ
least_from L x zero = []
least_from L x (suc m) = narrow (next_value L x) ∷ least_from L (x ++ (narrow (next_value L x) ∷ [])) m

-- all settings' values, then 0 past the last
abbrev pub offered : List ℤ → ℕ → List ℤ
offered l m = least_from (at l) [] m ++ replicate (8 - m) (pos 0)

-- a void octagon offers none
abbrev pub offer_of : Octagon → Option Point
offer_of s = cond s.void None (Some (record { n = s.n; values = offered s.limits (min 8 s.n) }))

-- the two parts: split at the middle of the widest range, or not at all
abbrev pub lower_of : Octagon → Octagon
lower_of s = cond (is_open s.void (at s.limits)) (cut_to s (2 * widest_at (at s.limits)) (2 * widest_at (at s.limits)) (up_to (middle_at (at s.limits) (widest_at (at s.limits))))) s

abbrev pub upper_of : Octagon → Octagon
upper_of s = cond (is_open s.void (at s.limits)) (cut_to s (2 * widest_at (at s.limits) + 1) (2 * widest_at (at s.limits) + 1) (from_next (middle_at (at s.limits) (widest_at (at s.limits))))) s

-- all answers together
abbrev pub octagon_model : ShapeModel Octagon
octagon_model = record {
  n = λ s. s.n;
  start = started;
  cut = λ s t. cut_to s t.p t.q t.c;
  lower = lower_of;
  upper = upper_of;
  extent = λ s. extent_by s.void (at s.limits);
  limit = limit_at;
  holds = holds_at;
  offer = offer_of;
  halvings = λ s. halvings_of (widths (at s.limits));
}
