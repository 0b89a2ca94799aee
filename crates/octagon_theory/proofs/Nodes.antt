-- Opposite nodes: the opposite of the opposite is the node itself, and both are on the line or neither.
use Rattle.std.proofs.Common.{◌≡◌, ℕ, zero, suc, ◌*◌, ◌%◌, ◌<◌, cond, eqb, ℤ, neg_ℤ, refl, arith}
use Rattle.interface.specs.Nodes.{opp}

pub opp_opp : (p : ℕ) → opp (opp p) ≡ p
opp_opp p = omega arith

pub opp_below : (n p : ℕ) → p < 2 * n → opp p < 2 * n
opp_below n p h = omega arith

-- a node and its opposite: which of the two is even, and that both stand for one setting
pub data Side (p : ℕ) : Type 0 where
  even : p % 2 ≡ 0 → opp p % 2 ≡ 1 → Side p
  odd : p % 2 ≡ 1 → opp p % 2 ≡ 0 → Side p

side_by : (p r : ℕ) → p % 2 ≡ r → Side p
side_by p zero e = even e (omega arith)
side_by p (suc zero) e = odd e (omega arith)
side_by p (suc (suc r)) e = absurd (omega arith)

pub side : (p : ℕ) → Side p
side p = side_by p (p % 2) refl

-- the value at a node of a function of the settings
abbrev pub signed : ℕ → ℤ → ℤ
signed r z = cond (eqb r 0) z (neg_ℤ z)
