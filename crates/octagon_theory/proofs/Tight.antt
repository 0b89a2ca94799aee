-- Matrices over nodes that stand in pairs of opposites: what closed and tight mean.
use Rattle.std.proofs.Common.{◌≡◌, ℤ, pos, ◌+ℤ◌, ◌≤ℤ◌}
use Rattle.interface.specs.Numbers.{half}

-- closed: symmetric, 0 at opposite nodes, and no way over a third node is shorter
pub record Closed {N : Type 0} (opp : N → N) (D : N → N → ℤ) : Type 0 where
  pub symmetric : (p q : N) → D p q ≡ D q p
  pub opposite : (p : N) → D p (opp p) ≡ pos 0
  pub triangle : (p q r : N) → D p q ≤ℤ (D p r +ℤ D (opp r) q)

-- tight: closed, each diagonal entry even, each other entry at most the half of its two diagonal entries
pub record Tight {N : Type 0} (opp : N → N) (L : N → N → ℤ) : Type 0 where
  pub closed : Closed opp L
  pub even : (p : N) → L p p ≡ (half (L p p) +ℤ half (L p p))
  pub joined : (p q : N) → L p q ≤ℤ (half (L p p) +ℤ half (L q q))

-- the values v, one to a node, lie under the matrix
abbrev pub Under : {N : Type 0} → (N → N → ℤ) → (N → ℤ) → Type 0
Under {N} D v = (p q : N) → (v p +ℤ v q) ≤ℤ D p q
