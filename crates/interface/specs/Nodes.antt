-- Nodes and what they stand for: node 2k is setting k, node 2k + 1 its negative. Assumes nothing.
use Rattle.std.specs.Prelude.{ℕ, ◌+◌, ◌-◌, ◌*◌, ◌/◌, ◌%◌, cond, List, ℤ, pos, neg_ℤ, ◌==◌, slice_index_or}

-- the opposite node, which stands for the negative
abbrev pub opp : ℕ → ℕ
opp p = p + 1 - 2 * (p % 2)

-- v(p): the value at node p of the point x, a list of the settings' values
unfoldable pub value : List ℤ → ℕ → ℤ
value x p = cond (p % 2 == 0) (slice_index_or x (p / 2) (pos 0)) (neg_ℤ (slice_index_or x (p / 2) (pos 0)))
