-- Bounds on one value as cuts. Assumes nothing.
use Rattle.std.specs.Prelude.{ℕ, Bool, cond, ◌&&◌, ℤ, pos, ◌+ℤ◌, neg_ℤ, None, Option, int_le, int_lt}
use Rattle.std.specs.Int.{int_max}
use Rattle.interface.specs.declared.cut.Cut.{Cut}
use Rattle.interface.specs.Cuts.{cut_of}

-- z lies from low to high
abbrev pub between : ℤ → ℤ → ℤ → Bool
between low high z = int_le low z && int_le z high

-- y and z are the same number
abbrev pub equal : ℤ → ℤ → Bool
equal y z = int_le y z && int_le z y

-- the cut (p, q, c), where there is one; shut, so that proofs take it as one name
unfoldable pub cut_at : ℕ → ℕ → ℤ → Option Cut
cut_at p q c = cut_of p q c

-- the cut (p, q, c), but none for a number above two million, and at least minus two million
abbrev pub clipped : ℕ → ℕ → ℤ → Option Cut
clipped p q c = cond (int_lt (pos 2000000) c) None (cut_at p q (int_max c (neg_ℤ (pos 2000000))))

-- the value at node p is at most b: the value twice is at most twice b
abbrev pub bounded : ℕ → ℤ → Option Cut
bounded p b = clipped p p (b +ℤ b)
