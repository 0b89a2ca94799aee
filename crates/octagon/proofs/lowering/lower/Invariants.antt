use Rattle.std.proofs.Common.{◌≡◌, ◌*◌, min, length}
use Rattle.octagon.specs.Crossings.{joined_by}
use Rattle.octagon.specs.Entries.{RowLowered, RowsLowered}
use Rattle.octagon.proofs.lowering.lower.Given as goal

-- the rows that were passed are lowered, the others are as they were
abbrev pub invariant-loop-i : goal.invariant-loop-i
invariant-loop-i l = (length l.limits ≡ 256) × RowsLowered l.limits l.initial.limits l.a l.b l.c l.i (min 16 (2 * l.n))

-- of row i the entries that were passed are lowered
abbrev pub invariant-loop-j : goal.invariant-loop-j
invariant-loop-j l = (length l.limits ≡ 256) × RowLowered l.limits l.initial.limits l.i l.j (joined_by l.cut l.halves l.i)
