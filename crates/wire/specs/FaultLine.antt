-- The line that says why a text was refused. Assumes nothing.
use Rattle.std.specs.Prelude.{ℕ, cond, List, ◌∷◌, ◌++◌, ◌==◌}
use Rattle.interface.specs.declared.fault.SolverFault.{SolverFault}
use Rattle.interface.specs.Faults.{solver_code}
use Rattle.wire.specs.Bytes.{be}

-- number 1 is about the whole text, so it names no line
abbrev pub fault_line : SolverFault → ℕ → ℕ
fault_line f l = cond ((solver_code f).number == 1) 0 l

-- 1E, the number and the layer, a byte each, then line and place, two bytes each
abbrev pub fault_frame : SolverFault → ℕ → List ℕ
fault_frame f l = 30 ∷ (solver_code f).number ∷ (solver_code f).layer ∷ (be 2 (fault_line f l) ++ be 2 (solver_code f).place)
