-- The solver's struct as the model's record. Assumes nothing.
use Rattle.std.specs.Prelude.{Bool, List, Ok, Err, Result}
use Rattle.interface.specs.declared.fault.SolverFault.{SolverFault}
use Rattle.search_theory.specs.declared.checkpoint.Checkpoint.{Checkpoint}
use Rattle.search_theory.specs.declared.phase.Phase.{Phase}
use Rattle.search_theory.specs.declared.phase.Phase.TheVariants.{Stating, Searching}
use Rattle.search_theory.specs.declared.region.Region.{Region}
use Rattle.search_theory.specs.declared.reply.Reply.{Reply}
use Rattle.search_theory.specs.Requests.{World, Answered}
use Rattle.search_theory.specs.Solving.{Solving, is_stating, is_searching}
use Rattle.search.specs.declared.solver.Solver.{Solver}

abbrev pub view : {S : Type 0} → Solver S → Solving S
view s = record { shape = s.shape; rules = s.rules; marks = s.marks; waiting = s.waiting; phase = s.phase; found = s.found }

-- whether a solver is at the phase that a call asks for
abbrev pub at_phase : Phase → Phase → Bool
at_phase Stating p = is_stating p
at_phase Searching p = is_searching p

-- the solver that opening gives, if it gives one
abbrev pub view_if_any : {S F : Type 0} → Result (Solver S) F → Result (Solving S) F
view_if_any (Ok s) = Ok (view s)
view_if_any (Err f) = Err f

-- the solver and the slices that a call is lent
abbrev pub world_of : {S R : Type 0} → Solver S → List R → List (Checkpoint S) → List S → World S R
world_of s rules checkpoints stack = record { solver = view s; rules = rules; checkpoints = checkpoints; stack = stack }

abbrev pub answered_by : {S R : Type 0} → Result Reply SolverFault → World S R → List (Region S) → Answered S R
answered_by r w out = record { reply = r; world = w; out = out }
