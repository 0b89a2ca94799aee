-- The solver's state, and what a call leaves. Assumes nothing.
use Rattle.std.specs.Prelude.{ℕ, Bool, true, false, Ok, Err, Result}
use Rattle.interface.specs.declared.fault.SolverFault.{SolverFault}
use Rattle.interface.specs.declared.fault.SolverFault.TheVariants.{Record}
use Rattle.interface.specs.declared.home.Home.{Home}
use Rattle.interface.specs.Homes.{home_check}
use Rattle.interface.specs.Shapes.{ShapeModel}
use Rattle.search_theory.specs.declared.phase.Phase.{Phase}
use Rattle.search_theory.specs.declared.phase.Phase.TheVariants.{Stating, Searching}

-- the shape, how many rules stand, how many checkpoints are kept, how many regions wait, the phase, and whether a region was handed out since the search began
pub record Solving (S : Type 0) : Type 0 where
  pub shape : S
  pub rules : ℕ
  pub marks : ℕ
  pub waiting : ℕ
  pub phase : Phase
  pub found : Bool

abbrev pub is_stating : Phase → Bool
is_stating Stating = true
is_stating Searching = false

abbrev pub is_searching : Phase → Bool
is_searching Stating = false
is_searching Searching = true

-- what a call leaves: its answer or fault, the solver, and the slices that it may write
pub record Left (S A T : Type 0) : Type 0 where
  pub reply : Result A SolverFault
  pub solver : Solving S
  pub slices : T

abbrev pub left : {S A T : Type 0} → Result A SolverFault → Solving S → T → Left S A T
left r s t = record { reply = r; solver = s; slices = t }

-- a refused call leaves everything as it was
abbrev pub refused : {S A T : Type 0} → Solving S → T → SolverFault → Left S A T
refused s t f = left (Err f) s t

-- by the first ground that holds, or as accepted
abbrev pub decided : {F X : Type 0} → Result (Unit {0}) F → (F → X) → X → X
decided (Ok u) against otherwise = otherwise
decided (Err f) against otherwise = against f

-- a solver just opened
abbrev pub opened : {S : Type 0} → ShapeModel S → Home → Solving S
opened M h = record { shape = M.start h; rules = 0; marks = 0; waiting = 0; phase = Stating; found = false }

-- opening is refused with the home's own fault
abbrev pub open_call : {S : Type 0} → ShapeModel S → Home → Result (Solving S) SolverFault
open_call M h = decided (home_check h) (λ f. Err (Record f)) (Ok (opened M h))
