-- A session as a history of calls over the desk's memory. Assumes nothing.
use Rattle.std.specs.Prelude.{◌≡◌, [], Some, None, Ok, Err, Option, Result}
use Rattle.interface.specs.declared.fault.SolverFault.{SolverFault}
use Rattle.interface.specs.declared.home.Home.{Home}
use Rattle.octagon.specs.declared.matrix.Octagon.{Octagon}
use Rattle.octagon.specs.Octagons.{octagon_model}
use Rattle.rules.specs.Any.{AnyRule, any_model}
use Rattle.search.specs.declared.solver.Solver.{Solver}
use Rattle.search.specs.Promised.{called_as}
use Rattle.search.specs.Views.{view, world_of, answered_by}
use Rattle.search_theory.specs.declared.reply.Reply.{Reply}
use Rattle.search_theory.specs.declared.request.Request.{Request}
use Rattle.search_theory.specs.Ledgers.{Ledger, History}
use Rattle.search_theory.specs.Promise.{Called, Kept, KeptLimits}
use Rattle.search_theory.specs.Requests.{World, answer}
use Rattle.search_theory.specs.Solving.{open_call}
use Rattle.fitter.specs.declared.store.Memory.{Memory}

abbrev pub world : Solver Octagon → Memory → World Octagon AnyRule
world s m = world_of s m.rules m.checkpoints m.stack

-- calls, and nothing else, lead from a home to this solver over this memory, where there is one
abbrev pub LedTo : Option (Solver Octagon) → Memory → Type 0
LedTo None m = Unit {0}
LedTo (Some s) m = (l : Ledger Octagon AnyRule) × History octagon_model any_model l (world s m)

abbrev pub Session : Option (Solver Octagon) → Memory → Type 0
Session s m = ∥ LedTo s m ∥₁

-- a call that was lent the whole memory
abbrev pub here : Ledger Octagon AnyRule → Solver Octagon → Memory → Request AnyRule → Result Reply SolverFault → Solver Octagon → Memory → Called Octagon AnyRule
here l s m q r s' m' = called_as octagon_model any_model l (world s m) [] [] [] q (answered_by r (world s' m') m'.regions)

-- everything that is promised after a call, on the history that the session is
abbrev pub KeptHere : Solver Octagon → Memory → Request AnyRule → Result Reply SolverFault → Solver Octagon → Memory → Type 0
KeptHere s m q r s' m' = ∥ ((l : Ledger Octagon AnyRule) × History octagon_model any_model l (world s m) × Kept octagon_model any_model (here l s m q r s' m') × KeptLimits any_model (here l s m q r s' m')) ∥₁

-- with no session nothing happens; else the answer is the model's, and everything that is promised holds
abbrev pub Asked : Option (Solver Octagon) → Memory → Request AnyRule → Option (Result Reply SolverFault) → Option (Solver Octagon) → Memory → Type 0
Asked None m q r s' m' = (r ≡ None) × (s' ≡ None) × (m' ≡ m)
Asked (Some s) m q None s' m' = ⊥
Asked (Some s) m q (Some a) None m' = ⊥
Asked (Some s) m q (Some a) (Some s') m' = (answered_by a (world s' m') m'.regions ≡ answer octagon_model any_model (world s m) m.regions q) × KeptHere s m q a s' m'

-- a session just opened takes the place of the earlier one, which a refused home leaves
abbrev pub Opened : Result (Unit {0}) SolverFault → Home → Option (Solver Octagon) → Option (Solver Octagon) → Type 0
Opened (Ok u) h s None = ⊥
Opened (Ok u) h s (Some s') = open_call octagon_model h ≡ Ok (view s')
Opened (Err f) h s s' = (open_call octagon_model h ≡ Err f) × (s' ≡ s)
