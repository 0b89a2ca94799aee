-- What a run works on, as the code holds it. Assumes nothing.
use Rattle.std.specs.Prelude.{◌≡◌, Ok, Err, Result}
use Rattle.search_theory.specs.declared.outcome.Outcome.{Outcome}
use Rattle.search_theory.specs.Runs.{Work}
use Rattle.search.specs.declared.steps.Work.{Work as Working}

abbrev pub work_of : {S : Type 0} → Working S → Work S
work_of w = record { stack = w.stack.now; waiting = w.waiting; out = w.out.now; count = w.count; found = w.found }

-- the same stack and out slices, whatever they hold
abbrev pub SamePlaces : {S : Type 0} → Working S → Working S → Type 0
SamePlaces v w = (w.stack.ghost_name ≡ v.stack.ghost_name) × (w.out.ghost_name ≡ v.out.ghost_name)

-- a step that was made leaves its work, one that was not leaves all as it was
abbrev pub stepped : {S : Type 0} → Work S → Result (Work S) Outcome → Result (Unit {0}) Outcome × Work S
stepped w (Ok v) = (Ok tt, v)
stepped w (Err o) = (Err o, w)
