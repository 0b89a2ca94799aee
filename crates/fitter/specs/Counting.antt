-- The desk's counts of rules and checkpoints, and how an answered request moves them. Assumes nothing.
use Rattle.std.specs.Prelude.{ℕ, ◌+◌, ◌-◌, cond, List, Some, None, Ok, Err, Option, Result, nat_le}
use Rattle.std.specs.List.{slice_get}
use Rattle.interface.specs.declared.fault.SolverFault.{SolverFault}
use Rattle.octagon.specs.declared.matrix.Octagon.{Octagon}
use Rattle.rules.specs.Any.{AnyRule}
use Rattle.search.specs.declared.solver.Solver.{Solver}
use Rattle.search.specs.Views.{view}
use Rattle.search_theory.specs.declared.checkpoint.Checkpoint.{Checkpoint}
use Rattle.search_theory.specs.declared.reply.Reply.{Reply}
use Rattle.search_theory.specs.declared.request.Request.{Request}
use Rattle.search_theory.specs.declared.request.Request.TheVariants.{State, Mark, Back, Keep, Begin, Run, Leave, Limit}
use Rattle.fitter.specs.declared.counts.Counts.{Counts}

abbrev pub one_more : ℕ → ℕ → ℕ
one_more places count = cond (nat_le places count) count (count + 1)

abbrev pub back_to : Counts → Option (Checkpoint Octagon) → Counts
back_to c None = c
back_to c (Some k) = record { rules = k.rules; marks = c.marks - 1 }

abbrev pub moved : Counts → Request AnyRule → List (Checkpoint Octagon) → Counts
moved c (State r) ks = record { rules = one_more 32 c.rules; marks = c.marks }
moved c Mark ks = record { rules = c.rules; marks = one_more 4 c.marks }
moved c Back ks = back_to c (slice_get ks (c.marks - 1))
moved c Keep ks = record { rules = c.rules; marks = c.marks - 1 }
moved c Begin ks = c
moved c (Run b) ks = c
moved c Leave ks = c
moved c (Limit p q) ks = c

-- a refused request moves nothing
abbrev pub by_answer : Result Reply SolverFault → Counts → Counts → Counts
by_answer (Ok a) c d = d
by_answer (Err f) c d = c

abbrev pub after : Counts → Request AnyRule → Result Reply SolverFault → List (Checkpoint Octagon) → Counts
after c q r ks = by_answer r c (moved c q ks)

-- what the solver itself counts; with no solver any count will do
abbrev pub rules_in : Option (Solver Octagon) → ℕ → ℕ
rules_in None k = k
rules_in (Some s) k = (view s).rules

abbrev pub marks_in : Option (Solver Octagon) → ℕ → ℕ
marks_in None k = k
marks_in (Some s) k = (view s).marks
