-- The eight calls: the grounds that stop each, in their order, and what it leaves. Assumes nothing.
use Rattle.std.specs.Prelude.{ℕ, ◌+◌, ◌-◌, ◌*◌, Bool, true, false, not, ◌||◌, List, [], ◌∷◌, ◌++◌, length, take, ℤ, Some, None, Ok, Err, Option, Result, ◌==◌, nat_le, nat_lt, slice_set}
use Rattle.std.specs.List.{slice_get}
use Rattle.interface.specs.declared.fault.RecordFault.{RecordFault}
use Rattle.interface.specs.declared.fault.RecordFault.TheVariants.{Node, Clash}
use Rattle.interface.specs.declared.fault.SolverFault.{SolverFault}
use Rattle.interface.specs.declared.fault.SolverFault.TheVariants.{Record, Rules, Phase, Short, Unmarked, Marks, Stack, Void}
use Rattle.interface.specs.Grounds.{first_fault}
use Rattle.interface.specs.Nodes.{opp}
use Rattle.interface.specs.Rules.{RuleModel}
use Rattle.interface.specs.Shapes.{ShapeModel}
use Rattle.search_theory.specs.declared.checkpoint.Checkpoint.{Checkpoint}
use Rattle.search_theory.specs.declared.phase.Phase.TheVariants.{Stating, Searching}
use Rattle.search_theory.specs.declared.region.Region.{Region}
use Rattle.search_theory.specs.declared.report.Report.{Report}
use Rattle.search_theory.specs.Regions.{is_void, cut_if_any}
use Rattle.search_theory.specs.Runs.{Work, Ended, run_from, report_of}
use Rattle.search_theory.specs.Solving.{Solving, Left, left, refused, decided, is_stating, is_searching}

-- grounds for a refusal, the first that holds decides
abbrev pub Grounds : Type 0
Grounds = List (Bool × SolverFault)

-- a record's own check as a ground
abbrev pub record_grounds : Result (Unit {0}) RecordFault → Grounds
record_grounds (Ok u) = []
record_grounds (Err f) = (true, Record f) ∷ []

-- the last checkpoint's shape and count; a solver with no checkpoint stays as it is
abbrev pub restored : {S : Type 0} → Solving S → Option (Checkpoint S) → Solving S
restored s None = s
restored s (Some c) = record { shape = c.shape; rules = c.rules; marks = s.marks - 1; waiting = s.waiting; phase = s.phase; found = s.found }

abbrev pub run_grounds : {S R : Type 0} → Solving S → List R → List S → Grounds
run_grounds s rules stack = (not (is_searching s.phase), Phase) ∷ (nat_lt (length rules) s.rules || nat_lt (length stack) s.waiting, Short) ∷ []

-- what a run starts with: nothing in the out slice yet
abbrev pub at_hand : {S : Type 0} → Solving S → List S → List (Region S) → Work S
at_hand s stack out = record { stack = stack; waiting = s.waiting; out = out; count = 0; found = s.found }

abbrev pub after_run : {S : Type 0} → Solving S → Ended S → Left S Report (List S × List (Region S))
after_run s e = left (Ok (report_of e)) (record { shape = s.shape; rules = s.rules; marks = s.marks; waiting = e.work.waiting; phase = s.phase; found = e.work.found }) (e.work.stack, e.work.out)

module _ {S R : Type 0} (M : ShapeModel S) (K : RuleModel R) where
  abbrev pub state_grounds : Solving S → List R → R → Grounds
  state_grounds s rules r = (not (is_stating s.phase), Phase) ∷ (nat_lt (length rules) s.rules, Short) ∷ (record_grounds (K.check (M.n s.shape) r) ++ (nat_le 32 s.rules || (length rules == s.rules), Rules) ∷ [])

  -- the rule stands after the others, and its standing cut is applied
  abbrev pub stated : Solving S → R → Solving S
  stated s r = record { shape = cut_if_any M s.shape (K.standing (M.n s.shape) r); rules = s.rules + 1; marks = s.marks; waiting = s.waiting; phase = s.phase; found = s.found }

  abbrev pub state_call : Solving S → List R → R → Left S (Unit {0}) (List R)
  state_call s rules r = decided (first_fault (state_grounds s rules r)) (refused s rules) (left (Ok tt) (stated s r) (slice_set rules s.rules r))

  -- a run works with the rules that stand, the first ones of the rule slice
  abbrev pub run_call : Solving S → List R → List S → List (Region S) → ℕ → Left S Report (List S × List (Region S))
  run_call s rules stack out budget = decided (first_fault (run_grounds s rules stack)) (refused s (stack, out)) (after_run s (run_from M K (take s.rules rules) budget 0 (at_hand s stack out)))

module _ {S : Type 0} where
  abbrev pub mark_grounds : Solving S → List (Checkpoint S) → Grounds
  mark_grounds s checkpoints = (not (is_stating s.phase), Phase) ∷ (nat_lt (length checkpoints) s.marks, Short) ∷ (nat_le 4 s.marks || (length checkpoints == s.marks), Marks) ∷ []

  abbrev pub marked : Solving S → Solving S
  marked s = record { shape = s.shape; rules = s.rules; marks = s.marks + 1; waiting = s.waiting; phase = s.phase; found = s.found }

  -- a checkpoint of shape and count is put after the others
  abbrev pub mark_call : Solving S → List (Checkpoint S) → Left S (Unit {0}) (List (Checkpoint S))
  mark_call s checkpoints = decided (first_fault (mark_grounds s checkpoints)) (refused s checkpoints) (left (Ok tt) (marked s) (slice_set checkpoints s.marks (record { shape = s.shape; rules = s.rules })))

  abbrev pub back_grounds : Solving S → List (Checkpoint S) → Grounds
  back_grounds s checkpoints = (not (is_stating s.phase), Phase) ∷ (nat_lt (length checkpoints) s.marks, Short) ∷ ((s.marks == 0), Unmarked) ∷ []

  -- the last checkpoint is restored and dropped
  abbrev pub back_call : Solving S → List (Checkpoint S) → Left S (Unit {0}) (Unit {0})
  back_call s checkpoints = decided (first_fault (back_grounds s checkpoints)) (refused s tt) (left (Ok tt) (restored s (slice_get checkpoints (s.marks - 1))) tt)

  abbrev pub keep_grounds : Solving S → Grounds
  keep_grounds s = (not (is_stating s.phase), Phase) ∷ ((s.marks == 0), Unmarked) ∷ []

  -- the last checkpoint is dropped
  abbrev pub keep_call : Solving S → Left S (Unit {0}) (Unit {0})
  keep_call s = decided (first_fault (keep_grounds s)) (refused s tt) (left (Ok tt) (record { shape = s.shape; rules = s.rules; marks = s.marks - 1; waiting = s.waiting; phase = s.phase; found = s.found }) tt)

  abbrev pub begin_grounds : Solving S → List S → Grounds
  begin_grounds s stack = (not (is_stating s.phase), Phase) ∷ ((length stack == 0), Stack) ∷ []

  -- the shape alone waits, and nothing was handed out yet
  abbrev pub begin_call : Solving S → List S → Left S (Unit {0}) (List S)
  begin_call s stack = decided (first_fault (begin_grounds s stack)) (refused s stack) (left (Ok tt) (record { shape = s.shape; rules = s.rules; marks = s.marks; waiting = 1; phase = Searching; found = false }) (slice_set stack 0 s.shape))

  abbrev pub leave_grounds : Solving S → Grounds
  leave_grounds s = (not (is_searching s.phase), Phase) ∷ []

  -- what waits is forgotten
  abbrev pub leave_call : Solving S → Left S (Unit {0}) (Unit {0})
  leave_call s = decided (first_fault (leave_grounds s)) (refused s tt) (left (Ok tt) (record { shape = s.shape; rules = s.rules; marks = s.marks; waiting = 0; phase = Stating; found = s.found }) tt)

module _ {S : Type 0} (M : ShapeModel S) where
  -- the nodes are checked as a pair's, whose fields stand at bytes 2 and 3
  abbrev pub limit_grounds : Solving S → ℕ → ℕ → Grounds
  limit_grounds s p q = (nat_le (2 * M.n s.shape) p, Record (Node 2)) ∷ (nat_le (2 * M.n s.shape) q, Record (Node 3)) ∷ ((q == opp p), Record (Clash 3)) ∷ (is_void (M.extent s.shape), Void) ∷ []

  -- the limit of the solver's own shape
  abbrev pub limit_call : Solving S → ℕ → ℕ → Result ℤ SolverFault
  limit_call s p q = decided (first_fault (limit_grounds s p q)) Err (Ok (M.limit s.shape p q))
