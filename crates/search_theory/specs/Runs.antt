-- A run: step by step on the stack slice and the out slice, until it must stop. Assumes nothing.
use Rattle.std.specs.Prelude.{ℕ, zero, suc, ◌+◌, ◌-◌, Bool, true, cond, List, length, Some, None, Ok, Err, Option, Result, ◌==◌, nat_lt, slice_set}
use Rattle.std.specs.List.{slice_get}
use Rattle.interface.specs.Rules.{RuleModel}
use Rattle.interface.specs.Shapes.{ShapeModel}
use Rattle.search_theory.specs.declared.fate.Fate.{Fate}
use Rattle.search_theory.specs.declared.fate.Fate.TheVariants.{Dropped, HandedOut, Split}
use Rattle.search_theory.specs.declared.outcome.Outcome.{Outcome}
use Rattle.search_theory.specs.declared.outcome.Outcome.TheVariants.{Done, Spent, ListFull, StackFull}
use Rattle.search_theory.specs.declared.region.Region.{Region}
use Rattle.search_theory.specs.declared.report.Report.{Report}
use Rattle.search_theory.specs.Regions.{refine, classify}

-- what a run works on: the stack slice and how many wait in it, the out slice and how many stand in it, and whether a region was handed out since the search began
pub record Work (S : Type 0) : Type 0 where
  pub stack : List S
  pub waiting : ℕ
  pub out : List (Region S)
  pub count : ℕ
  pub found : Bool

-- how a run ended, after how many steps, and with what
pub record Ended (S : Type 0) : Type 0 where
  pub outcome : Outcome
  pub steps : ℕ
  pub work : Work S

abbrev pub ended : {S : Type 0} → Outcome → ℕ → Work S → Ended S
ended o i w = record { outcome = o; steps = i; work = w }

-- the last region is gone
abbrev pub dropped : {S : Type 0} → Work S → Work S
dropped w = record { stack = w.stack; waiting = w.waiting - 1; out = w.out; count = w.count; found = w.found }

-- the last region is handed out
abbrev pub handed_out : {S : Type 0} → Work S → Region S → Work S
handed_out w g = record { stack = w.stack; waiting = w.waiting - 1; out = slice_set w.out w.count g; count = w.count + 1; found = true }

-- the upper part stands in the last region's place, the lower above it
abbrev pub split_in : {S : Type 0} → Work S → S → S → Work S
split_in w low up = record { stack = slice_set (slice_set w.stack (w.waiting - 1) up) w.waiting low; waiting = w.waiting + 1; out = w.out; count = w.count; found = w.found }

-- on with a step that was made, or the end by one that cannot be
abbrev pub go_on : {S : Type 0} → Result (Work S) Outcome → (Outcome → Ended S) → (Work S → Ended S) → Ended S
go_on (Ok w) end more = more w
go_on (Err o) end more = end o

abbrev pub report_of : {S : Type 0} → Ended S → Report
report_of r = record { outcome = r.outcome; steps = r.steps; count = r.work.count; found = r.work.found }

module _ {S R : Type 0} (M : ShapeModel S) (K : RuleModel R) where
  -- the refined last region by its fate: only a region handed out needs a place in the out slice, only a split one in the stack slice
  abbrev pub turn : Work S → S → Fate → Result (Work S) Outcome
  turn w s Dropped = Ok (dropped w)
  turn w s (HandedOut x) = cond (nat_lt w.count (length w.out)) (Ok (handed_out w (record { shape = s; point = x }))) (Err ListFull)
  turn w s Split = cond (nat_lt w.waiting (length w.stack)) (Ok (split_in w (M.lower s) (M.upper s))) (Err StackFull)

  abbrev pub take_up : List R → Work S → Option S → Result (Work S) Outcome
  take_up rs w None = Err Done
  take_up rs w (Some s) = turn w (refine M K rs s) (classify M K rs (refine M K rs s))

  -- a step takes the last waiting region; one that lacks a place is not made
  abbrev pub step : List R → Work S → Result (Work S) Outcome
  step rs w = take_up rs w (slice_get w.stack (w.waiting - 1))

  -- with so many steps left and i made: done if nothing waits, else spent if no step is left, else the next step
  abbrev pub run_from : List R → ℕ → ℕ → Work S → Ended S
  run_from rs zero i w = cond (w.waiting == 0) (ended Done i w) (ended Spent i w)
  run_from rs (suc b) i w = cond (w.waiting == 0) (ended Done i w) (go_on (step rs w) (λ o. ended o i w) (run_from rs b (i + 1)))
