-- A run in two portions does what one run does. Assumes nothing.
use Rattle.std.specs.Prelude.{◌≡◌, ℕ, ◌+◌, ◌≤◌, ◌≢◌, List, ◌++◌, length, take, Ok}
use Rattle.interface.specs.Rules.{RuleModel}
use Rattle.interface.specs.Shapes.{ShapeModel}
use Rattle.search_theory.specs.declared.outcome.Outcome.TheVariants.{ListFull, StackFull}
use Rattle.search_theory.specs.declared.region.Region.{Region}
use Rattle.search_theory.specs.declared.report.Report.{Report}
use Rattle.search_theory.specs.Calls.{run_call}
use Rattle.search_theory.specs.Solving.{Solving, Left}

-- the run of both budgets: its report is that of the second portion, with steps and regions of both, and solver and stack are left as by the second
pub record AsBoth {S : Type 0} (first second once : Left S Report (List S × List (Region S))) (p q r : Report) : Type 0 where
  pub outcome : r.outcome ≡ q.outcome
  pub steps : r.steps ≡ p.steps + q.steps
  pub found : r.found ≡ q.found
  pub solver : once.solver ≡ second.solver
  pub stack : once.slices.0 ≡ second.slices.0
  pub regions : take r.count once.slices.1 ≡ take p.count first.slices.1 ++ take q.count second.slices.1

-- a run of budget a and then one of b, each with an out slice of its own, do what one of a + b does, given room: the first has not lacked a place, the second none for a region, and the one run has places for all regions
abbrev pub Portions : {S R : Type 0} → ShapeModel S → RuleModel R → Type 0
Portions {S} {R} M K = (s : Solving S) (rules : List R) (stack : List S) (a b : ℕ) (out out' out'' : List (Region S)) (p q : Report) → let first = run_call M K s rules stack out a in let second = run_call M K first.solver rules first.slices.0 out' b in let once = run_call M K s rules stack out'' (a + b) in first.reply ≡ Ok p → second.reply ≡ Ok q → p.outcome ≢ ListFull → p.outcome ≢ StackFull → q.outcome ≢ ListFull → p.count + q.count ≤ length out'' → (r : Report) × (once.reply ≡ Ok r) × AsBoth first second once p q r
