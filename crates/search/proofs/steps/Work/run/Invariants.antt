use Rattle.std.proofs.Common.{◌≡◌, ◌-◌, ◌≤◌, length}
use Rattle.search_theory.specs.Runs.{run_from}
use Rattle.search.specs.Works.{SamePlaces, work_of}
use Rattle.search.proofs.steps.Work.run.Given as goal

-- what waits has its places, and the steps that are left give the result
abbrev pub invariant-loop-steps : goal.invariant-loop-steps
invariant-loop-steps g l = record {
  bound : l.self.waiting ≤ length l.self.stack.now;
  same_places : SamePlaces l.initial.self l.self;
  left : run_from g.S.Shape.model g.R.Rule.model l.rules (l.budget - l.steps) l.steps (work_of l.self) ≡ run_from g.S.Shape.model g.R.Rule.model l.rules l.budget 0 (work_of l.initial.self);
}
