-- Each turn of the loop is a step; a step that is not made is the model's end.
use Rattle.std.proofs.Common.{sym, ◌∙◌, arith, rules}
use Rattle.search.specs.Works.{work_of}
use Rattle.search.proofs.Budgets.{run_made, run_stopped}
use Rattle.search.proofs.steps.Work.run.Goals as goal

pub loop-steps-preserved : goal.loop-steps-preserved
loop-steps-preserved g c = record {
  bound = c.step.ensures.bound;
  same_places = search rules;
  left = sym (run_made g.S.Shape.model g.R.Rule.model c.args.rules.now (work_of c.loop-steps.self) c.args.budget c.loop-steps.steps (omega arith) (omega arith) (work_of c.step.new.self) c.in_default.ensures.after) ∙ c.loop-steps.invariant.left;
}

pub returns-in-Err-clause-after : goal.returns-in-Err-clause-after
returns-in-Err-clause-after g c = sym (run_stopped g.S.Shape.model g.R.Rule.model c.args.rules.now (work_of c.loop-steps.self) c.args.budget c.loop-steps.steps (omega arith) (omega arith) (work_of c.step.new.self) c.in-Err.outcome c.in-Err.ensures.after) ∙ c.loop-steps.invariant.left
