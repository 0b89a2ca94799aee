-- What the model's run keeps, the run keeps.
use Rattle.std.proofs.Common.{sym, subst}
use Rattle.search_theory.specs.RunLaws.{RunLaws}
use Rattle.search_theory.proofs.RunLaws.{run_laws}
use Rattle.search_theory.proofs.TwoRuns.{portions}
use Rattle.search.specs.Meanings.{InPortions}
use Rattle.search.specs.Views.{view}
use Rattle.search.proofs.solver.Solver.run.Goals as goal

pub returns-clause-laws : goal.returns-clause-laws
returns-clause-laws g c = subst (RunLaws g.S.Shape.model g.R.Rule.model (view c.args.self.now) c.args.rules.now c.args.stack.now c.args.out.now c.args.budget) (sym c.run_any.ensures) (run_laws g.met.S.Shape.laws g.met.R.Rule.laws (view c.args.self.now) c.args.rules.now c.args.stack.now c.args.out.now c.args.budget)

pub returns-clause-portions : goal.returns-clause-portions
returns-clause-portions g c = subst (InPortions g.S.Shape.model g.R.Rule.model (view c.args.self.now) c.args.rules.now c.args.stack.now c.args.budget) (sym c.run_any.ensures) (λ b other whole. portions g.S.Shape.model g.R.Rule.model (view c.args.self.now) c.args.rules.now c.args.stack.now c.args.budget b c.args.out.now other whole)
