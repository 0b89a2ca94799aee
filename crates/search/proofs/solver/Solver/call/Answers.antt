-- What is promised of the model's answer is promised of the call's.
use Rattle.std.proofs.Common.{sym, subst}
use Rattle.search_theory.specs.Requests.{World}
use Rattle.search_theory.proofs.Promise.{promised}
use Rattle.search.specs.Lending.{world_with}
use Rattle.search.specs.Promised.{Promised}
use Rattle.search.proofs.solver.Solver.call.Goals as goal

pub returns-clause-promise : goal.returns-clause-promise
returns-clause-promise g c =
    let w : World g.row.S.Denot g.row.R.Denot = world_with c.args.self.now c.args.lent.now in
    subst (Promised g.S.Shape.model g.R.Rule.model w c.args.request) (sym c.call_any.ensures.answers) (λ l rest more deep h. promised g.met.S.Shape.laws g.met.R.Rule.laws l w rest more deep h c.args.lent.now.out.now c.args.request)
