-- The octagon is exact, so the premise of the solver's promise is met.
use Rattle.octagon.specs.Laws.{octagon_exact}
use Rattle.session.proofs.call.call.Goals as goal

pub returns-clause-promise : goal.returns-clause-promise
returns-clause-promise g c l rest more deep h = let p = c.call.ensures.promise l rest more deep h in (p.0, p.1 octagon_exact)
