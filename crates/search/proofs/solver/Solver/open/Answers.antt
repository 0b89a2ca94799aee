-- A shape started from a home that passes holds the home's points.
use Rattle.std.proofs.Common.{sym}
use Rattle.search.proofs.Meanings.{opens}
use Rattle.search.proofs.solver.Solver.open.Goals as goal

pub returns-clause-opens : goal.returns-clause-opens
returns-clause-opens g c = opens g.met.S.Shape.laws c.args.home.now (sym c.in_ok-check.ensures) _ c.start.ensures
