use Rattle.solving.proofs.Calls.{solves_truly}
use Rattle.solving.proofs.law.solves_truly.Goals as goal

pub returns : goal.returns
returns g c = solves_truly g.met.S.Shape.laws g.met.R.Rule.laws
