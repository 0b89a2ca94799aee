use Rattle.search_theory.proofs.Promise.{promised}
use Rattle.search_theory.proofs.law.every_sequence_of_calls.Goals as goal

pub returns : goal.returns
returns g c = promised g.met.S.Shape.laws g.met.R.Rule.laws
