-- The fate of a made region tells the truth of its points.
use Rattle.std.proofs.Common.{sym, subst}
use Rattle.search_theory.specs.RegionLaws.{Classified}
use Rattle.search_theory.proofs.Classifying.{classified}
use Rattle.search.proofs.classify.classify.Goals as goal

pub returns-clause-truth : goal.returns-clause-truth
returns-clause-truth g c = subst (Classified g.S.Shape.model g.R.Rule.model c.args.rules.now c.args.shape.now) (sym c.fate.ensures) (classified g.met.S.Shape.laws g.met.R.Rule.laws c.args.rules.now c.args.shape.now)
