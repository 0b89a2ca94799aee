use Rattle.octagon.specs.Laws.{octagon_laws, octagon_exact}
use Rattle.rules.proofs.AnyLaws.{any_laws}
use Rattle.search_theory.proofs.Promise.{promised}
use Rattle.session.proofs.law.octagon_keeps_the_promise.Goals as goal

pub returns : goal.returns
returns c l w rest more deep h out q = let p = promised octagon_laws any_laws l w rest more deep h out q in (p.0, p.1 octagon_exact)
