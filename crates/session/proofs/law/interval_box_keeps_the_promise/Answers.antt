use Rattle.intervals.specs.Laws.{box_laws}
use Rattle.rules.proofs.AnyLaws.{any_laws}
use Rattle.search_theory.proofs.Promise.{promised}
use Rattle.session.proofs.law.interval_box_keeps_the_promise.Goals as goal

pub returns : goal.returns
returns c = promised box_laws any_laws
