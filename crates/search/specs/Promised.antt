-- The promise about every sequence of calls, said of one call: of its answer and of what it leaves. Assumes nothing.
use Rattle.std.specs.Prelude.{List, length}
use Rattle.interface.specs.Rules.{RuleModel}
use Rattle.interface.specs.Shapes.{ShapeModel, Exact}
use Rattle.search_theory.specs.declared.checkpoint.Checkpoint.{Checkpoint}
use Rattle.search_theory.specs.declared.request.Request.{Request}
use Rattle.search_theory.specs.Ledgers.{Ledger, History, noted}
use Rattle.search_theory.specs.Promise.{Called, Kept, KeptLimits}
use Rattle.search_theory.specs.Requests.{World, Answered, whole}

module _ {S R : Type 0} (M : ShapeModel S) (K : RuleModel R) where
  -- a call that was lent what w has and answered a, with the whole slices in view
  abbrev pub called_as : Ledger S R → World S R → List R → List (Checkpoint S) → List S → Request R → Answered S R → Called S R
  called_as l w rest more deep q a = record { request = q; reply = a.reply; before = l; after = noted M K l (length w.stack) q a.reply; world = whole a.world rest more deep; out = a.out }

  -- on every history that leads to w, whatever lies past the lent front parts, everything that is promised holds after the call
  abbrev pub Promised : World S R → Request R → Answered S R → Type 0
  Promised w q a = (l : Ledger S R) (rest : List R) (more : List (Checkpoint S)) (deep : List S) → History M K l (whole w rest more deep) → Kept M K (called_as l w rest more deep q a) × (Exact M → KeptLimits K (called_as l w rest more deep q a))
