-- The whole promise, of a shape that is exact. Assumes nothing.
use Rattle.std.specs.Prelude.{List}
use Rattle.interface.specs.Rules.{RuleModel}
use Rattle.interface.specs.Shapes.{ShapeModel}
use Rattle.search_theory.specs.declared.checkpoint.Checkpoint.{Checkpoint}
use Rattle.search_theory.specs.declared.region.Region.{Region}
use Rattle.search_theory.specs.declared.request.Request.{Request}
use Rattle.search_theory.specs.Ledgers.{Ledger, History}
use Rattle.search_theory.specs.Promise.{called, Kept, KeptLimits}
use Rattle.search_theory.specs.Requests.{World, Answered, whole}
use Rattle.search.specs.Promised.{called_as}

module _ {S R : Type 0} (M : ShapeModel S) (K : RuleModel R) where
  -- on every history that leads to w, whatever lies past the lent front parts: all eight statements hold after the call
  abbrev pub PromisedWhole : World S R → Request R → Answered S R → Type 0
  PromisedWhole w q a = (l : Ledger S R) (rest : List R) (more : List (Checkpoint S)) (deep : List S) → History M K l (whole w rest more deep) → Kept M K (called_as M K l w rest more deep q a) × KeptLimits K (called_as M K l w rest more deep q a)

  -- the same of the model, after any call on any history
  abbrev pub PromiseWhole : Type 0
  PromiseWhole = (l : Ledger S R) (w : World S R) (rest : List R) (more : List (Checkpoint S)) (deep : List S) → History M K l (whole w rest more deep) → (out : List (Region S)) (q : Request R) → Kept M K (called M K l w rest more deep out q) × KeptLimits K (called M K l w rest more deep out q)
