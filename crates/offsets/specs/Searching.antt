-- A problem's calls on a world and the frames that answer them. Assumes nothing.
use Rattle.std.specs.Prelude.{ℕ, List, map}
use Rattle.interface.specs.Shapes.{ShapeModel}
use Rattle.offsets.specs.Entry.{answer_frames}
use Rattle.rules.specs.Any.{AnyRule, any_model}
use Rattle.search_theory.specs.declared.region.Region.{Region}
use Rattle.search_theory.specs.declared.request.Request.TheVariants.{State, Begin, Run}
use Rattle.search_theory.specs.Requests.{World, answer}
use Rattle.solving.specs.Solving.{after_calls}

module _ {S : Type 0} (M : ShapeModel S) where
  abbrev pub begun_in : World S AnyRule → List (Region S) → List AnyRule → World S AnyRule
  begun_in w out rs = (answer M any_model (after_calls M any_model w out (map State rs)) out Begin).world

  abbrev pub answered_in : World S AnyRule → List (Region S) → List AnyRule → ℕ → List (List ℕ)
  answered_in w out rs budget = let a = answer M any_model (begun_in w out rs) out (Run budget) in answer_frames M a.reply a.out
