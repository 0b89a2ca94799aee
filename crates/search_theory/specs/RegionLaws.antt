-- What refining and classifying a region mean, in terms of the points that it holds. Assumes nothing.
use Rattle.std.specs.Prelude.{◌≡◌, ◌≤◌, true, List, ℤ}
use Rattle.interface.specs.declared.extent.Extent.TheVariants.{Open}
use Rattle.interface.specs.Points.{values_of}
use Rattle.interface.specs.Rules.{RuleModel}
use Rattle.interface.specs.Shapes.{ShapeModel, Made}
use Rattle.search_theory.specs.declared.fate.Fate.{Fate}
use Rattle.search_theory.specs.declared.fate.Fate.TheVariants.{Dropped, HandedOut, Split}
use Rattle.search_theory.specs.Standing.{MeetsRules}

-- t is s narrowed, with every point kept that P asks for and none added
pub record Narrowed {S : Type 0} (M : ShapeModel S) (P : List ℤ → Type 0) (s t : S) : Type 0 where
  pub made : Made M t
  pub same_n : M.n t ≡ M.n s
  pub no_more_halvings : M.halvings t ≤ M.halvings s
  pub adds_none : (x : List ℤ) → M.holds t x ≡ true → M.holds s x ≡ true
  pub keeps : (x : List ℤ) → P x → M.holds s x ≡ true → M.holds t x ≡ true

module _ {S R : Type 0} (M : ShapeModel S) (K : RuleModel R) (rs : List R) where
  -- refining a made region keeps every held point that meets the rules and adds none
  abbrev pub Refined : S → S → Type 0
  Refined s t = Made M s → Narrowed M (MeetsRules K (M.n s) rs) s t

  -- dropped: no held point meets the rules; handed out: every one does, and the given point is held; split: the region is open
  abbrev pub TrueFate : S → Fate → Type 0
  TrueFate s Dropped = (x : List ℤ) → M.holds s x ≡ true → MeetsRules K (M.n s) rs x → ⊥
  TrueFate s (HandedOut p) = ((x : List ℤ) → M.holds s x ≡ true → MeetsRules K (M.n s) rs x) × (M.holds s (values_of p) ≡ true)
  TrueFate s Split = M.extent s ≡ Open

  abbrev pub Classified : S → Fate → Type 0
  Classified s f = Made M s → TrueFate s f
