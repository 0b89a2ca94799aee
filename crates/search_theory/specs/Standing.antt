-- Rules that stand, the points that meet them, and how many shapes hold a point. Assumes nothing.
use Rattle.std.specs.Prelude.{◌≡◌, ℕ, ◌+◌, true, List, [], ◌∷◌, ◌++◌, map, ℤ, Some, None, Option}
use Rattle.interface.specs.declared.cut.Cut.{Cut}
use Rattle.interface.specs.declared.home.Home.{Home}
use Rattle.interface.specs.Rules.{RuleModel}
use Rattle.interface.specs.Shapes.{ShapeModel, built, one_if}
use Rattle.search_theory.specs.declared.region.Region.{Region}

-- the point meets every rule of the list; n is how many settings the line has
abbrev pub MeetsRules : {R : Type 0} → RuleModel R → ℕ → List R → List ℤ → Type 0
MeetsRules K n [] x = Unit {0}
MeetsRules K n (r ∷ rs) x = (K.meets n r x ≡ true) × MeetsRules K n rs x

abbrev pub cut_list : Option Cut → List Cut
cut_list None = []
cut_list (Some t) = t ∷ []

-- the standing cuts of those rules that have one
abbrev pub standing_cuts : {R : Type 0} → RuleModel R → ℕ → List R → List Cut
standing_cuts K n [] = []
standing_cuts K n (r ∷ rs) = cut_list (K.standing n r) ++ standing_cuts K n rs

-- the shape made from a home by the standing cuts of the rules
abbrev pub shape_of : {S R : Type 0} → ShapeModel S → RuleModel R → Home → List R → S
shape_of M K h rs = built M h (standing_cuts K h.n rs)

-- how many of the shapes hold the point
abbrev pub how_many : {S : Type 0} → ShapeModel S → List S → List ℤ → ℕ
how_many M [] x = 0
how_many M (s ∷ ss) x = one_if (M.holds s x) + how_many M ss x

abbrev pub shapes_of : {S : Type 0} → List (Region S) → List S
shapes_of gs = map (λ g. g.shape) gs
