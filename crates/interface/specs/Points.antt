-- Points as lists of values, and their lexicographic order. Assumes nothing.
use Rattle.std.specs.Prelude.{◌≡◌, ◌⊎◌, List, [], ◌∷◌, take, ℤ, ◌<ℤ◌}
use Rattle.interface.specs.declared.point.Point.{Point}

-- the values of the settings; what lies past n is no part of the point
abbrev pub values_of : Point → List ℤ
values_of x = take x.n x.values

-- x does not come after y where setting 0 is compared first
abbrev pub NoLater : List ℤ → List ℤ → Type 0
NoLater [] ys = Unit {0}
NoLater (x ∷ xs) [] = ⊥
NoLater (x ∷ xs) (y ∷ ys) = (x <ℤ y) ⊎ ((x ≡ y) × NoLater xs ys)
