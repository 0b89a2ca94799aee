-- How many shapes of a list hold a point: over joined and reversed lists. Assumes nothing.
use Rattle.std.proofs.Common.{◌≡◌, ◌+◌, Bool, true, false, List, [], ◌∷◌, ◌++◌, reverse, ℤ, sym, refl, ap, ◌∙◌, arith}
use mathlib.Core.List.{reverse_aux}
use Rattle.std.specs.List.{AllByRecursion}
use Rattle.std.proofs.lemmas.List.{map-append}
use Rattle.interface.specs.Shapes.{ShapeModel, one_if}
use Rattle.search_theory.specs.declared.region.Region.{Region}
use Rattle.search_theory.specs.Standing.{how_many, shapes_of}

pub same_bool : (a b : Bool) → (a ≡ true → b ≡ true) → (b ≡ true → a ≡ true) → a ≡ b
same_bool true b f g = sym (f refl)
same_bool false true f g = g refl
same_bool false false f g = refl

pub false_if_not : (b : Bool) → (b ≡ true → ⊥) → b ≡ false
false_if_not true f = absurd (f refl)
false_if_not false f = refl

all_onto : {A : Type 0} (P : A → Type 0) (xs ys : List A) → AllByRecursion P xs → AllByRecursion P ys → AllByRecursion P (reverse_aux xs ys)
all_onto P [] ys h k = k
all_onto P (x ∷ xs) ys h k = all_onto P xs (x ∷ ys) h.1 (h.0, k)

pub all_reverse : {A : Type 0} (P : A → Type 0) (xs : List A) → AllByRecursion P xs → AllByRecursion P (reverse xs)
all_reverse P xs h = all_onto P xs [] h tt

module _ {S : Type 0} (M : ShapeModel S) (x : List ℤ) where
  pub how_many_append : (ss ts : List S) → how_many M (ss ++ ts) x ≡ how_many M ss x + how_many M ts x
  how_many_append [] ts = omega arith
  how_many_append (s ∷ ss) ts = let e = how_many_append ss ts in omega (arith, e)

  pub how_many_pushed : (hs : List (Region S)) (g : Region S) → how_many M (shapes_of (hs ++ g ∷ [])) x ≡ how_many M (shapes_of hs) x + one_if (M.holds g.shape x)
  how_many_pushed hs g = ap (λ ss. how_many M ss x) (map-append (λ h. h.shape) hs (g ∷ [])) ∙ how_many_append (shapes_of hs) (g.shape ∷ []) ∙ omega arith

  how_many_onto : (ss ts : List S) → how_many M (reverse_aux ss ts) x ≡ how_many M ss x + how_many M ts x
  how_many_onto [] ts = omega arith
  how_many_onto (s ∷ ss) ts = let e = how_many_onto ss (s ∷ ts) in omega (arith, e)

  pub how_many_reverse : (ss : List S) → how_many M (reverse ss) x ≡ how_many M ss x
  how_many_reverse ss = how_many_onto ss [] ∙ omega arith
