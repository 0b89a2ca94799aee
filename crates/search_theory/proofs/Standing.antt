-- The shape of a home and standing rules: it is made, lies within the home, and holds every point that meets the rules. Assumes nothing.
use Rattle.std.proofs.Common.{◌≡◌, ℕ, true, List, [], ◌∷◌, ◌++◌, ℤ, Some, None, Option, sym, refl, ap, ◌∙◌, subst}
use Rattle.std.proofs.lemmas.List.{append_assoc}
use Rattle.interface.specs.declared.cut.Cut.{Cut}
use Rattle.interface.specs.declared.home.Home.{Home}
use Rattle.interface.specs.Homes.{Passes, InHome}
use Rattle.interface.specs.Rules.{RuleModel, RuleLaws}
use Rattle.interface.specs.Shapes.{ShapeModel, ShapeLaws, Made, cut_by, by_start}
use Rattle.search_theory.specs.RegionLaws.{Narrowed}
use Rattle.search_theory.specs.Regions.{cut_if_any}
use Rattle.search_theory.specs.Standing.{MeetsRules, cut_list, standing_cuts, shape_of}
use Rattle.search_theory.proofs.Readings.{held_n}
use Rattle.search_theory.proofs.Refining.{narrowed_none, narrowed_twice, narrowed_cut}

module _ {S : Type 0} (M : ShapeModel S) where
  cut_by_append : (s : S) (ts us : List Cut) → cut_by M s (ts ++ us) ≡ cut_by M (cut_by M s ts) us
  cut_by_append s [] us = refl
  cut_by_append s (t ∷ ts) us = cut_by_append (M.cut s t) ts us

  cut_by_if : (s : S) (o : Option Cut) (ts : List Cut) → cut_by M s (cut_list o ++ ts) ≡ cut_by M (cut_if_any M s o) ts
  cut_by_if s None ts = refl
  cut_by_if s (Some t) ts = refl

standing_cuts_append : {R : Type 0} (K : RuleModel R) (n : ℕ) (rs qs : List R) → standing_cuts K n (rs ++ qs) ≡ standing_cuts K n rs ++ standing_cuts K n qs
standing_cuts_append K n [] qs = refl
standing_cuts_append K n (r ∷ rs) qs = ap (λ ts. cut_list (K.standing n r) ++ ts) (standing_cuts_append K n rs qs) ∙ sym (append_assoc (cut_list (K.standing n r)) (standing_cuts K n rs) (standing_cuts K n qs))

-- one rule more: its standing cut is applied
pub shape_of_push : {S R : Type 0} (M : ShapeModel S) (K : RuleModel R) (h : Home) (rs : List R) (r : R) → shape_of M K h (rs ++ r ∷ []) ≡ cut_if_any M (shape_of M K h rs) (K.standing h.n r)
shape_of_push M K h rs r = ap (cut_by M (M.start h)) (standing_cuts_append K h.n rs (r ∷ [])) ∙ cut_by_append M (M.start h) (standing_cuts K h.n rs) (cut_list (K.standing h.n r) ++ []) ∙ cut_by_if M (shape_of M K h rs) (K.standing h.n r) []

module _ {S R : Type 0} {M : ShapeModel S} {K : RuleModel R} (L : ShapeLaws M) (J : RuleLaws K) where
  narrowed_standing : (n : ℕ) (rs : List R) (P : List ℤ → Type 0) → ((x : List ℤ) → P x → MeetsRules K n rs x) → (s : S) → Made M s → M.n s ≡ n → Narrowed M P s (cut_by M s (standing_cuts K n rs))
  narrowed_standing n [] P met s m e = narrowed_none s m
  narrowed_standing n (r ∷ rs) P met s m e =
      let a = narrowed_cut L J s m (K.standing n r) (λ t f x p h. J.standing_met n r t f x (held_n L m x h ∙ e) (met x p).0) in
      subst (Narrowed M P s) (sym (cut_by_if M s (K.standing n r) (standing_cuts K n rs))) (narrowed_twice a (narrowed_standing n rs P (λ x p. (met x p).1) (cut_if_any M s (K.standing n r)) a.made (a.same_n ∙ e)))

  module _ (h : Home) (p : Passes h) (rs : List R) where
    shape_narrowed : Narrowed M (MeetsRules K h.n rs) (M.start h) (shape_of M K h rs)
    shape_narrowed = narrowed_standing h.n rs (MeetsRules K h.n rs) (λ x m. m) (M.start h) (by_start h p) (L.start_n h p)

    pub shape_made : Made M (shape_of M K h rs)
    shape_made = shape_narrowed.made

    pub shape_n : M.n (shape_of M K h rs) ≡ h.n
    shape_n = shape_narrowed.same_n ∙ L.start_n h p

    pub shape_inside : (x : List ℤ) → M.holds (shape_of M K h rs) x ≡ true → InHome h x
    shape_inside x e = (L.start_holds h p x).0 (shape_narrowed.adds_none x e)

    pub shape_holds : (x : List ℤ) → InHome h x → MeetsRules K h.n rs x → M.holds (shape_of M K h rs) x ≡ true
    shape_holds x i m = shape_narrowed.keeps x m ((L.start_holds h p x).1 i)
