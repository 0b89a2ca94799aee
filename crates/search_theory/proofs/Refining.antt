-- Refining narrows: each cut does, and narrowing composes along cuts, rules and rounds. Assumes nothing.
use Rattle.std.proofs.Common.{◌≡◌, ℕ, zero, suc, Bool, true, false, cond, List, [], ◌∷◌, ℤ, Some, None, Option, sym, refl, ◌∙◌, subst, le_trans, le_refl}
use Rattle.std.specs.List.{range_with_len}
use Rattle.interface.specs.declared.cut.Cut.{Cut}
use Rattle.interface.specs.Cuts.{Meets}
use Rattle.interface.specs.Rules.{RuleModel, RuleLaws}
use Rattle.interface.specs.Shapes.{ShapeModel, ShapeLaws, Made, by_cut}
use Rattle.search_theory.specs.RegionLaws.{Narrowed, Refined}
use Rattle.search_theory.specs.Regions.{read, is_open, same_limits, cut_if_any, tighten, by_cuts, by_rules, by_rounds, refine}
use Rattle.search_theory.specs.Standing.{MeetsRules}
use Rattle.search_theory.proofs.Readings.{read_n, held_within}

module _ {S : Type 0} {M : ShapeModel S} {P : List ℤ → Type 0} where
  pub narrowed_none : (s : S) → Made M s → Narrowed M P s s
  narrowed_none s m = record { made = m; same_n = refl; no_more_halvings = le_refl _; adds_none = λ x h. h; keeps = λ x p h. h }

  pub narrowed_twice : {s t u : S} → Narrowed M P s t → Narrowed M P t u → Narrowed M P s u
  narrowed_twice a b = record {
    made = b.made;
    same_n = b.same_n ∙ a.same_n;
    no_more_halvings = le_trans b.no_more_halvings a.no_more_halvings;
    adds_none = λ x h. a.adds_none x (b.adds_none x h);
    keeps = λ x p h. b.keeps x p (a.keeps x p h);
  }

  narrowed_either : (b : Bool) {s t u : S} → Narrowed M P s t → Narrowed M P s u → Narrowed M P s (cond b t u)
  narrowed_either true a b = a
  narrowed_either false a b = b

module _ {S R : Type 0} {M : ShapeModel S} {K : RuleModel R} (L : ShapeLaws M) (J : RuleLaws K) {P : List ℤ → Type 0} where
  pub narrowed_cut : (s : S) → Made M s → (o : Option Cut) → ((t : Cut) → o ≡ Some t → (x : List ℤ) → P x → M.holds s x ≡ true → Meets x t) → Narrowed M P s (cut_if_any M s o)
  narrowed_cut s m None met = narrowed_none s m
  narrowed_cut s m (Some t) met = record {
    made = by_cut m t;
    same_n = L.cut_n s m t;
    no_more_halvings = L.cut_halvings s m t;
    adds_none = L.cut_adds_none s m t;
    keeps = λ x p h. L.cut_keeps s m t x h (met t refl x p h);
  }

  narrowed_tighten : (s : S) → Made M s → (r : R) (i : ℕ) → ((x : List ℤ) → P x → K.meets (M.n s) r x ≡ true) → Narrowed M P s (tighten M K r i s)
  narrowed_tighten s m r i met = narrowed_either (is_open (M.extent s)) (narrowed_cut s m (K.proposed r (read M s) i) λ t e x p h. J.proposed_met r (read M s) i t e x (held_within L s m x h) (subst (λ n. K.meets n r x ≡ true) (sym (read_n M s)) (met x p))) (narrowed_none s m)

  narrowed_cuts : (is : List ℕ) (s : S) → Made M s → (r : R) → ((x : List ℤ) → P x → K.meets (M.n s) r x ≡ true) → Narrowed M P s (by_cuts M K r is s)
  narrowed_cuts [] s m r met = narrowed_none s m
  narrowed_cuts (i ∷ is) s m r met =
      let a = narrowed_tighten s m r i met in
      narrowed_twice a (narrowed_cuts is (tighten M K r i s) a.made r (λ x p. subst (λ n. K.meets n r x ≡ true) (sym a.same_n) (met x p)))

  narrowed_rules : (rs : List R) (s : S) → Made M s → ((x : List ℤ) → P x → MeetsRules K (M.n s) rs x) → Narrowed M P s (by_rules M K rs s)
  narrowed_rules [] s m met = narrowed_none s m
  narrowed_rules (r ∷ rs) s m met =
      let a = narrowed_cuts (range_with_len 0 3) s m r (λ x p. (met x p).0) in
      narrowed_twice a (narrowed_rules rs (by_cuts M K r (range_with_len 0 3) s) a.made (λ x p. subst (λ n. MeetsRules K n rs x) (sym a.same_n) (met x p).1))

  narrowed_rounds : (k : ℕ) (rs : List R) (s : S) → Made M s → ((x : List ℤ) → P x → MeetsRules K (M.n s) rs x) → Narrowed M P s (by_rounds M K k rs s)
  narrowed_rounds zero rs s m met = narrowed_none s m
  narrowed_rounds (suc k) rs s m met =
      let a = narrowed_rules rs s m met in
      narrowed_either (same_limits (read M s) (read M (by_rules M K rs s))) a (narrowed_twice a (narrowed_rounds k rs (by_rules M K rs s) a.made (λ x p. subst (λ n. MeetsRules K n rs x) (sym a.same_n) (met x p))))

module _ {S R : Type 0} {M : ShapeModel S} {K : RuleModel R} (L : ShapeLaws M) (J : RuleLaws K) where
  pub refined : (rs : List R) (s : S) → Refined M K rs s (refine M K rs s)
  unfolding refine
  refined rs s m = narrowed_rounds L J 8 rs s m (λ x p. p)
