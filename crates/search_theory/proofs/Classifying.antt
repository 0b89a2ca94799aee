-- Classifying tells the truth: the verdicts of all rules together, and a lone region is never split. Assumes nothing.
use Rattle.std.proofs.Common.{◌≡◌, cond, ◌≢◌, ◌⊎◌, List, [], ◌∷◌, ℤ, is_some, Some, None, Option, sym, refl, ap, subst, inl, inr, ⊎_elim}
use Rattle.std.proofs.lemmas.Bool.{both_ways}
use Rattle.interface.specs.declared.extent.Extent.{Extent}
use Rattle.interface.specs.declared.extent.Extent.TheVariants.{Void, Lone, Open}
use Rattle.interface.specs.declared.point.Point.{Point}
use Rattle.interface.specs.declared.reading.Reading.{Reading}
use Rattle.interface.specs.declared.verdict.Verdict.{Verdict}
use Rattle.interface.specs.declared.verdict.Verdict.TheVariants.{Nothing, All, Unknown}
use Rattle.interface.specs.Readings.{Within, SumsOf}
use Rattle.interface.specs.Rules.{RuleModel, RuleLaws}
use Rattle.interface.specs.Shapes.{ShapeModel, ShapeLaws, Made}
use Rattle.search_theory.specs.declared.fate.Fate.TheVariants.{Dropped}
use Rattle.search_theory.specs.RegionLaws.{TrueFate, Classified}
use Rattle.search_theory.specs.Regions.{read, is_void, both, fate_by, judged, classify}
use Rattle.search_theory.specs.Standing.{MeetsRules}
use Rattle.search_theory.proofs.Cases.{all≢nothing, all≢unknown, nothing≢all, nothing≢unknown, unknown≢all}
use Rattle.search_theory.proofs.Readings.{read_n, held_within, lone_sums}

both_nothing : (v w : Verdict) → both v w ≡ Nothing → (v ≡ Nothing) ⊎ (w ≡ Nothing)
both_nothing Nothing w e = inl refl
both_nothing All w e = inr e
both_nothing Unknown Nothing e = inr refl
both_nothing Unknown All e = inl e
both_nothing Unknown Unknown e = inl e

both_all : (v w : Verdict) → both v w ≡ All → (v ≡ All) × (w ≡ All)
both_all Nothing w e = absurd (nothing≢all e)
both_all All w e = (refl, e)
both_all Unknown Nothing e = absurd (nothing≢all e)
both_all Unknown All e = (e, refl)
both_all Unknown Unknown e = absurd (unknown≢all e)

both_unknown : (v w : Verdict) → both v w ≡ Unknown → (v ≡ Unknown) ⊎ (w ≡ Unknown)
both_unknown Nothing w e = absurd (nothing≢unknown e)
both_unknown All w e = inr e
both_unknown Unknown w e = inl refl

module _ {R : Type 0} {K : RuleModel R} (J : RuleLaws K) where
  judged_nothing : (rs : List R) (g : Reading) → judged K rs g ≡ Nothing → (x : List ℤ) → Within g x → MeetsRules K g.n rs x → ⊥
  judged_nothing [] g e x h met = all≢nothing e
  judged_nothing (r ∷ rs) g e x h met = ⊎_elim (λ v. both_ways _ (J.nothing_meets r g v x h) met.0) (λ v. judged_nothing rs g v x h met.1) (both_nothing (K.judge r g) (judged K rs g) e)

  judged_all : (rs : List R) (g : Reading) → judged K rs g ≡ All → (x : List ℤ) → Within g x → MeetsRules K g.n rs x
  judged_all [] g e x h = tt
  judged_all (r ∷ rs) g e x h = let p = both_all (K.judge r g) (judged K rs g) e in (J.all_meet r g p.0 x h, judged_all rs g p.1 x h)

  judged_known : (rs : List R) (g : Reading) (x : List ℤ) → SumsOf g x → judged K rs g ≢ Unknown
  judged_known [] g x h e = all≢unknown e
  judged_known (r ∷ rs) g x h e = ⊎_elim (J.known_on_one r g x h) (judged_known rs g x h) (both_unknown (K.judge r g) (judged K rs g) e)

module _ {S R : Type 0} {M : ShapeModel S} {K : RuleModel R} (L : ShapeLaws M) (J : RuleLaws K) (rs : List R) (s : S) (m : Made M s) where
  true_fate_by : (v : Verdict) → judged K rs (read M s) ≡ v → (o : Option Point) → M.offer s ≡ o → (M.extent s ≡ Lone) ⊎ (M.extent s ≡ Open) → TrueFate M K rs s (fate_by v o)
  true_fate_by Nothing e o f ext = λ x h met. judged_nothing J rs (read M s) e x (held_within L s m x h) (subst (λ n. MeetsRules K n rs x) (sym (read_n M s)) met)
  true_fate_by All e (Some p) f ext = (λ x h. subst (λ n. MeetsRules K n rs x) (read_n M s) (judged_all J rs (read M s) e x (held_within L s m x h)), L.offer_holds s m p f)
  true_fate_by All e None f ext = ⊎_elim (λ o. absurd (both_ways (is_some (M.offer s)) (ap is_some f) (L.lone_offers s m o))) (λ o. o) ext
  true_fate_by Unknown e o f ext = ⊎_elim (λ l. let p = L.lone_holds s m l in absurd (judged_known J rs (read M s) p.0 (lone_sums L s m l p.0 p.1) e)) (λ o. o) ext

  true_fate : (e : Extent) → M.extent s ≡ e → TrueFate M K rs s (cond (is_void e) Dropped (fate_by (judged K rs (read M s)) (M.offer s)))
  true_fate Void e = λ x h met. both_ways _ (L.void_holds s m e x) h
  true_fate Lone e = true_fate_by (judged K rs (read M s)) refl (M.offer s) refl (inl e)
  true_fate Open e = true_fate_by (judged K rs (read M s)) refl (M.offer s) refl (inr e)

module _ {S R : Type 0} {M : ShapeModel S} {K : RuleModel R} (L : ShapeLaws M) (J : RuleLaws K) where
  pub classified : (rs : List R) (s : S) → Classified M K rs s (classify M K rs s)
  classified rs s m = true_fate L J rs s m (M.extent s) refl
