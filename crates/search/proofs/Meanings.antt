-- What opening and stating a rule mean follows from the laws of the shape and the rule. Assumes nothing.
use Rattle.std.proofs.Common.{◌≡◌, true, List, ℤ, Ok, Decides, sym, ap, ◌∙◌, subst}
use Rattle.interface.specs.declared.home.Home.{Home}
use Rattle.interface.specs.Homes.{Passes, InHome}
use Rattle.interface.specs.Rules.{RuleModel, RuleLaws}
use Rattle.interface.specs.Shapes.{ShapeModel, ShapeLaws, Made, by_start}
use Rattle.search_theory.specs.RegionLaws.{Narrowed}
use Rattle.search_theory.specs.Regions.{cut_if_any}
use Rattle.search_theory.specs.Solving.{Solving}
use Rattle.search_theory.proofs.Grounds.{ok_same}
use Rattle.search_theory.proofs.Readings.{read_n, held_within}
use Rattle.search_theory.proofs.Refining.{narrowed_cut}
use Rattle.search.specs.Meanings.{Opens}

module _ {S : Type 0} {M : ShapeModel S} (L : ShapeLaws M) where
  pub opens : (h : Home) → Passes h → (t : Solving S) → t.shape ≡ M.start h → Opens M h (Ok t)
  opens h p t is s e = subst (λ z. Made M z × (M.n z ≡ h.n) × ((x : List ℤ) → Decides (M.holds z x) (InHome h x))) (sym is ∙ ap (λ u. u.shape) (ok_same e)) (by_start h p, L.start_n h p, L.start_holds h p)

  pub narrows : {R : Type 0} {K : RuleModel R} → RuleLaws K → (r : R) (s : S) → Made M s → Narrowed M (λ x. K.meets (M.n s) r x ≡ true) s (cut_if_any M s (K.standing (M.n s) r))
  narrows {K = K} J r s m = narrowed_cut L J s m (K.standing (M.n s) r) (λ t is x met h. J.standing_met (M.n s) r t is x ((held_within L s m x h).0 ∙ read_n M s) met)
