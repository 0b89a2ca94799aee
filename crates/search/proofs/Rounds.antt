-- What is left of the rounds gives the result, and a region that is not open stays as it is. Assumes nothing.
use Rattle.std.proofs.Common.{◌≡◌, ℕ, zero, suc, ◌+◌, ◌-◌, ◌<◌, ◌≤◌, Bool, true, false, cond, List, [], ◌∷◌, length, get_or, drop, sym, refl, ap, ◌∙◌, ap₂, arith}
use Rattle.std.specs.List.{range_with_len}
use Rattle.std.proofs.lemmas.List.{at_drop_all, at_drop_more}
use Rattle.interface.specs.declared.reading.Reading.{Reading}
use Rattle.interface.specs.Rules.{RuleModel}
use Rattle.interface.specs.Shapes.{ShapeModel}
use Rattle.search_theory.specs.Regions.{is_open, cut_if_any, read, same_limits, tighten, by_cuts, by_rules, by_rounds, refine}

either_way : {X : Type 0} (b : Bool) (x y z : X) → x ≡ z → y ≡ z → cond b x y ≡ z
either_way true x y z e f = e
either_way false x y z e f = f

counting_more : (k n : ℕ) → k < n → range_with_len k (n - k) ≡ k ∷ range_with_len (k + 1) (n - (k + 1))
counting_more k n h = let e : n - k ≡ suc (n - (k + 1)) = omega arith in ap (range_with_len k) e

module _ {S R : Type 0} (M : ShapeModel S) (K : RuleModel R) where
  module _ (s : S) (shut : is_open (M.extent s) ≡ false) where
    shut_cuts : (r : R) (is : List ℕ) → by_cuts M K r is s ≡ s
    shut_cuts r [] = refl
    shut_cuts r (i ∷ is) = ap (λ b. by_cuts M K r is (cond b (cut_if_any M s (K.proposed r (read M s) i)) s)) shut ∙ shut_cuts r is

    shut_rules : (rs : List R) → by_rules M K rs s ≡ s
    shut_rules [] = refl
    shut_rules (r ∷ rs) = ap (by_rules M K rs) (shut_cuts r (range_with_len 0 3)) ∙ shut_rules rs

    shut_rounds : (k : ℕ) (rs : List R) → by_rounds M K k rs s ≡ s
    shut_rounds zero rs = refl
    shut_rounds (suc k) rs = either_way _ _ _ s (shut_rules rs) (ap (by_rounds M K k rs) (shut_rules rs) ∙ shut_rounds k rs)

  pub cuts_more : (r : R) (i : ℕ) → i < 3 → (s t : S) → t ≡ tighten M K r i s → by_cuts M K r (range_with_len i (3 - i)) s ≡ by_cuts M K r (range_with_len (i + 1) (3 - (i + 1))) t
  cuts_more r i h s t e = ap (λ is. by_cuts M K r is s) (counting_more i 3 h) ∙ ap (by_cuts M K r (range_with_len (i + 1) (3 - (i + 1)))) (sym e)

  pub rules_more : (rs : List R) (j : ℕ) (r : R) → j < length rs → r ≡ get_or rs j r → (s t : S) → t ≡ by_cuts M K r (range_with_len 0 3) s → by_rules M K (drop j rs) s ≡ by_rules M K (drop (j + 1) rs) t
  rules_more rs j r h e s t f = at_drop_more (λ qs. by_rules M K qs s) rs j r h ∙ ap (λ q. by_rules M K (q ∷ drop (j + 1) rs) s) (sym e) ∙ ap (by_rules M K (drop (j + 1) rs)) (sym f)

  pub rules_end : (rs : List R) (j : ℕ) → length rs ≤ j → (s : S) → by_rules M K (drop j rs) s ≡ s
  rules_end rs j h s = at_drop_all (λ qs. by_rules M K qs s) rs j h

  pub rounds_start : (rs : List R) (s : S) → by_rounds M K 8 rs s ≡ refine M K rs s
  unfolding refine
  rounds_start rs s = refl

  -- a round that leaves t, with the readings before and after it
  pub rounds_more : (rs : List R) (k : ℕ) → k < 8 → (s t : S) → t ≡ by_rules M K rs s → (g h : Reading) → g ≡ read M s → h ≡ read M t → (b : Bool) → b ≡ same_limits g h → by_rounds M K (8 - k) rs s ≡ cond b t (by_rounds M K (8 - (k + 1)) rs t)
  rounds_more rs k l s t e g h eg eh b eb =
      let more : 8 - k ≡ suc (8 - (k + 1)) = omega arith in
      ap (λ n. by_rounds M K n rs s) more ∙ ap (λ u. cond (same_limits (read M s) (read M u)) u (by_rounds M K (8 - (k + 1)) rs u)) (sym e) ∙ ap (λ c. cond c t (by_rounds M K (8 - (k + 1)) rs t)) (ap₂ same_limits (sym eg) (sym eh) ∙ sym eb)

  pub rounds_end : (rs : List R) (k : ℕ) → 8 ≤ k → (s : S) → by_rounds M K (8 - k) rs s ≡ s
  rounds_end rs k h s = let e : 8 - k ≡ 0 = omega arith in ap (λ n. by_rounds M K n rs s) e

  -- the round from s is left at u, before cut i of rule j, since u is not open; t is the region that rule j began with
  pub rounds_left : (rs : List R) (k : ℕ) → k < 8 → (j : ℕ) (r : R) → j < length rs → r ≡ get_or rs j r → (i : ℕ) (s t u : S) → by_rules M K (drop j rs) t ≡ by_rules M K rs s → by_cuts M K r (range_with_len i (3 - i)) u ≡ by_cuts M K r (range_with_len 0 3) t → is_open (M.extent u) ≡ false → by_rounds M K (8 - k) rs s ≡ u
  rounds_left rs k l j r h e i s t u by-r by-c shut =
      let more : 8 - k ≡ suc (8 - (k + 1)) = omega arith in
      let came = sym (shut_cuts u shut r (range_with_len i (3 - i))) ∙ by-c in
      let round = sym by-r ∙ rules_more rs j r h e t u came ∙ shut_rules u shut (drop (j + 1) rs) in
      ap (λ n. by_rounds M K n rs s) more ∙ either_way _ _ _ u round (ap (by_rounds M K (8 - (k + 1)) rs) round ∙ shut_rounds u shut (8 - (k + 1)) rs)
