-- A setting's two nodes stand for its value and the negative. Assumes nothing.
use Rattle.std.proofs.Common.{◌≡◌, ℕ, ◌+◌, ◌*◌, ◌/◌, ◌%◌, ◌<◌, List, get_or, ℤ, pos, neg_ℤ, sym, ap, ◌∙◌, inl, inr, arith}
use lib.IntN.{neg_ℤ-neg_ℤ}
use Rattle.std.proofs.lemmas.Bool.{cond-true, cond-false, eq-eqb, ne_eqb, cases_eq}
use Rattle.interface.specs.Nodes.{opp, value}

pub value_even : (x : List ℤ) (k : ℕ) → value x (2 * k) ≡ get_or x k (pos 0)
unfolding value
value_even x k =
    let e : (2 * k) % 2 ≡ 0 = omega arith in
    let d : (2 * k) / 2 ≡ k = omega arith in
    cond-true _ _ _ (eq-eqb _ _ e) ∙ ap (λ j. get_or x j (pos 0)) d

pub value_odd : (x : List ℤ) (k : ℕ) → value x (2 * k + 1) ≡ neg_ℤ (get_or x k (pos 0))
unfolding value
value_odd x k =
    let e : (2 * k + 1) % 2 ≡ 0 → ⊥ = omega arith in
    let d : (2 * k + 1) / 2 ≡ k = omega arith in
    cond-false _ _ _ (ne_eqb _ _ e) ∙ ap (λ j. neg_ℤ (get_or x j (pos 0))) d

pub value_opp : (x : List ℤ) (p : ℕ) → value x (opp p) ≡ neg_ℤ (value x p)
value_opp x p =
    elim (cases_eq (p % 2) 0) [
      | inl e ↦
          let here : p ≡ 2 * (p / 2) = omega arith in
          let there : opp p ≡ 2 * (p / 2) + 1 = omega arith in
          ap (value x) there ∙ value_odd x (p / 2) ∙ ap neg_ℤ (sym (ap (value x) here ∙ value_even x (p / 2)))
      | inr e ↦
          let here : p ≡ 2 * (p / 2) + 1 = omega arith in
          let there : opp p ≡ 2 * (p / 2) = omega arith in
          ap (value x) there ∙ value_even x (p / 2) ∙ sym (neg_ℤ-neg_ℤ _) ∙ ap neg_ℤ (sym (ap (value x) here ∙ value_odd x (p / 2)))
    ]

pub opp_below : (p n : ℕ) → p < 2 * n → opp p < 2 * n
opp_below p n h = omega arith
