-- The matrix that a home and its cuts give: symmetric, 0 at opposite nodes, and its points are those within the home that meet every cut.
use Rattle.std.proofs.Common.{◌≡◌, ℕ, ◌+◌, ◌*◌, ◌/◌, ◌%◌, ◌<◌, Bool, true, false, cond, not, ◌&&◌, ◌||◌, eqb, ltb, ◌≢◌, ◌⊎◌, List, [], ◌∷◌, length, get_or, ℤ, pos, ◌+ℤ◌, neg_ℤ, ◌≤ℤ◌, sym, refl, ap, ◌∙◌, subst, ap₂, inl, inr, arith}
use Rattle.std.specs.Int.{int_min}
use Rattle.std.proofs.lemmas.Int.{clamps}
use Rattle.std.proofs.lemmas.Bool.{cases_eq, cases_Bool, eqb-true, eq-eqb, ne_eqb, cond-true, cond-false, cond_both, or_cases, and_parts, and_from, or_left, not-true, both_ways}
use borrow.Author.Differences.{ints}
use Rattle.interface.specs.declared.cut.Cut.{Cut}
use Rattle.interface.specs.declared.home.Home.{Home}
use Rattle.interface.specs.Cuts.{Meets, MeetsAll}
use Rattle.interface.specs.Homes.{low_of, high_of, InHome}
use Rattle.interface.specs.Nodes.{opp, value}
use Rattle.interface.specs.Numbers.{half, within}
use Rattle.octagon_theory.specs.Limits.{top_of, home_entry, is_between, entry}
use Rattle.octagon_theory.proofs.Halves.{half_sum}
use Rattle.interface.proofs.Values.{value_opp}
use Rattle.octagon_theory.proofs.Nodes.{opp_opp, Side, side, even, odd}

-- no cut is between opposite nodes
pub not_opposite : (t : Cut) → t.q ≢ opp t.p
not_opposite t e =
    let b = (and_parts (ltb t.p 16) (ltb t.q 16 && (not (eqb t.q (opp t.p)) && within 2000000 t.c)) t.ok).1 in
    let d = (and_parts (ltb t.q 16) (not (eqb t.q (opp t.p)) && within 2000000 t.c) b).1 in
    let f = (and_parts (not (eqb t.q (opp t.p))) (within 2000000 t.c) d).0 in
    both_ways (eqb t.q (opp t.p)) (not-true (eqb t.q (opp t.p)) f) (eq-eqb t.q (opp t.p) e)

-- what a setting's two nodes say of a point and of a home
module _ (k : ℕ) where
  even_node : eqb ((2 * k) % 2) 0 ≡ true
  even_node = eq-eqb ((2 * k) % 2) 0 (omega arith)

  odd_node : eqb ((2 * k + 1) % 2) 0 ≡ false
  odd_node = ne_eqb ((2 * k + 1) % 2) 0 (λ e. omega arith)

  pub value_even : (x : List ℤ) → value x (2 * k) ≡ get_or x k (pos 0)
  unfolding value
  value_even x = cond-true _ _ _ even_node ∙ ap (λ i. get_or x i (pos 0)) (omega arith)

  pub value_odd : (x : List ℤ) → value x (2 * k + 1) ≡ neg_ℤ (get_or x k (pos 0))
  unfolding value
  value_odd x = cond-false _ _ _ odd_node ∙ ap (λ i. neg_ℤ (get_or x i (pos 0))) (omega arith)

  pub top_even : (h : Home) → top_of h (2 * k) ≡ high_of h k
  unfolding top_of
  top_even h = cond-true _ _ _ even_node ∙ ap (high_of h) (omega arith)

  pub top_odd : (h : Home) → top_of h (2 * k + 1) ≡ neg_ℤ (low_of h k)
  unfolding top_of
  top_odd h = cond-false _ _ _ odd_node ∙ ap (λ i. neg_ℤ (low_of h i)) (omega arith)

-- a node is one of a setting's two
pub by_node : (P : ℕ → Type 0) (n : ℕ) → ((k : ℕ) → k < n → P (2 * k)) → ((k : ℕ) → k < n → P (2 * k + 1)) → (p : ℕ) → p < 2 * n → P p
by_node P n f g p h = go (side p)
  where
    go : Side p → P p
    go (even e d) = subst P (let z : 2 * (p / 2) ≡ p = omega arith in z) (f (p / 2) (omega arith))
    go (odd e d) = subst P (let z : 2 * (p / 2) + 1 ≡ p = omega arith in z) (g (p / 2) (omega arith))

module _ (h : Home) where
  -- ---- the home alone
  pub home_opposite : (p q : ℕ) → q ≡ opp p → home_entry h p q ≡ pos 0
  unfolding home_entry
  home_opposite p q e = cond-true (eqb q (opp p)) _ _ (eq-eqb q (opp p) e)

  pub home_other : (p q : ℕ) → q ≢ opp p → home_entry h p q ≡ (top_of h p +ℤ top_of h q)
  unfolding home_entry
  home_other p q d = cond-false (eqb q (opp p)) _ _ (ne_eqb q (opp p) d) ∙ by (cases_eq q p)
    where
      by : (q ≡ p) ⊎ (q ≡ p → ⊥) → cond (eqb q p) (top_of h p +ℤ top_of h p) (half ((top_of h p +ℤ top_of h p) +ℤ (top_of h q +ℤ top_of h q))) ≡ (top_of h p +ℤ top_of h q)
      by (inl e) = cond-true (eqb q p) _ _ (eq-eqb q p e) ∙ ap (λ r. top_of h p +ℤ top_of h r) (sym e)
      by (inr e) = cond-false (eqb q p) _ _ (ne_eqb q p e) ∙ half_sum (top_of h p) (top_of h q)

  pub home_symmetric : (p q : ℕ) → home_entry h p q ≡ home_entry h q p
  home_symmetric p q = by (cases_eq q (opp p))
    where
      by : (q ≡ opp p) ⊎ (q ≡ opp p → ⊥) → home_entry h p q ≡ home_entry h q p
      by (inl e) = home_opposite p q e ∙ sym (home_opposite q p (sym (opp_opp p) ∙ ap opp (sym e)))
      by (inr d) = home_other p q d ∙ (let z : (top_of h p +ℤ top_of h q) ≡ (top_of h q +ℤ top_of h p) = omega (arith, ints) in z) ∙ sym (home_other q p (λ e. d (sym (opp_opp q) ∙ ap opp (sym e))))

  -- ---- the cuts
  between_swap : (t : Cut) (p q : ℕ) → is_between t p q ≡ is_between t q p
  between_swap t p q = or_swap (eqb t.p p && eqb t.q q) (eqb t.p q && eqb t.q p)
    where
      or_swap : (a b : Bool) → (a || b) ≡ (b || a)
      or_swap true true = refl
      or_swap true false = refl
      or_swap false true = refl
      or_swap false false = refl

  pub entry_symmetric : (ts : List Cut) (p q : ℕ) → entry h ts p q ≡ entry h ts q p
  unfolding entry
  entry_symmetric [] p q = home_symmetric p q
  entry_symmetric (t ∷ ts) p q = ap₂ (λ b z. cond b (int_min z t.c) z) (between_swap t p q) (entry_symmetric ts p q)

  -- the nodes of a cut between p and q
  between_nodes : (t : Cut) (p q : ℕ) → is_between t p q ≡ true → ((t.p ≡ p) × (t.q ≡ q)) ⊎ ((t.p ≡ q) × (t.q ≡ p))
  between_nodes t p q e = by (or_cases _ _ e)
    where
      by : ((eqb t.p p && eqb t.q q) ≡ true) ⊎ ((eqb t.p q && eqb t.q p) ≡ true) → ((t.p ≡ p) × (t.q ≡ q)) ⊎ ((t.p ≡ q) × (t.q ≡ p))
      by (inl f) = inl (eqb-true _ _ (and_parts _ _ f).0, eqb-true _ _ (and_parts _ _ f).1)
      by (inr f) = inr (eqb-true _ _ (and_parts _ _ f).0, eqb-true _ _ (and_parts _ _ f).1)

  between_itself : (t : Cut) → is_between t t.p t.q ≡ true
  between_itself t = or_left _ _ (and_from _ _ (eq-eqb t.p t.p refl) (eq-eqb t.q t.q refl))

  pub entry_opposite : (ts : List Cut) (p : ℕ) → entry h ts p (opp p) ≡ pos 0
  unfolding entry
  entry_opposite [] p = home_opposite p (opp p) refl
  entry_opposite (t ∷ ts) p = by (cases_Bool (is_between t p (opp p))) (entry_opposite ts p)
    where
      clash : ((t.p ≡ p) × (t.q ≡ opp p)) ⊎ ((t.p ≡ opp p) × (t.q ≡ p)) → ⊥
      clash (inl (a, b)) = not_opposite t (b ∙ ap opp (sym a))
      clash (inr (a, b)) = not_opposite t (b ∙ sym (opp_opp p) ∙ ap opp (sym a))

      by : (is_between t p (opp p) ≡ true) ⊎ (is_between t p (opp p) ≡ false) → entry h ts p (opp p) ≡ pos 0 → cond (is_between t p (opp p)) (int_min (entry h ts p (opp p)) t.c) (entry h ts p (opp p)) ≡ pos 0
      by (inl e) f = absurd (clash (between_nodes t p (opp p) e))
      by (inr e) f = cond-false _ _ _ e ∙ f

  -- ---- the points
  pub home_above : (x : List ℤ) → InHome h x → (p : ℕ) → p < 2 * h.n → value x p ≤ℤ top_of h p
  home_above x i p b = by_node (λ p. value x p ≤ℤ top_of h p) h.n
      (λ k l. let r = (i.1 k l).1 in let e = value_even k x in let f = top_even k h in omega (arith, ints))
      (λ k l. let r = (i.1 k l).0 in let e = value_odd k x in let f = top_odd k h in omega (arith, ints)) p b

  pub home_from_above : (x : List ℤ) → length x ≡ h.n → ((p : ℕ) → p < 2 * h.n → value x p ≤ℤ top_of h p) → InHome h x
  home_from_above x l a = (
    l,
    λ k b. (
      let r = a (2 * k + 1) (omega arith) in let e = value_odd k x in let f = top_odd k h in omega (arith, ints),
      let r = a (2 * k) (omega arith) in let e = value_even k x in let f = top_even k h in omega (arith, ints),
    ),
  )

  pub home_entry_above : (x : List ℤ) → InHome h x → (p q : ℕ) → p < 2 * h.n → q < 2 * h.n → (value x p +ℤ value x q) ≤ℤ home_entry h p q
  home_entry_above x i p q b c = by (cases_eq q (opp p))
    where
      by : (q ≡ opp p) ⊎ (q ≡ opp p → ⊥) → (value x p +ℤ value x q) ≤ℤ home_entry h p q
      by (inl e) = let f = home_opposite p q e in let g = ap (value x) e in let v = value_opp x p in omega (arith, ints)
      by (inr d) = let f = home_other p q d in let u = home_above x i p b in let v = home_above x i q c in omega (arith, ints)

  -- a cut keeps the entry above a point exactly if the point meets it
  module _ (x : List ℤ) (l : length x ≡ h.n) (t : Cut) where
    pub lowered_above : (ts : List Cut) (p q : ℕ) → p < 2 * h.n → q < 2 * h.n → Meets x t → (value x p +ℤ value x q) ≤ℤ entry h ts p q → (value x p +ℤ value x q) ≤ℤ entry h (t ∷ ts) p q
    unfolding entry
    lowered_above ts p q b c m a = cond_both (is_between t p q) (int_min (entry h ts p q) t.c) (entry h ts p q) (λ z. (value x p +ℤ value x q) ≤ℤ z) (λ e. by (between_nodes t p q e)) (λ e. a)
      where
        by : ((t.p ≡ p) × (t.q ≡ q)) ⊎ ((t.p ≡ q) × (t.q ≡ p)) → (value x p +ℤ value x q) ≤ℤ int_min (entry h ts p q) t.c
        by (inl (e, f)) = let k = m (omega arith) (omega arith) in let u = ap (value x) e in let v = ap (value x) f in omega (arith, ints, clamps)
        by (inr (e, f)) = let k = m (omega arith) (omega arith) in let u = ap (value x) e in let v = ap (value x) f in omega (arith, ints, clamps)

  entry_lower : (t : Cut) (ts : List Cut) (p q : ℕ) → entry h (t ∷ ts) p q ≤ℤ entry h ts p q
  unfolding entry
  entry_lower t ts p q = cond_both (is_between t p q) (int_min (entry h ts p q) t.c) (entry h ts p q) (λ z. z ≤ℤ entry h ts p q) (λ e. omega (arith, ints, clamps)) (λ e. omega (arith, ints))

  entry_cut : (t : Cut) (ts : List Cut) → entry h (t ∷ ts) t.p t.q ≤ℤ t.c
  unfolding entry
  entry_cut t ts = let e = cond-true (is_between t t.p t.q) (int_min (entry h ts t.p t.q) t.c) (entry h ts t.p t.q) (between_itself t) in omega (arith, ints, clamps)

  -- the points within the home that meet every cut are those below the matrix
  pub entry_above : (ts : List Cut) (x : List ℤ) → InHome h x → MeetsAll x ts → (p q : ℕ) → p < 2 * h.n → q < 2 * h.n → (value x p +ℤ value x q) ≤ℤ entry h ts p q
  unfolding entry
  entry_above [] x i m p q b c = home_entry_above x i p q b c
  entry_above (t ∷ ts) x i m p q b c = lowered_above x i.0 t ts p q b c m.0 (entry_above ts x i m.1 p q b c)

  pub home_from_entry : (ts : List Cut) (x : List ℤ) → length x ≡ h.n → ((p q : ℕ) → p < 2 * h.n → q < 2 * h.n → (value x p +ℤ value x q) ≤ℤ entry h ts p q) → InHome h x
  unfolding entry
  home_from_entry [] x l a = home_from_above x l (λ p b. let u = a p p b b in let e = home_other p p (λ e. omega arith) in omega (arith, ints))
  home_from_entry (t ∷ ts) x l a = home_from_entry ts x l (λ p q b c. let u = a p q b c in let v = entry_lower t ts p q in omega (arith, ints))

  pub meets_from_entry : (ts : List Cut) (x : List ℤ) → length x ≡ h.n → ((p q : ℕ) → p < 2 * h.n → q < 2 * h.n → (value x p +ℤ value x q) ≤ℤ entry h ts p q) → MeetsAll x ts
  meets_from_entry [] x l a = tt
  meets_from_entry (t ∷ ts) x l a = (
    λ b c. let u = a t.p t.q (omega arith) (omega arith) in let v = entry_cut t ts in omega (arith, ints),
    meets_from_entry ts x l (λ p q b c. let u = a p q b c in let v = entry_lower t ts p q in omega (arith, ints)),
  )
