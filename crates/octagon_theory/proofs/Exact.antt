-- The limits are exact: the least sums are closed, so rounding and joining makes them tight, with the points of the home and its cuts; and a tight matrix reaches every entry.
use Rattle.std.proofs.Common.{◌≡◌, ℕ, zero, suc, ◌+◌, ◌*◌, ◌<◌, ◌≤◌, Bool, true, false, cond, not, ◌&&◌, ◌||◌, eqb, ltb, ◌⊎◌, List, [], ◌∷◌, length, ℤ, pos, ◌+ℤ◌, ◌≤ℤ◌, Decides, sym, refl, ap, ◌∙◌, subst, inl, inr, arith}
use lib.Signed.{lt_z}
use Rattle.std.specs.List.{range_with_len, AllByRecursion}
use Rattle.std.specs.Int.{int_min}
use Rattle.std.proofs.lemmas.List.FromFn.{get_or-range_with_len, length-range_with_len}
use Rattle.std.proofs.ByRecursion.{All-get_or}
use Rattle.std.proofs.lemmas.Int.{clamps}
use Rattle.std.proofs.lemmas.Bool.{cases_eq, cases_Bool, eq-eqb, ne_eqb, lt-ltb, le-ltb, cond-true, cond-false, or_cases, or_parts, or_from, or_left, or_right, and_from, and_left, and_right, not_from_true, not_from_false, both_ways}
use borrow.Author.Differences.{ints}
use Rattle.interface.specs.declared.cut.Cut.{Cut}
use Rattle.interface.specs.declared.home.Home.{Home}
use Rattle.interface.specs.Nodes.{opp, value}
use Rattle.interface.specs.Numbers.{half}
use Rattle.octagon_theory.specs.Limits.{entry, chain_sum, least, even, any, void, limit}
use Rattle.octagon_theory.specs.Matrices.{TightlyClosed, Below, rounded}
use Rattle.octagon_theory.specs.Theorems.{Within, Greatest}
use Rattle.octagon_theory.proofs.Chains.{least_is, least_symmetric, least_triangle}
use Rattle.octagon_theory.proofs.Entries.{entry_symmetric, entry_opposite, entry_above, home_from_entry, meets_from_entry}
use Rattle.octagon_theory.proofs.Halves.{half_is, half_sum}
use Rattle.octagon_theory.proofs.Line.{flip, on_line, rounded_line, below_rounded, below_unrounded, some_point, reached}
use Rattle.interface.proofs.Values.{value_opp}
use Rattle.octagon_theory.proofs.Nodes.{opp_below}
use Rattle.octagon_theory.proofs.Tight.{Closed}

-- ---- a test over the nodes of a line
any_false : (f : ℕ → Bool) (xs : List ℕ) → any f xs ≡ false → AllByRecursion (λ x. f x ≡ false) xs
any_false f [] e = tt
any_false f (x ∷ xs) e = let p = or_parts (f x) (any f xs) e in (p.0, any_false f xs p.1)

any_true : (f : ℕ → Bool) (xs : List ℕ) (P : ℕ → Type 0) → AllByRecursion P xs → any f xs ≡ true → (x : ℕ) × P x × (f x ≡ true)
any_true f [] P a e = absurd (both_ways false refl e)
any_true f (x ∷ xs) P a e = by (or_cases (f x) (any f xs) e) (any_true f xs P a.1)
  where
    by : (f x ≡ true) ⊎ (any f xs ≡ true) → (any f xs ≡ true → (x : ℕ) × P x × (f x ≡ true)) → (x : ℕ) × P x × (f x ≡ true)
    by (inl h) r = (x, a.0, h)
    by (inr h) r = r h

all_nodes : (a m b : ℕ) → a + m ≤ b → AllByRecursion (λ p. p < b) (range_with_len a m)
all_nodes a zero b h = tt
all_nodes a (suc m) b h = (omega arith, all_nodes (a + 1) m b (omega arith))

pub at_each : (P : ℕ → Type 0) (m : ℕ) → AllByRecursion P (range_with_len 0 m) → (p : ℕ) → p < m → P p
at_each P m a p h =
    let l = length-range_with_len 0 m in
    subst P (get_or-range_with_len 0 m p 0 h ∙ (let z : 0 + p ≡ p = omega arith in z)) (All-get_or P (range_with_len 0 m) p 0 (omega arith) a)

-- a matrix that is equal on the line is tight too
pub tight_same : (n : ℕ) (L M : ℕ → ℕ → ℤ) → ((p q : ℕ) → p < 2 * n → q < 2 * n → L p q ≡ M p q) → TightlyClosed n M → TightlyClosed n L
tight_same n L M e K = record {
  symmetric = λ p q a b. e p q a b ∙ K.symmetric p q a b ∙ sym (e q p b a);
  opposite = λ p a. e p (opp p) a (opp_below n p a) ∙ K.opposite p a;
  triangle = λ p q r a b c. let t = K.triangle p q r a b c in let f = e p q a b in let g = e p r a c in let h = e (opp r) q (opp_below n r c) b in omega (arith, ints);
  even = λ p a. subst (λ z. z ≡ (half z +ℤ half z)) (sym (e p p a a)) (K.even p a);
  joined = λ p q a b. let t = K.joined p q a b in let f = e p q a b in let g = ap half (e p p a a) in let h = ap half (e q q b b) in omega (arith, ints);
}

-- two numbers that are both the greatest are equal
pub greatest_unique : (S : List ℤ → Type 0) (p q : ℕ) (y z : ℤ) → Greatest S p q y → Greatest S p q z → y ≡ z
greatest_unique S p q y z g h =
    let a = h.above g.reached.0 g.reached.1 in
    let b = g.above h.reached.0 h.reached.1 in
    let e = g.reached.2 in
    let f = h.reached.2 in
    omega (arith, ints)

-- a tight matrix with the points of S has their greatest sums
pub exact_from_tight : (n : ℕ) (L : ℕ → ℕ → ℤ) (S : List ℤ → Type 0) → TightlyClosed n L → ((x : List ℤ) → S x → (length x ≡ n) × Below L x) → ((x : List ℤ) → length x ≡ n → Below L x → S x) → (p q : ℕ) → p < 2 * n → q < 2 * n → Greatest S p q (L p q)
exact_from_tight n L S K to from p q a b = record {
  above = λ x s. let l = (to x s).0 in (to x s).1 p q (omega arith) (omega arith);
  reached = let r = reached n L K p q a b in (r.0, from r.0 r.1 r.2, r.3);
}

module _ (h : Home) (ts : List Cut) where
  -- a chain's sum is above each point that the matrix is above
  chain_above : (x : List ℤ) → ((p q : ℕ) → p < 2 * h.n → q < 2 * h.n → (value x p +ℤ value x q) ≤ℤ entry h ts p q) → (rs : List ℕ) (p q : ℕ) → p < 2 * h.n → q < 2 * h.n → AllByRecursion (λ r. r < 2 * h.n) rs → (value x p +ℤ value x q) ≤ℤ chain_sum (entry h ts) p rs q
  chain_above x a [] p q b c k = a p q b c
  chain_above x a (r ∷ rs) p q b c k =
      let s = a p r b k.0 in
      let t = chain_above x a rs (opp r) q (opp_below h.n r k.0) c k.1 in
      let v = value_opp x r in
      omega (arith, ints)

  some_node : (p : ℕ) → p < 2 * h.n → 0 < h.n
  some_node p b = omega arith

  pub least_above : (x : List ℤ) → Within h ts x → (p q : ℕ) → p < 2 * h.n → q < 2 * h.n → (value x p +ℤ value x q) ≤ℤ least h ts p q
  least_above x w p q b c =
      let r = (least_is h.n (entry h ts) p q (some_node p b)).reached in
      let t = chain_above x (entry_above h ts x w.0 w.1) r.0 p q b c r.1.1 in
      let e = r.2 in
      omega (arith, ints)

  -- ---- void
  contradicts : ℕ → Bool
  contradicts p = lt_z (least h ts p (opp p)) (pos 0) || lt_z (even h ts p +ℤ even h ts (opp p)) (pos 0)

  pub void_no_point : void h ts ≡ true → (x : List ℤ) → Within h ts x → ⊥
  unfolding void contradicts
  void_no_point e x w =
      let r = any_true contradicts (range_with_len 0 (2 * h.n)) (λ p. p < 2 * h.n) (all_nodes 0 (2 * h.n) (2 * h.n) (omega arith)) e in
      let p = r.0 in
      let b = r.1 in
      let b' = opp_below h.n p b in
      by p b b' (or_cases (lt_z (least h ts p (opp p)) (pos 0)) (lt_z (even h ts p +ℤ even h ts (opp p)) (pos 0)) r.2)
    where
      by : (p : ℕ) → p < 2 * h.n → opp p < 2 * h.n → (lt_z (least h ts p (opp p)) (pos 0) ≡ true) ⊎ (lt_z (even h ts p +ℤ even h ts (opp p)) (pos 0) ≡ true) → ⊥
      by p b b' (inl f) = let a = least_above x w p (opp p) b b' in let v = value_opp x p in omega (arith, ints)
      by p b b' (inr f) = let a = least_above x w p p b b in let c = least_above x w (opp p) (opp p) b' b' in let v = value_opp x p in omega (arith, ints, half_is)

  module _ (sound : void h ts ≡ false) where
    each : (p : ℕ) → p < 2 * h.n → contradicts p ≡ false
    unfolding void contradicts
    each p b = at_each (λ p. contradicts p ≡ false) (2 * h.n) (any_false contradicts (range_with_len 0 (2 * h.n)) sound) p b

    good : (p : ℕ) → p < 2 * h.n → pos 0 ≤ℤ least h ts p (opp p)
    unfolding contradicts
    good p b = let f = (or_parts (lt_z (least h ts p (opp p)) (pos 0)) (lt_z (even h ts p +ℤ even h ts (opp p)) (pos 0)) (each p b)).0 in omega (arith, ints)

    apart : (p : ℕ) → p < 2 * h.n → pos 0 ≤ℤ (half (least h ts p p) +ℤ half (least h ts (opp p) (opp p)))
    unfolding contradicts
    apart p b = let f = (or_parts (lt_z (least h ts p (opp p)) (pos 0)) (lt_z (even h ts p +ℤ even h ts (opp p)) (pos 0)) (each p b)).1 in omega (arith, ints)

    least_closed : Closed (flip h.n) (on_line h.n (least h ts))
    unfolding flip
    least_closed = record {
      symmetric = λ p q. least_symmetric h.n (entry h ts) (entry_symmetric h ts) (least h ts) (λ a b. least_is h.n (entry h ts) a b (some_node p.0 p.1)) p.0 q.0;
      opposite = λ p.
          let b = p.1 in
          let f = (least_is h.n (entry h ts) p.0 (opp p.0) (some_node p.0 p.1)).lowest [] (omega arith, tt) in
          let e = entry_opposite h ts p.0 in
          let g = good p.0 p.1 in
          omega (arith, ints);
      triangle = λ p q r. least_triangle h.n (entry h ts) (least h ts) (λ a b. least_is h.n (entry h ts) a b (some_node p.0 p.1)) good p.0 q.0 r.0 p.1 r.1;
    }

    pub rounded_least_tight : TightlyClosed h.n (rounded (least h ts))
    rounded_least_tight = rounded_line h.n (least h ts) least_closed apart

    -- ---- the limits on the line are the least sums, rounded and joined
    off : ℕ → ℕ → Bool
    off p q = void h ts || not (ltb p (2 * h.n) && ltb q (2 * h.n))

    not_off : (p q : ℕ) → p < 2 * h.n → q < 2 * h.n → off p q ≡ false
    unfolding off
    not_off p q a b = or_from (void h ts) (not (ltb p (2 * h.n) && ltb q (2 * h.n))) sound (not_from_true (ltb p (2 * h.n) && ltb q (2 * h.n)) (and_from (ltb p (2 * h.n)) (ltb q (2 * h.n)) (lt-ltb p (2 * h.n) a) (lt-ltb q (2 * h.n) b)))

    -- the entry past the tests
    inside : ℕ → ℕ → ℤ
    inside p q = cond (eqb q p) (even h ts p) (int_min (least h ts p q) (half (even h ts p +ℤ even h ts q)))

    inside_is : (p q : ℕ) → inside p q ≡ rounded (least h ts) p q
    unfolding inside
    inside_is p q = by (cases_eq q p)
      where
        by : (q ≡ p) ⊎ (q ≡ p → ⊥) → cond (eqb q p) (even h ts p) (int_min (least h ts p q) (half (even h ts p +ℤ even h ts q))) ≡ rounded (least h ts) p q
        by (inl e) = cond-true (eqb q p) _ _ (eq-eqb q p e) ∙ subst (λ r. even h ts p ≡ rounded (least h ts) p r) (sym e) (omega (arith, ints, clamps, half_is (least h ts p p)))
        by (inr d) = cond-false (eqb q p) _ _ (ne_eqb q p d) ∙ ap (int_min (least h ts p q)) (half_sum (half (least h ts p p)) (half (least h ts q q)))

    pub limit_is : (p q : ℕ) → p < 2 * h.n → q < 2 * h.n → limit h ts p q ≡ rounded (least h ts) p q
    unfolding limit off inside
    limit_is p q a b = by (cases_eq q (opp p))
      where
        by : (q ≡ opp p) ⊎ (q ≡ opp p → ⊥) → cond (off p q || eqb q (opp p)) (pos 0) (inside p q) ≡ rounded (least h ts) p q
        by (inl e) = cond-true (off p q || eqb q (opp p)) (pos 0) (inside p q) (or_right (off p q) (eqb q (opp p)) (eq-eqb q (opp p) e)) ∙ sym (ap (rounded (least h ts) p) e ∙ rounded_least_tight.opposite p a)
        by (inr d) = cond-false (off p q || eqb q (opp p)) (pos 0) (inside p q) (or_from (off p q) (eqb q (opp p)) (not_off p q a b) (ne_eqb q (opp p) d)) ∙ inside_is p q

    pub limits_tight : TightlyClosed h.n (limit h ts)
    limits_tight = tight_same h.n (limit h ts) (rounded (least h ts)) limit_is rounded_least_tight

    -- ---- the points below the limits are those of the home and its cuts
    pub within_below : (x : List ℤ) → Within h ts x → (length x ≡ h.n) × Below (limit h ts) x
    within_below x w =
        let l = w.0.0 in
        let r = below_rounded h.n x l (least h ts) (λ p q a b. least_above x w p q (omega arith) (omega arith)) in
        (l, λ p q a b. subst (λ z. (value x p +ℤ value x q) ≤ℤ z) (sym (limit_is p q (omega arith) (omega arith))) (r p q a b))

    pub below_within : (x : List ℤ) → length x ≡ h.n → Below (limit h ts) x → Within h ts x
    below_within x l k =
        let r = below_unrounded h.n x l (least h ts) (λ p q a b. subst (λ z. (value x p +ℤ value x q) ≤ℤ z) (limit_is p q (omega arith) (omega arith)) (k p q a b)) in
        (home_from_entry h ts x l (entries r), meets_from_entry h ts x l (entries r))
      where
        entries : Below (least h ts) x → (p q : ℕ) → p < 2 * h.n → q < 2 * h.n → (value x p +ℤ value x q) ≤ℤ entry h ts p q
        entries r p q a b =
            let s = r p q (omega arith) (omega arith) in
            let t = (least_is h.n (entry h ts) p q (some_node p a)).lowest [] (omega arith, tt) in
            omega (arith, ints)

    pub limits_exact : (p q : ℕ) → p < 2 * h.n → q < 2 * h.n → Greatest (Within h ts) p q (limit h ts p q)
    limits_exact p q a b = exact_from_tight h.n (limit h ts) (Within h ts) limits_tight within_below below_within p q a b

    pub point_within : (x : List ℤ) × Within h ts x
    point_within = let r = some_point h.n (limit h ts) limits_tight in (r.0, below_within r.0 r.1 r.2)

  pub void_decides : Decides (void h ts) ((x : List ℤ) → Within h ts x → ⊥)
  void_decides = (void_no_point, λ none. by none (cases_Bool (void h ts)))
    where
      by : ((x : List ℤ) → Within h ts x → ⊥) → (void h ts ≡ true) ⊎ (void h ts ≡ false) → void h ts ≡ true
      by none (inl e) = e
      by none (inr e) = let r = point_within e in absurd (none r.0 r.1)

  -- ---- limits that are 0
  pub limit_void : void h ts ≡ true → (p q : ℕ) → limit h ts p q ≡ pos 0
  unfolding limit
  limit_void e p q = cond-true _ _ _ (or_left _ (eqb q (opp p)) (or_left (void h ts) _ e))

  pub limit_opposite : (p q : ℕ) → q ≡ opp p → limit h ts p q ≡ pos 0
  unfolding limit
  limit_opposite p q e = cond-true _ _ _ (or_right (void h ts || not (ltb p (2 * h.n) && ltb q (2 * h.n))) (eqb q (opp p)) (eq-eqb q (opp p) e))

  pub limit_off : (p q : ℕ) → (2 * h.n ≤ p) ⊎ (2 * h.n ≤ q) → limit h ts p q ≡ pos 0
  unfolding limit
  limit_off p q f = cond-true _ _ _ (or_left _ (eqb q (opp p)) (or_right (void h ts) _ (not_from_false (ltb p (2 * h.n) && ltb q (2 * h.n)) (by f))))
    where
      by : (2 * h.n ≤ p) ⊎ (2 * h.n ≤ q) → (ltb p (2 * h.n) && ltb q (2 * h.n)) ≡ false
      by (inl a) = and_left (ltb p (2 * h.n)) (ltb q (2 * h.n)) (le-ltb p (2 * h.n) a)
      by (inr a) = and_right (ltb p (2 * h.n)) (ltb q (2 * h.n)) (le-ltb q (2 * h.n) a)
