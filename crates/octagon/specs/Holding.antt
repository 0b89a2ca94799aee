-- An octagon holds exactly the points of its home and cuts: they are those that keep every limit.
use Rattle.std.specs.Prelude.{◌≡◌, ℕ, zero, suc, ◌+◌, ◌-◌, ◌*◌, ◌<◌, ◌≤◌, min, Bool, true, false, cond, not, ◌&&◌, ◌⊎◌, List, [], ◌∷◌, ◌++◌, map, length, take, replicate, ℤ, pos, ◌+ℤ◌, ◌-ℤ◌, neg_ℤ, ◌≤ℤ◌, is_some, Some, None, Decides, fold, ◌==◌, int_le}
use Rattle.std.proofs.Common.{inl, inr, sym, ap₂, subst, ◌∙◌, arith}
use Rattle.std.proofs.Math.Path.{refl, ap}
use Rattle.std.proofs.lemmas.Int.{ints}
use Rattle.std.specs.List.{range_with_len}
use Rattle.std.specs.Int.{int_max}
use Rattle.std.proofs.lemmas.List.{take_at, length_push}
use Rattle.std.proofs.lemmas.Bool.{cases_Bool, and_parts, and_from, not-true, not_from_false, eqb-true, eq-eqb, cond-true}
use Rattle.halving.proofs.First.{every_decides}
use Rattle.interface.specs.declared.cut.Cut.{Cut}
use Rattle.interface.specs.declared.home.Home.{Home}
use Rattle.interface.specs.declared.point.Point.{Point}
use Rattle.interface.specs.Nodes.{value}
use Rattle.interface.specs.Numbers.{half}
use Rattle.interface.specs.Points.{values_of}
use Rattle.octagon_theory.specs.Limits.{void, limit}
use Rattle.octagon_theory.specs.Matrices.{TightlyClosed, Below, next_value, least_values}
use Rattle.octagon_theory.specs.Theorems.{Within}
use Rattle.octagon_theory.proofs.Exact.{void_no_point, limits_tight, within_below, below_within}
use Rattle.octagon_theory.proofs.LeastPoint.{extended, length_least_values, value_setting, value_negative}
use Rattle.octagon_theory.proofs.Passing.{settings_bounds}
use Rattle.octagon.specs.declared.matrix.Octagon.{Octagon}
use Rattle.octagon.specs.Entries.{at}
use Rattle.octagon.specs.Octagons.{row_under, all_under, holds_at, narrow, least_from, offered, offer_of}
use Rattle.octagon.specs.Offering.{map_same}
use Rattle.octagon.specs.Taking.{OctagonOf, small}
use Rattle.octagon.specs.Wrapping.{Small}

-- the test of all pairs of nodes below w
abbrev Under : List ℤ → List ℤ → ℕ → Type 0
Under l x w = (p : ℕ) → p < w → (q : ℕ) → q < w → (value x p +ℤ value x q) ≤ℤ at l p q

leZ_decides : (a b : ℤ) → Decides (int_le a b) (a ≤ℤ b)
leZ_decides a b = ((λ e. omega (arith, ints)), λ h. let e : true ≡ int_le a b = omega (arith, ints) in sym e)

under_decides : (l x : List ℤ) (w : ℕ) → Decides (all_under l x w) (Under l x w)
unfolding all_under
under_decides l x w = (
  (λ e p a q b. (leZ_decides (value x p +ℤ value x q) (at l p q)).0 ((every_decides (λ q. int_le (value x p +ℤ value x q) (at l p q)) w).0 ((every_decides (row_under l x w) w).0 e p a) q b)),
  λ u. (every_decides (row_under l x w) w).1 (λ p a. (every_decides (λ q. int_le (value x p +ℤ value x q) (at l p q)) w).1 (λ q b. (leZ_decides (value x p +ℤ value x q) (at l p q)).1 (u p a q b))),
)

-- narrowing keeps what has 32 bits
narrow_small : (z : ℤ) → Small 1000000000 z → narrow z ≡ z
narrow_small z h = cond-true _ z (pos 0) (and_from _ _ ((leZ_decides (neg_ℤ (pos 2147483648)) z).1 (let a = h.0 in omega (arith, ints))) ((leZ_decides z (pos 2147483647)).1 (let a = h.1 in omega (arith, ints))))

-- a matrix that agrees on the line's rows gives the same next value
module _ (n : ℕ) (eight : n ≤ 8) (M L : ℕ → ℕ → ℤ) (same : (p q : ℕ) → p < 16 → q < 16 → M p q ≡ L p q) where
  pub next_same : (x : List ℤ) → length x < n → next_value M x ≡ next_value L x
  unfolding next_value
  next_same x r =
      let e = same (2 * length x + 1) (2 * length x + 1) (omega arith) (omega arith) in
      let f : ℕ → ℤ = λ p. value x p -ℤ M p (2 * length x + 1) in
      let g : ℕ → ℤ = λ p. value x p -ℤ L p (2 * length x + 1) in
      let m : map f (range_with_len 0 (2 * length x)) ≡ map g (range_with_len 0 (2 * length x)) = map_same f g 0 (2 * length x) (λ p b. ap (λ z. value x p -ℤ z) (same p (2 * length x + 1) (omega arith) (omega arith))) in
      λ i. fold int_max (neg_ℤ (half (e i))) (m i)

module _ (h : Home) (ts : List Cut) (s : Octagon) (O : OctagonOf h ts s) where
  eight : h.n ≤ 8
  eight = let b = (settings_bounds h O.passes).1 in omega arith

  pub holds_decides : (x : List ℤ) → Decides (holds_at s x) (Within h ts x)
  holds_decides x = (to, from)
    where
      same : s.n ≡ h.n
      same = O.same_n

      to : holds_at s x ≡ true → Within h ts x
      to e =
          let a = and_parts (not s.void) (length x == s.n && all_under s.limits x (2 * s.n)) e in
          let b = and_parts (length x == s.n) (all_under s.limits x (2 * s.n)) a.1 in
          let l = eqb-true (length x) s.n b.0 in
          let u : Under s.limits x (2 * s.n) = (under_decides s.limits x (2 * s.n)).0 b.1 in
          below_within h ts (sym O.same_void ∙ not-true s.void a.0) x (l ∙ same) (below l u)
        where
          below : length x ≡ s.n → Under s.limits x (2 * s.n) → Below (limit h ts) x
          below l u p q a b = let e = eight in subst (λ z. (value x p +ℤ value x q) ≤ℤ z) (O.entries p q (omega arith) (omega arith)) (u p (omega arith) q (omega arith))

      from : Within h ts x → holds_at s x ≡ true
      from w = by (cases_Bool (void h ts))
        where
          by : (void h ts ≡ true) ⊎ (void h ts ≡ false) → holds_at s x ≡ true
          by (inl v) = absurd (void_no_point h ts v x w)
          by (inr v) =
              let r = within_below h ts v x w in
              let l = r.0 in
              let e = eight in
              let u : Under s.limits x (2 * s.n) = λ p a q b. subst (λ z. (value x p +ℤ value x q) ≤ℤ z) (sym (O.entries p q (omega arith) (omega arith))) (r.1 p q (omega arith) (omega arith)) in
              and_from (not s.void) (length x == s.n && all_under s.limits x (2 * s.n)) (not_from_false s.void (O.same_void ∙ v)) (and_from (length x == s.n) (all_under s.limits x (2 * s.n)) (eq-eqb (length x) s.n (l ∙ sym same)) ((under_decides s.limits x (2 * s.n)).1 u))

  pub holds_not : (x : List ℤ) → (Within h ts x → ⊥) → holds_at s x ≡ false
  holds_not x k = by (cases_Bool (holds_at s x))
    where
      by : (holds_at s x ≡ true) ⊎ (holds_at s x ≡ false) → holds_at s x ≡ false
      by (inl e) = absurd (k ((holds_decides x).0 e))
      by (inr e) = e

  -- ---- the offered point is the least
  module _ (v : void h ts ≡ false) where
    tight : TightlyClosed h.n (limit h ts)
    tight = limits_tight h ts v

    -- each next value is small, so that narrowing keeps it
    next_small : (x : List ℤ) → length x < h.n → Below (limit h ts) x → Small 1000000000 (next_value (limit h ts) x)
    next_small x r b =
        let y = next_value (limit h ts) x in
        let e = extended h.n (limit h ts) tight x r b in
        let l = length_push x y in
        let up = e (2 * length x) (2 * length x) (omega arith) (omega arith) in
        let down = e (2 * length x + 1) (2 * length x + 1) (omega arith) (omega arith) in
        let u = value_setting x y [] in
        let d = value_negative x y [] in
        let s₁ = small h ts s O (2 * length x) (2 * length x) in
        let s₂ = small h ts s O (2 * length x + 1) (2 * length x + 1) in
        (omega (arith, ints), omega (arith, ints))

    value_is : (x : List ℤ) → length x < h.n → Below (limit h ts) x → narrow (next_value (at s.limits) x) ≡ next_value (limit h ts) x
    value_is x r b = ap narrow (next_same h.n eight (at s.limits) (limit h ts) O.entries x r) ∙ narrow_small (next_value (limit h ts) x) (next_small x r b)

    pub least_is : (m : ℕ) (x : List ℤ) → length x + m ≡ h.n → Below (limit h ts) x → least_from (at s.limits) x m ≡ least_values (limit h ts) x m
    unfolding least_from least_values
    least_is zero x e b = refl
    least_is (suc m) x e b =
        let y = next_value (limit h ts) x in
        let v = value_is x (omega arith) b in
        let l = length_push x y in
        let i = least_is m (x ++ (y ∷ [])) (omega arith) (extended h.n (limit h ts) tight x (omega arith) b) in
        (λ t. v t ∷ least_from (at s.limits) (x ++ (v t ∷ [])) m) ∙ ap (λ r. y ∷ r) i

    pub offered_is : take s.n (offered s.limits (min 8 s.n)) ≡ least_values (limit h ts) [] h.n
    offered_is =
        let n = O.same_n in
        let e = eight in
        let m : min 8 s.n ≡ h.n = omega arith in
        let size = length_least_values (limit h ts) [] h.n in
        ap₂ (λ k j. take k (least_from (at s.limits) [] j ++ replicate (8 - j) (pos 0))) n m ∙ ap (λ xs. take h.n (xs ++ replicate (8 - h.n) (pos 0))) (least_is h.n [] (omega arith) (λ p q a b. absurd (omega arith))) ∙ take_at (least_values (limit h ts) [] h.n) (replicate (8 - h.n) (pos 0)) h.n size

  -- an offered point is the least of those within home and cuts
  pub offer_says : (x : Point) → offer_of s ≡ Some x → (void h ts ≡ false) × (values_of x ≡ least_values (limit h ts) [] h.n)
  offer_says x e = by s.void refl e
    where
      by : (b : Bool) → s.void ≡ b → cond b None (Some (record { n = s.n; values = offered s.limits (min 8 s.n) })) ≡ Some x → (void h ts ≡ false) × (values_of x ≡ least_values (limit h ts) [] h.n)
      by true f g = cc
      by false f g =
          let v : void h ts ≡ false = sym O.same_void ∙ f in
          let same : record { n = s.n; values = offered s.limits (min 8 s.n) } ≡ x = cc in
          (v, sym (ap values_of same) ∙ offered_is v)

  pub offers : void h ts ≡ false → is_some (offer_of s) ≡ true
  offers v = subst (λ b. is_some {T = Point} (cond b None (Some (record { n = s.n; values = offered s.limits (min 8 s.n) }))) ≡ true) (sym (O.same_void ∙ v)) refl
