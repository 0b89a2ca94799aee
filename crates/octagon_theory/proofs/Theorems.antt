-- The theorems, each from the limits' exactness: what is greatest is unique, so any tight matrix with the same points has the same entries.
use Rattle.std.proofs.Common.{◌≡◌, ℕ, ◌*◌, ◌<◌, ◌≤◌, true, false, ◌⊎◌, List, [], ◌∷◌, ◌++◌, length, ℤ, pos, ◌+ℤ◌, neg_ℤ, ◌≤ℤ◌, ◌<ℤ◌, sym, refl, ◌∙◌, subst, inl, inr, arith}
use Rattle.std.proofs.lemmas.List.{ext_get_or}
use Rattle.std.proofs.lemmas.Bool.{cases_Bool, cases_lt, both_ways}
use borrow.Author.Differences.{ints}
use Rattle.interface.specs.declared.cut.Cut.{Cut}
use Rattle.interface.specs.declared.home.Home.{Home}
use Rattle.interface.specs.Cuts.{Meets, MeetsAll}
use Rattle.interface.specs.Homes.{InHome, Passes}
use Rattle.interface.specs.Nodes.{opp, value}
use Rattle.interface.specs.Numbers.{half, within}
use Rattle.octagon_theory.specs.Limits.{home_entry, entry, void, limit}
use Rattle.octagon_theory.specs.Matrices.{TightlyClosed, Below, shortest, rounded, least_values}
use Rattle.octagon_theory.specs.Theorems.{Within, LeastSumsAreLeast, EveryLimitIsReached, VoidIsNoPoint, LimitsHoldThePoints, OnePointIsLeft, LimitsCanBeShown, LimitsAreTight, Same, PointsDecideLimits, HomeAlone, OneMore, OneCutAtATime, LeastValuesAreLeast}
use Rattle.octagon_theory.proofs.Chains.{least_is}
use Rattle.octagon_theory.proofs.Entries.{value_even, home_above, home_entry_above, home_from_entry, home_other}
use Rattle.octagon_theory.proofs.HomeMatrix.{home_tight}
use Rattle.octagon_theory.proofs.Exact.{greatest_unique, exact_from_tight, limits_tight, within_below, below_within, limits_exact, void_no_point, void_decides, limit_void, limit_off}
use Rattle.octagon_theory.proofs.Halves.{half_is}
use Rattle.octagon_theory.proofs.LeastPoint.{least_below, least_no_later, length_least_values}
use Rattle.octagon_theory.proofs.Line.{cut_line, cut_keeps, cut_adds_none, cut_met, some_point}
use Rattle.interface.proofs.Values.{value_opp}
use Rattle.octagon_theory.proofs.Nodes.{opp_below}
use Rattle.octagon_theory.proofs.Passing.{both_within, top_bounded}

pub least_sums_are_least : LeastSumsAreLeast
least_sums_are_least h ts b p q = least_is h.n (entry h ts) p q b

pub every_limit_is_reached : EveryLimitIsReached
every_limit_is_reached h ts sound = limits_exact h ts sound

pub void_is_no_point : VoidIsNoPoint
void_is_no_point h ts = void_decides h ts

pub limits_are_tight : LimitsAreTight
limits_are_tight h ts sound = limits_tight h ts sound

pub limits_hold_the_points : LimitsHoldThePoints
limits_hold_the_points h ts v x = (within_below h ts v x, λ k. below_within h ts v x k.0 k.1)

-- ---- at any two nodes: the limit is 0, or both are on the line of an octagon that is not void
pub by_limit : (P : ℕ → ℕ → ℤ → Type 0) (h : Home) (ts : List Cut) → ((p q : ℕ) → P p q (pos 0)) → (void h ts ≡ false → (p q : ℕ) → p < 2 * h.n → q < 2 * h.n → P p q (limit h ts p q)) → (p q : ℕ) → P p q (limit h ts p q)
by_limit P h ts zeros ons p q = by (cases_Bool (void h ts)) (cases_lt p (2 * h.n)) (cases_lt q (2 * h.n))
  where
    by : (void h ts ≡ true) ⊎ (void h ts ≡ false) → (p < 2 * h.n) ⊎ (2 * h.n ≤ p) → (q < 2 * h.n) ⊎ (2 * h.n ≤ q) → P p q (limit h ts p q)
    by (inl v) a b = subst (P p q) (sym (limit_void h ts v p q)) (zeros p q)
    by (inr v) (inl a) (inl b) = ons v p q a b
    by (inr v) (inl a) (inr b) = subst (P p q) (sym (limit_off h ts p q (inr b))) (zeros p q)
    by (inr v) (inr a) b = subst (P p q) (sym (limit_off h ts p q (inl a))) (zeros p q)

value_within : (h : Home) → Passes h → (x : List ℤ) → InHome h x → (p : ℕ) → p < 2 * h.n → (neg_ℤ (pos 1000000) ≤ℤ value x p) × (value x p ≤ℤ pos 1000000)
value_within h passes x i p b =
    let u = home_above h x i p b in
    let t = top_bounded h passes p b in
    let u' = home_above h x i (opp p) (opp_below h.n p b) in
    let t' = top_bounded h passes (opp p) (opp_below h.n p b) in
    let v = value_opp x p in
    (omega (arith, ints), omega (arith, ints))

limit_symmetric : (h : Home) (ts : List Cut) (p q : ℕ) → limit h ts p q ≡ limit h ts q p
limit_symmetric h ts p q = by (cases_Bool (void h ts)) (cases_lt p (2 * h.n)) (cases_lt q (2 * h.n))
  where
    by : (void h ts ≡ true) ⊎ (void h ts ≡ false) → (p < 2 * h.n) ⊎ (2 * h.n ≤ p) → (q < 2 * h.n) ⊎ (2 * h.n ≤ q) → limit h ts p q ≡ limit h ts q p
    by (inl v) a b = limit_void h ts v p q ∙ sym (limit_void h ts v q p)
    by (inr v) (inl a) (inl b) = (limits_tight h ts v).symmetric p q a b
    by (inr v) (inl a) (inr b) = limit_off h ts p q (inr b) ∙ sym (limit_off h ts q p (inl b))
    by (inr v) (inr a) b = limit_off h ts p q (inl a) ∙ sym (limit_off h ts q p (inr a))

pub limits_can_be_shown : LimitsCanBeShown
limits_can_be_shown h passes ts = record {
  bounded = by_limit (λ p q z. within 2000000 z ≡ true) h ts (λ p q. refl) (λ v p q a b.
      let g = (limits_exact h ts v p q a b).reached in
      let r = value_within h passes g.0 g.1.0 p a in
      let s = value_within h passes g.0 g.1.0 q b in
      let e = g.2 in
      both_within 2000000 (limit h ts p q) (omega (arith, ints)) (omega (arith, ints)));
  symmetric = limit_symmetric h ts;
  even = λ p. by_limit (λ p q z. p ≡ q → z ≡ (half z +ℤ half z)) h ts (λ p q e. refl) (λ v p q a b e. subst (λ r. limit h ts p r ≡ (half (limit h ts p r) +ℤ half (limit h ts p r))) e ((limits_tight h ts v).even p a)) p p refl;
}

-- ---- limits and points
-- a tight matrix with the points of the home and its cuts is the limits'
pub limits_from_tight : (h : Home) (ts : List Cut) (M : ℕ → ℕ → ℤ) → TightlyClosed h.n M → ((x : List ℤ) → Within h ts x → (length x ≡ h.n) × Below M x) → ((x : List ℤ) → length x ≡ h.n → Below M x → Within h ts x) → (void h ts ≡ false) × ((p q : ℕ) → p < 2 * h.n → q < 2 * h.n → limit h ts p q ≡ M p q)
limits_from_tight h ts M K to from = (sound (cases_Bool (void h ts)), λ p q a b. greatest_unique (Within h ts) p q (limit h ts p q) (M p q) (limits_exact h ts (sound (cases_Bool (void h ts))) p q a b) (exact_from_tight h.n M (Within h ts) K to from p q a b))
  where
    sound : (void h ts ≡ true) ⊎ (void h ts ≡ false) → void h ts ≡ false
    sound (inl v) = let r = some_point h.n M K in absurd (void_no_point h ts v r.0 (from r.0 r.1 r.2))
    sound (inr v) = v

same_void : (h h' : Home) (ts ts' : List Cut) → ((x : List ℤ) → Within h ts x → Within h' ts' x) → void h' ts' ≡ true → void h ts ≡ true
same_void h h' ts ts' to v = (void_decides h ts).1 (λ x w. void_no_point h' ts' v x (to x w))

pub points_decide_limits : PointsDecideLimits
points_decide_limits h h' ts ts' e to from = (voids (cases_Bool (void h ts)) (cases_Bool (void h' ts')), limits (cases_Bool (void h ts)) (cases_Bool (void h' ts')))
  where
    voids : (void h ts ≡ true) ⊎ (void h ts ≡ false) → (void h' ts' ≡ true) ⊎ (void h' ts' ≡ false) → void h ts ≡ void h' ts'
    voids (inl v) w = v ∙ sym (same_void h' h ts' ts from v)
    voids (inr v) (inl w) = absurd (both_ways (void h ts) v (same_void h h' ts ts' to w))
    voids (inr v) (inr w) = v ∙ sym w

    limits : (void h ts ≡ true) ⊎ (void h ts ≡ false) → (void h' ts' ≡ true) ⊎ (void h' ts' ≡ false) → (p q : ℕ) → limit h ts p q ≡ limit h' ts' p q
    limits (inl v) w p q = limit_void h ts v p q ∙ sym (limit_void h' ts' (same_void h' h ts' ts from v) p q)
    limits (inr v) (inl w) p q = absurd (both_ways (void h ts) v (same_void h h' ts ts' to w))
    limits (inr v) (inr w) p q = by (cases_lt p (2 * h.n)) (cases_lt q (2 * h.n))
      where
        by : (p < 2 * h.n) ⊎ (2 * h.n ≤ p) → (q < 2 * h.n) ⊎ (2 * h.n ≤ q) → limit h ts p q ≡ limit h' ts' p q
        by (inl a) (inl b) =
            let g = limits_exact h' ts' w p q (omega arith) (omega arith) in
            greatest_unique (Within h ts) p q (limit h ts p q) (limit h' ts' p q) (limits_exact h ts v p q a b) (record { above = λ x s. g.above x (to x s); reached = (g.reached.0, from g.reached.0 g.reached.1, g.reached.2) })
        by (inl a) (inr b) = limit_off h ts p q (inr b) ∙ sym (limit_off h' ts' p q (inr (omega arith)))
        by (inr a) b = limit_off h ts p q (inl a) ∙ sym (limit_off h' ts' p q (inl (omega arith)))

pub home_alone : HomeAlone
unfolding entry
home_alone h passes =
    let r = limits_from_tight h [] (home_entry h) (home_tight h passes)
    (λ x w. (w.0.0, λ p q a b. let l = w.0.0 in home_entry_above h x w.0 p q (omega arith) (omega arith)))
    (λ x l k. (home_from_entry h [] x l (λ p q a b. k p q (omega arith) (omega arith)), tt)) in
    (r.0, λ p q a b d. r.1 p q a b ∙ home_other h p q d)

-- ---- one cut more
pub meets_push : (x : List ℤ) (ts : List Cut) (t : Cut) → MeetsAll x ts → Meets x t → MeetsAll x (ts ++ (t ∷ []))
meets_push x [] t m k = (k, tt)
meets_push x (s ∷ ts) t m k = (m.0, meets_push x ts t m.1 k)

pub meets_front : (x : List ℤ) (ts : List Cut) (t : Cut) → MeetsAll x (ts ++ (t ∷ [])) → MeetsAll x ts
meets_front x [] t m = tt
meets_front x (s ∷ ts) t m = (m.0, meets_front x ts t m.1)

pub meets_last : (x : List ℤ) (ts : List Cut) (t : Cut) → MeetsAll x (ts ++ (t ∷ [])) → Meets x t
meets_last x [] t m = m.0
meets_last x (s ∷ ts) t m = meets_last x ts t m.1

module _ (h : Home) (ts : List Cut) (t : Cut) where
  front : (x : List ℤ) → Within h (ts ++ (t ∷ [])) x → Within h ts x
  front x w = (w.0, meets_front x ts t w.1)

  -- a cut that every point meets changes nothing
  idle_cut : ((x : List ℤ) → Within h ts x → Meets x t) → Same h (ts ++ (t ∷ [])) h ts
  idle_cut k = points_decide_limits h h (ts ++ (t ∷ [])) ts refl front (λ x w. (w.0, meets_push x ts t w.1 (k x w)))

  one_more_idle : void h ts ≡ false → t.p < 2 * h.n → t.q < 2 * h.n → limit h ts t.p t.q ≤ℤ t.c → Same h (ts ++ (t ∷ [])) h ts
  one_more_idle v a b k = idle_cut (λ x w c d. let g = (limits_exact h ts v t.p t.q a b).above x w in omega (arith, ints))

  one_more_off : (2 * h.n ≤ t.p) ⊎ (2 * h.n ≤ t.q) → Same h (ts ++ (t ∷ [])) h ts
  one_more_off (inl k) = idle_cut (λ x w c d. let l = w.0.0 in absurd (omega arith))
  one_more_off (inr k) = idle_cut (λ x w c d. let l = w.0.0 in absurd (omega arith))

  one_more_empties : void h ts ≡ false → t.p < 2 * h.n → t.q < 2 * h.n → (t.c +ℤ limit h ts (opp t.p) (opp t.q)) <ℤ pos 0 → void h (ts ++ (t ∷ [])) ≡ true
  one_more_empties v a b k = (void_decides h (ts ++ (t ∷ []))).1 (λ x w.
      let l = w.0.0 in
      let m = meets_last x ts t w.1 (omega arith) (omega arith) in
      let g = (limits_exact h ts v (opp t.p) (opp t.q) (opp_below h.n t.p a) (opp_below h.n t.q b)).above x (front x w) in
      let e = value_opp x t.p in
      let f = value_opp x t.q in
      omega (arith, ints))

  one_more_lowers : void h ts ≡ false → t.p < 2 * h.n → t.q < 2 * h.n → pos 0 ≤ℤ (t.c +ℤ limit h ts (opp t.p) (opp t.q)) → (void h (ts ++ (t ∷ [])) ≡ false) × ((i j : ℕ) → i < 2 * h.n → j < 2 * h.n → limit h (ts ++ (t ∷ [])) i j ≡ rounded (shortest (limit h ts) (opp t.p) (opp t.q) t.c) i j)
  one_more_lowers v a b k =
      let K = limits_tight h ts v in
      limits_from_tight h (ts ++ (t ∷ [])) (rounded (shortest (limit h ts) (opp t.p) (opp t.q) t.c)) (cut_line h.n (limit h ts) K t.p t.q a b t.c k)
      (λ x w. let r = within_below h ts v x (front x w) in let l = r.0 in (r.0, cut_keeps h.n (limit h ts) K t.p t.q a b t.c x r.0 r.1 (meets_last x ts t w.1 (omega arith) (omega arith))))
      (λ x l u. let w = below_within h ts v x l (cut_adds_none h.n (limit h ts) K t.p t.q a b t.c x l u) in (w.0, meets_push x ts t w.1 (λ c d. cut_met h.n (limit h ts) K t.p t.q a b t.c x l u)))

  before : void h (ts ++ (t ∷ [])) ≡ false → void h ts ≡ false
  before v = by (cases_Bool (void h ts))
    where
      by : (void h ts ≡ true) ⊎ (void h ts ≡ false) → void h ts ≡ false
      by (inl w) = absurd (both_ways (void h (ts ++ (t ∷ []))) v (same_void h h (ts ++ (t ∷ [])) ts front w))
      by (inr w) = w

  one_more_shrinks : void h (ts ++ (t ∷ [])) ≡ false → (p q : ℕ) → p < 2 * h.n → q < 2 * h.n → limit h (ts ++ (t ∷ [])) p q ≤ℤ limit h ts p q
  one_more_shrinks v p q a b =
      let r = (limits_exact h (ts ++ (t ∷ [])) v p q a b).reached in
      let g = (limits_exact h ts (before v) p q a b).above r.0 (front r.0 r.1) in
      let e = r.2 in
      omega (arith, ints)

  one_more_obeyed : void h (ts ++ (t ∷ [])) ≡ false → t.p < 2 * h.n → t.q < 2 * h.n → limit h (ts ++ (t ∷ [])) t.p t.q ≤ℤ t.c
  one_more_obeyed v a b =
      let r = (limits_exact h (ts ++ (t ∷ [])) v t.p t.q a b).reached in
      let l = r.1.0.0 in
      let m = meets_last r.0 ts t r.1.1 (omega arith) (omega arith) in
      let e = r.2 in
      omega (arith, ints)

  one_more : OneMore h ts t
  one_more = record {
    stays_void = λ v. same_void h h (ts ++ (t ∷ [])) ts front v;
    off_line = one_more_off;
    idle = one_more_idle;
    empties = one_more_empties;
    lowers = one_more_lowers;
    shrinks = one_more_shrinks;
    obeyed = one_more_obeyed;
  }

pub one_cut_at_a_time : OneCutAtATime
one_cut_at_a_time h ts t = one_more h ts t

-- ---- the least point
pub least_values_are_least : LeastValuesAreLeast
least_values_are_least h ts v =
    let K = limits_tight h ts v in (
      below_within h ts v (least_values (limit h ts) [] h.n) (length_least_values (limit h ts) [] h.n) (least_below h.n (limit h ts) K h.n [] (omega arith) (λ p q a b. absurd (omega arith))),
      λ x w. let r = within_below h ts v x w in least_no_later h.n (limit h ts) K h.n [] x (omega arith) r.0 r.1,
    )

-- ---- one point left
module _ (h : Home) (ts : List Cut) (v : void h ts ≡ false) (narrow : (p : ℕ) → p < 2 * h.n → (limit h ts p p +ℤ limit h ts (opp p) (opp p)) ≡ pos 0) where
  fixed : (x : List ℤ) → Within h ts x → (p : ℕ) → p < 2 * h.n → (value x p +ℤ value x p) ≡ limit h ts p p
  fixed x w p a =
      let b = opp_below h.n p a in
      let f = (limits_exact h ts v p p a a).above x w in
      let g = (limits_exact h ts v (opp p) (opp p) b b).above x w in
      let e = narrow p a in
      let o = value_opp x p in
      omega (arith, ints)

  same_point : (x y : List ℤ) → Within h ts x → Within h ts y → y ≡ x
  same_point x y w u = ext_get_or (pos 0) y x (u.0.0 ∙ sym w.0.0) (λ k b.
      let l = u.0.0 in
      let e = fixed x w (2 * k) (omega arith) in
      let f = fixed y u (2 * k) (omega arith) in
      let g = value_even k x in
      let i = value_even k y in
      omega (arith, ints))

  its_sums : (x : List ℤ) → Within h ts x → (p q : ℕ) → p < 2 * h.n → q < 2 * h.n → limit h ts p q ≡ (value x p +ℤ value x q)
  its_sums x w p q a b =
      let f = (limits_exact h ts v p q a b).above x w in
      let j = (limits_tight h ts v).joined p q a b in
      let e = fixed x w p a in
      let g = fixed x w q b in
      omega (arith, ints, half_is)

pub one_point_is_left : OnePointIsLeft
one_point_is_left h ts v narrow x w = (λ y u. same_point h ts v narrow x y w u, its_sums h ts v narrow x w)
