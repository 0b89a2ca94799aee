-- What every made octagon is: the octagon of some home and cuts, with the limits that the definition gives them.
use Rattle.std.specs.Prelude.{◌≡◌, ℕ, ◌+◌, ◌*◌, ◌/◌, ◌%◌, ◌<◌, ◌≤◌, min, true, false, cond, not, ◌&&◌, ◌||◌, ◌⊎◌, List, [], ◌∷◌, ◌++◌, length, ℤ, pos, ◌+ℤ◌, neg_ℤ, ◌≤ℤ◌, ◌==◌, ◌≢◌, int_le, nat_le, nat_lt, refl}
use Rattle.std.proofs.Common.{inl, inr, ap, ap₂, ◌∙◌, arith}
use Rattle.std.proofs.Math.Path.{sym, subst}
use Rattle.std.proofs.lemmas.List.{length-replicate, get_or-replicate}
use Rattle.std.proofs.lemmas.Int.{ints}
use Rattle.std.proofs.lemmas.Bool.{cases_Bool, cases_eq, cases_lt, lt-ltb, le-ltb, le-leb, lt-leb, leb-false, eq-eqb, ne_eqb, cond-true, cond-false, and_from, and_left, and_right, and_parts, or_left, or_right, or_parts, or_from, ltb-true}
use Rattle.interface.specs.declared.cut.Cut.{Cut}
use Rattle.interface.specs.declared.home.Home.{Home}
use Rattle.interface.specs.Homes.{low_of, high_of, Passes}
use Rattle.interface.specs.Nodes.{opp}
use Rattle.interface.specs.Numbers.{within}
use Rattle.octagon_theory.specs.Limits.{top_of, void, limit}
use Rattle.octagon_theory.specs.Theorems.{Same, OneMore}
use Rattle.octagon_theory.proofs.Exact.{limit_void, limit_off, limit_opposite}
use Rattle.octagon_theory.proofs.Nodes.{opp_below}
use Rattle.octagon_theory.proofs.Passing.{settings_bounds, range_bounds, top_bounded, top_apart}
use Rattle.octagon_theory.proofs.Theorems.{limits_can_be_shown, home_alone, one_cut_at_a_time}
use Rattle.octagon.specs.declared.matrix.Octagon.{Octagon}
use Rattle.octagon.specs.Entries.{plus, at, top, home_limit, lowered_entry, lowered}
use Rattle.octagon.specs.Octagons.{started, limit_at, voided, idle, unmet, taken, cutting, cut_to}
use Rattle.octagon.specs.Filling.{length_tabled, at_tabled}
use Rattle.octagon.specs.Wrapping.{Small, wrapped_small, plus_small, lowered_is}

-- s is the octagon of the home h and the cuts ts
pub record OctagonOf (h : Home) (ts : List Cut) (s : Octagon) : Type 0 where
  pub passes : Passes h
  pub same_n : s.n ≡ h.n
  pub same_void : s.void ≡ void h ts
  pub size : length s.limits ≡ 256
  pub entries : (p q : ℕ) → p < 16 → q < 16 → at s.limits p q ≡ limit h ts p q

pub small_from_within : (b : ℕ) (z : ℤ) → within b z ≡ true → Small b z
small_from_within b z e = let p = and_parts (int_le (neg_ℤ (pos b)) z) (int_le z (pos b)) e in let l = p.0 in let r = p.1 in (omega (arith, ints), omega (arith, ints))

-- what a cut's bounds are
pub record Bounds (t : Cut) : Type 0 where
  pub first : t.p < 16
  pub second : t.q < 16
  pub bound : Small 2000000 t.c

pub bounds_of : (t : Cut) → Bounds t
bounds_of t =
    let a = and_parts (nat_lt t.p 16) (nat_lt t.q 16 && (not (t.q == opp t.p) && within 2000000 t.c)) t.ok in
    let b = and_parts (nat_lt t.q 16) (not (t.q == opp t.p) && within 2000000 t.c) a.1 in
    let d = and_parts (not (t.q == opp t.p)) (within 2000000 t.c) b.1 in
    record { first = ltb-true t.p 16 a.0; second = ltb-true t.q 16 b.0; bound = small_from_within 2000000 t.c d.1 }

opp_16 : (p : ℕ) → p < 16 → opp p < 16
opp_16 p h = omega arith

-- ---- made from a home
top_is : (h : Home) → Passes h → (p : ℕ) → p < 2 * h.n → top h p ≡ top_of h p
unfolding top_of
top_is h ok p b = ap (cond (p % 2 == 0) (high_of h (p / 2))) (wrapped_small (neg_ℤ (low_of h (p / 2))) (let r = range_bounds h ok (p / 2) (omega arith) in let x = r.0 in let y = r.1 in let z = r.2 in (omega (arith, ints), omega (arith, ints))))

top_small : (h : Home) → Passes h → (p : ℕ) → p < 2 * h.n → Small 1000000 (top_of h p)
top_small h ok p b =
    let u = top_bounded h ok p b in
    let v = top_bounded h ok (opp p) (opp_below h.n p b) in
    let w = top_apart h ok p b in
    (omega (arith, ints), omega (arith, ints))

home_limit_is : (h : Home) → Passes h → (p q : ℕ) → home_limit h p q ≡ limit h [] p q
home_limit_is h ok p q = by (cases_lt p (2 * h.n)) (cases_lt q (2 * h.n)) (cases_eq q (opp p))
  where
    by : (p < 2 * h.n) ⊎ (2 * h.n ≤ p) → (q < 2 * h.n) ⊎ (2 * h.n ≤ q) → (q ≡ opp p) ⊎ (q ≢ opp p) → home_limit h p q ≡ limit h [] p q
    by (inr a) b d = cond-true _ _ _ (or_left (nat_le (2 * h.n) p) _ (le-leb (2 * h.n) p a)) ∙ sym (limit_off h [] p q (inl a))
    by (inl a) (inr b) d = cond-true _ _ _ (or_right (nat_le (2 * h.n) p) _ (or_left (nat_le (2 * h.n) q) _ (le-leb (2 * h.n) q b))) ∙ sym (limit_off h [] p q (inr b))
    by (inl a) (inl b) (inl d) = cond-true _ _ _ (or_right (nat_le (2 * h.n) p) _ (or_right (nat_le (2 * h.n) q) _ (eq-eqb q (opp p) d))) ∙ sym (limit_opposite h [] p q d)
    by (inl a) (inl b) (inr d) =
        let s = top_small h ok p a in
        let t = top_small h ok q b in
        cond-false _ _ _ (or_from (nat_le (2 * h.n) p) _ (lt-leb (2 * h.n) p a) (or_from (nat_le (2 * h.n) q) _ (lt-leb (2 * h.n) q b) (ne_eqb q (opp p) d))) ∙ ap₂ plus (top_is h ok p a) (top_is h ok q b) ∙ plus_small (top_of h p) (top_of h q) (omega (arith, ints), omega (arith, ints)) ∙ sym ((home_alone h ok).1 p q a b d)

pub start_of : (h : Home) → Passes h → OctagonOf h [] (started h)
start_of h ok = record {
  passes = ok;
  same_n = refl;
  same_void = sym (home_alone h ok).0;
  size = length_tabled (home_limit h);
  entries = λ p q a b. at_tabled (home_limit h) p q a b ∙ home_limit_is h ok p q;
}

-- ---- cut
module _ (h : Home) (ts : List Cut) (s : Octagon) (O : OctagonOf h ts s) where
  eight : h.n ≤ 8
  eight = let b = (settings_bounds h O.passes).1 in omega arith

  pub limit_is : (p q : ℕ) → limit_at s p q ≡ limit h ts p q
  limit_is p q = by (cases_lt p 16) (cases_lt q 16)
    where
      by : (p < 16) ⊎ (16 ≤ p) → (q < 16) ⊎ (16 ≤ q) → limit_at s p q ≡ limit h ts p q
      by (inl a) (inl b) = cond-true _ _ _ (and_from (nat_lt p 16) (nat_lt q 16) (lt-ltb p 16 a) (lt-ltb q 16 b)) ∙ O.entries p q a b
      by (inl a) (inr b) = cond-false _ _ _ (and_right (nat_lt p 16) (nat_lt q 16) (le-ltb q 16 b)) ∙ sym (limit_off h ts p q (inr (let e = eight in omega arith)))
      by (inr a) b = cond-false _ _ _ (and_left (nat_lt p 16) (nat_lt q 16) (le-ltb p 16 a)) ∙ sym (limit_off h ts p q (inl (let e = eight in omega arith)))

  pub small : (p q : ℕ) → Small 2000000 (limit h ts p q)
  small p q = small_from_within 2000000 (limit h ts p q) ((limits_can_be_shown h O.passes ts).bounded p q)

  module _ (t : Cut) where
    one : OneMore h ts t
    one = one_cut_at_a_time h ts t

    -- nothing changes
    kept : Same h (ts ++ (t ∷ [])) h ts → OctagonOf h (ts ++ (t ∷ [])) s
    kept e = record { passes = O.passes; same_n = O.same_n; same_void = O.same_void ∙ sym e.0; size = O.size; entries = λ p q a b. O.entries p q a b ∙ sym (e.1 p q) }

    still_void : void h ts ≡ true → Same h (ts ++ (t ∷ [])) h ts
    still_void v = let w = one.stays_void v in (w ∙ sym v, λ p q. limit_void h (ts ++ (t ∷ [])) w p q ∙ sym (limit_void h ts v p q))

    emptied : void h (ts ++ (t ∷ [])) ≡ true → OctagonOf h (ts ++ (t ∷ [])) (voided s)
    emptied v = record { passes = O.passes; same_n = O.same_n; same_void = sym v; size = length-replicate 256 (pos 0); entries = λ p q a b. get_or-replicate 256 (16 * p + q) (pos 0) (pos 0) (omega arith) ∙ sym (limit_void h (ts ++ (t ∷ [])) v p q) }

    lowered_of : void h ts ≡ false → t.p < 2 * h.n → t.q < 2 * h.n → pos 0 ≤ℤ (t.c +ℤ limit h ts (opp t.p) (opp t.q)) → OctagonOf h (ts ++ (t ∷ [])) (taken s t.p t.q t.c)
    unfolding lowered
    lowered_of v a b k =
        let r = one.lowers v a b k in
        let f : ℕ → ℕ → ℤ = λ i j. cond (nat_lt i (2 * s.n) && nat_lt j (2 * s.n)) (lowered_entry s.limits (opp t.p) (opp t.q) t.c i j) (at s.limits i j) in
        record {
          passes = O.passes;
          same_n = O.same_n;
          same_void = O.same_void ∙ v ∙ sym r.0;
          size = length_tabled f;
          entries = λ p q c d. at_tabled f p q c d ∙ by p q c d (cases_lt p (2 * h.n)) (cases_lt q (2 * h.n));
        }
      where
        by : (p q : ℕ) → p < 16 → q < 16 → (p < 2 * h.n) ⊎ (2 * h.n ≤ p) → (q < 2 * h.n) ⊎ (2 * h.n ≤ q) → cond (nat_lt p (2 * s.n) && nat_lt q (2 * s.n)) (lowered_entry s.limits (opp t.p) (opp t.q) t.c p q) (at s.limits p q) ≡ limit h (ts ++ (t ∷ [])) p q
        by p q c d (inl e) (inl f) =
            let same = O.same_n in
            let B = bounds_of t in
            cond-true _ _ _ (and_from (nat_lt p (2 * s.n)) (nat_lt q (2 * s.n)) (lt-ltb p (2 * s.n) (omega arith)) (lt-ltb q (2 * s.n) (omega arith))) ∙ lowered_is s.limits (limit h ts) O.entries small (limits_can_be_shown h O.passes ts).symmetric t.c B.bound (opp t.p) (opp t.q) p q (opp_16 t.p B.first) (opp_16 t.q B.second) c d ∙ sym ((one.lowers v a b k).1 p q e f)
        by p q c d (inl e) (inr f) = let same = O.same_n in cond-false _ _ _ (and_right (nat_lt p (2 * s.n)) (nat_lt q (2 * s.n)) (le-ltb q (2 * s.n) (omega arith))) ∙ O.entries p q c d ∙ limit_off h ts p q (inr f) ∙ sym (limit_off h (ts ++ (t ∷ [])) p q (inr f))
        by p q c d (inr e) f = let same = O.same_n in cond-false _ _ _ (and_left (nat_lt p (2 * s.n)) (nat_lt q (2 * s.n)) (le-ltb p (2 * s.n) (omega arith))) ∙ O.entries p q c d ∙ limit_off h ts p q (inl e) ∙ sym (limit_off h (ts ++ (t ∷ [])) p q (inl e))

    idle_cut : idle s t.p t.q t.c ≡ true → Same h (ts ++ (t ∷ [])) h ts
    idle_cut e = by_void (cases_Bool s.void)
      where
        B : Bounds t
        B = bounds_of t

        by_limit : (t.p < 2 * h.n) → (t.q < 2 * h.n) → s.void ≡ false → int_le (limit_at s t.p t.q) t.c ≡ true → Same h (ts ++ (t ∷ [])) h ts
        by_limit a b v f = one.idle (sym O.same_void ∙ v) a b (let g = limit_is t.p t.q in omega (arith, ints))

        by_nodes : s.void ≡ false → (t.p < 2 * h.n) ⊎ (2 * h.n ≤ t.p) → (t.q < 2 * h.n) ⊎ (2 * h.n ≤ t.q) → Same h (ts ++ (t ∷ [])) h ts
        by_nodes v (inr a) b = one.off_line (inl a)
        by_nodes v (inl a) (inr b) = one.off_line (inr b)
        by_nodes v (inl a) (inl b) = by_limit a b v (rest e)
          where
            rest : (s.void || (nat_le (min 16 (2 * s.n)) t.p || (nat_le (min 16 (2 * s.n)) t.q || int_le (limit_at s t.p t.q) t.c))) ≡ true → int_le (limit_at s t.p t.q) t.c ≡ true
            rest f =
                let n = O.same_n in
                let first = B.first in
                let second = B.second in
                let x = lt-leb (min 16 (2 * s.n)) t.p (omega arith) in
                let y = lt-leb (min 16 (2 * s.n)) t.q (omega arith) in
                sym (ap (λ b. b || (nat_le (min 16 (2 * s.n)) t.p || (nat_le (min 16 (2 * s.n)) t.q || int_le (limit_at s t.p t.q) t.c))) v ∙ ap (λ b. b || (nat_le (min 16 (2 * s.n)) t.q || int_le (limit_at s t.p t.q) t.c)) x ∙ ap (λ b. b || int_le (limit_at s t.p t.q) t.c) y) ∙ f

        by_void : (s.void ≡ true) ⊎ (s.void ≡ false) → Same h (ts ++ (t ∷ [])) h ts
        by_void (inl v) = still_void (sym O.same_void ∙ v)
        by_void (inr v) = by_nodes v (cases_lt t.p (2 * h.n)) (cases_lt t.q (2 * h.n))

    -- what a cut that is not idle is known by
    record Busy : Type 0 where
      sound : void h ts ≡ false
      first_on : t.p < 2 * h.n
      second_on : t.q < 2 * h.n

    busy : idle s t.p t.q t.c ≡ false → Busy
    busy e =
        let a = or_parts s.void _ e in
        let b = or_parts (nat_le (min 16 (2 * s.n)) t.p) _ a.1 in
        let d = or_parts (nat_le (min 16 (2 * s.n)) t.q) _ b.1 in
        let n = O.same_n in
        let x = leb-false (min 16 (2 * s.n)) t.p b.0 in
        let y = leb-false (min 16 (2 * s.n)) t.q d.0 in
        record { sound = sym O.same_void ∙ a.0; first_on = omega arith; second_on = omega arith }

    unmet_is : plus t.c (limit_at s (opp t.p) (opp t.q)) ≡ (t.c +ℤ limit h ts (opp t.p) (opp t.q))
    unmet_is =
        let B = (bounds_of t).bound in
        let l = small (opp t.p) (opp t.q) in
        ap (plus t.c) (limit_is (opp t.p) (opp t.q)) ∙ plus_small t.c (limit h ts (opp t.p) (opp t.q)) (omega (arith, ints), omega (arith, ints))

    pub cut_of : OctagonOf h (ts ++ (t ∷ [])) (cut_to s t.p t.q t.c)
    unfolding cut_to
    cut_of = by (cases_Bool (idle s t.p t.q t.c)) (cases_Bool (unmet s t.p t.q t.c))
      where
        by : (idle s t.p t.q t.c ≡ true) ⊎ (idle s t.p t.q t.c ≡ false) → (unmet s t.p t.q t.c ≡ true) ⊎ (unmet s t.p t.q t.c ≡ false) → OctagonOf h (ts ++ (t ∷ [])) (cutting s t.p t.q t.c)
        by (inl i) u = subst (OctagonOf h (ts ++ (t ∷ []))) (sym (cond-true (idle s t.p t.q t.c) s _ i)) (kept (idle_cut i))
        by (inr i) (inl u) =
            let B = busy i in
            let e = unmet_is in
            subst (OctagonOf h (ts ++ (t ∷ []))) (sym (cond-false (idle s t.p t.q t.c) s _ i ∙ cond-true (unmet s t.p t.q t.c) (voided s) _ u)) (emptied (one.empties B.sound B.first_on B.second_on (omega (arith, ints))))
        by (inr i) (inr u) =
            let B = busy i in
            let e = unmet_is in
            subst (OctagonOf h (ts ++ (t ∷ []))) (sym (cond-false (idle s t.p t.q t.c) s _ i ∙ cond-false (unmet s t.p t.q t.c) (voided s) _ u)) (lowered_of B.sound B.first_on B.second_on (omega (arith, ints)))
