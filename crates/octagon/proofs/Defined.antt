-- What an octagon answers is what the limits of the home and the cuts that made it define.
use Rattle.std.proofs.Common.{◌≡◌, ℕ, ◌+◌, ◌-◌, ◌*◌, ◌/◌, ◌%◌, ◌<◌, ◌≤◌, min, Bool, true, false, cond, ltb, ◌⊎◌, List, [], ◌∷◌, ◌++◌, length, get_or, drop, replicate, ℤ, pos, neg_ℤ, Some, None, Decides, sym, refl, ap, ◌∙◌, subst, ap₂, inl, inr, arith}
use Rattle.std.proofs.lemmas.List.{drop_at, ext_get_or}
use Rattle.std.proofs.lemmas.Bool.{cases_Bool, cases_lt, cond-true, cond-false, lt-ltb, le-ltb, and_from}
use Rattle.halving.specs.Halvings.{all_single, halvings_of}
use Rattle.interface.specs.declared.cut.Cut.{Cut}
use Rattle.interface.specs.declared.home.Home.{Home}
use Rattle.interface.specs.declared.point.Point.{Point}
use Rattle.interface.specs.declared.extent.Extent.TheVariants.{Void, Lone, Open}
use Rattle.interface.specs.Cuts.{cut_of}
use Rattle.interface.specs.Homes.{Passes}
use Rattle.interface.specs.Numbers.{half}
use Rattle.interface.specs.Points.{NoLater}
use Rattle.interface.specs.Shapes.{Made, cut_by, built, range_of}
use Rattle.interface.proofs.Cuts.{cut_made}
use Rattle.octagon_theory.specs.Limits.{void, limit}
use Rattle.octagon_theory.specs.Matrices.{TightlyClosed}
use Rattle.octagon_theory.specs.Theorems.{Within}
use Rattle.octagon_theory.proofs.Exact.{limit_off, limits_tight, tight_same}
use Rattle.octagon_theory.proofs.LeastPoint.{length_least_values}
use Rattle.octagon_theory.proofs.Passing.{settings_bounds}
use Rattle.octagon_theory.proofs.Theorems.{least_values_are_least}
use Rattle.octagon.specs.declared.matrix.Octagon.{Octagon}
use Rattle.octagon.specs.Definitions.{LeastOffered, SplitInTwo, RangesAreThoseOfLimits, MadeIsTight, LimitsTellApart}
use Rattle.octagon.specs.Entries.{at}
use Rattle.octagon.specs.Octagons.{limit_at, offered, least_from, offer_of, cut_to, lower_of, upper_of, octagon_model}
use Rattle.octagon.specs.Ranges.{low_at, high_at, widths, extent_by, is_open, widest_at, middle_at, up_to, from_next}
use Rattle.octagon.specs.Taking.{OctagonOf, limit_is}
use Rattle.octagon.specs.Holding.{holds_decides, offered_is, least_is}
use Rattle.octagon.specs.Made.{made_of, built_of}
use Rattle.octagon.specs.Facts.{extent_at, halvings_are}
use Rattle.octagon.specs.Splitting.{lower_cut, upper_cut, widths_are, lower_split, upper_split, lower_is, upper_is, lower_same, upper_same}

-- one cut more is one more at the end
pub cut_by_more : (s : Octagon) (ts : List Cut) (t : Cut) → cut_by octagon_model s (ts ++ (t ∷ [])) ≡ cut_to (cut_by octagon_model s ts) t.p t.q t.c
cut_by_more s [] t = refl
cut_by_more s (u ∷ ts) t = cut_by_more (cut_to s u.p u.q u.c) ts t

-- s was made by the home h and the cuts ts
module _ (s : Octagon) (h : Home) (ts : List Cut) (ok : Passes h) (made : s ≡ built octagon_model h ts) where
  pub O : OctagonOf h ts s
  O = subst (OctagonOf h ts) (sym made) (built_of h ok ts)

  pub n_defined : s.n ≡ h.n
  n_defined = O.same_n

  pub cut_defined : (t : Cut) → cut_to s t.p t.q t.c ≡ built octagon_model h (ts ++ (t ∷ []))
  cut_defined t = ap (λ r. cut_to r t.p t.q t.c) made ∙ sym (cut_by_more (octagon_model.start h) ts t)

  pub limit_defined : (p q : ℕ) → limit_at s p q ≡ limit h ts p q
  limit_defined p q = limit_is h ts s O p q

  pub extent_defined : extent_at s ≡ extent_by (void h ts) (limit h ts)
  extent_defined = ap₂ (λ v ws. cond v Void (cond (all_single ws) Lone Open)) O.same_void (widths_are h ts s O)

  pub holds_defined : (x : List ℤ) → Decides (octagon_model.holds s x) (Within h ts x)
  holds_defined x = holds_decides h ts s O x

  pub halvings_defined : halvings_of (widths (at s.limits)) ≡ halvings_of (widths (limit h ts))
  halvings_defined = halvings_are h ts s O

  pub offer_defined : LeastOffered h ts (offer_of s)
  offer_defined = record {
    none = λ v. cond-true s.void None _ (O.same_void ∙ v);
    some = λ v.
        let x : Point = record { n = s.n; values = offered s.limits (min 8 s.n) } in
        let L = least_values_are_least h ts v in
        (x, cond-false s.void None (Some x) (O.same_void ∙ v), O.same_n, rest v, subst (Within h ts) (sym (offered_is h ts s O v)) L.0, λ y w. subst (λ z. NoLater z y) (sym (offered_is h ts s O v)) (L.1 y w));
  }
    where
      rest : void h ts ≡ false → drop h.n (offered s.limits (min 8 s.n)) ≡ replicate (8 - h.n) (pos 0)
      rest v =
          let n = O.same_n in
          let b = (settings_bounds h ok).1 in
          let m : min 8 s.n ≡ h.n = omega arith in
          let e = least_is h ts s O v h.n [] (omega arith) (λ p q a c. absurd (omega arith)) in
          ap (λ j. drop h.n (least_from (at s.limits) [] j ++ replicate (8 - j) (pos 0))) m ∙ drop_at (least_from (at s.limits) [] h.n) (replicate (8 - h.n) (pos 0)) h.n (ap length e ∙ length_least_values (limit h ts) [] h.n)

  pub split_defined : SplitInTwo h ts (lower_of s, upper_of s)
  unfolding lower_split upper_split lower_cut upper_cut
  split_defined = record {
    whole = λ e. let a = lower_same h ts s O e ∙ made in let b = upper_same h ts s O e ∙ made in λ i. (a i, b i);
    parts = λ e t u c d. let a = lower_at e t c in let b = upper_at e u d in λ i. (a i, b i);
    cuts = λ e. (lower_split h ts s O e, upper_split h ts s O e, sym (lower_found e), sym (upper_found e));
  }
    where
      some_same : (a b : Cut) → Some a ≡ Some b → a ≡ b
      some_same a b e = cc

      lower_found : (e : is_open (void h ts) (limit h ts) ≡ true) → Some (lower_split h ts s O e) ≡ cut_of (2 * widest_at (limit h ts)) (2 * widest_at (limit h ts)) (up_to (middle_at (limit h ts) (widest_at (limit h ts))))
      lower_found e = cut_made (2 * widest_at (limit h ts)) (2 * widest_at (limit h ts)) (up_to (middle_at (limit h ts) (widest_at (limit h ts)))) (up_to (middle_at (limit h ts) (widest_at (limit h ts)))) refl (lower_split h ts s O e).ok

      upper_found : (e : is_open (void h ts) (limit h ts) ≡ true) → Some (upper_split h ts s O e) ≡ cut_of (2 * widest_at (limit h ts) + 1) (2 * widest_at (limit h ts) + 1) (from_next (middle_at (limit h ts) (widest_at (limit h ts))))
      upper_found e = cut_made (2 * widest_at (limit h ts) + 1) (2 * widest_at (limit h ts) + 1) (from_next (middle_at (limit h ts) (widest_at (limit h ts)))) (from_next (middle_at (limit h ts) (widest_at (limit h ts)))) refl (upper_split h ts s O e).ok

      lower_at : (e : is_open (void h ts) (limit h ts) ≡ true) (t : Cut) → cut_of (2 * widest_at (limit h ts)) (2 * widest_at (limit h ts)) (up_to (middle_at (limit h ts) (widest_at (limit h ts)))) ≡ Some t → lower_of s ≡ built octagon_model h (ts ++ (t ∷ []))
      lower_at e t c = lower_is h ts s O e ∙ cut_defined (lower_split h ts s O e) ∙ ap (λ r. built octagon_model h (ts ++ (r ∷ []))) (some_same _ _ (lower_found e ∙ c))

      upper_at : (e : is_open (void h ts) (limit h ts) ≡ true) (t : Cut) → cut_of (2 * widest_at (limit h ts) + 1) (2 * widest_at (limit h ts) + 1) (from_next (middle_at (limit h ts) (widest_at (limit h ts)))) ≡ Some t → upper_of s ≡ built octagon_model h (ts ++ (t ∷ []))
      upper_at e t c = upper_is h ts s O e ∙ cut_defined (upper_split h ts s O e) ∙ ap (λ r. built octagon_model h (ts ++ (r ∷ []))) (some_same _ _ (upper_found e ∙ c))

pub ranges_are_those_of_limits : RangesAreThoseOfLimits
ranges_are_those_of_limits h ts ok k = (on, off)
  where
    s : Octagon
    s = built octagon_model h ts

    ends : limit_at s (2 * k + 1) (2 * k + 1) ≡ limit h ts (2 * k + 1) (2 * k + 1)
    ends = limit_is h ts (built octagon_model h ts) (built_of h ok ts) (2 * k + 1) (2 * k + 1)

    tops : limit_at s (2 * k) (2 * k) ≡ limit h ts (2 * k) (2 * k)
    tops = limit_is h ts (built octagon_model h ts) (built_of h ok ts) (2 * k) (2 * k)

    below : k < 8 → range_of octagon_model s k ≡ (low_at (limit h ts) k, high_at (limit h ts) k)
    below b = cond-true (ltb k 8) _ (pos 0, pos 0) (lt-ltb k 8 b) ∙ (λ i. (neg_ℤ (half (ends i)), half (tops i)))

    on : k < h.n → range_of octagon_model s k ≡ (low_at (limit h ts) k, high_at (limit h ts) k)
    on b = below (let n = (settings_bounds h ok).1 in omega arith)

    zeros : h.n ≤ k → ◌≡◌ {A = ℤ × ℤ} (low_at (limit h ts) k, high_at (limit h ts) k) (pos 0, pos 0)
    zeros b = let e = limit_off h ts (2 * k) (2 * k) (inl (omega arith)) in let f = limit_off h ts (2 * k + 1) (2 * k + 1) (inl (omega arith)) in λ i. (neg_ℤ (half (f i)), half (e i))

    by : h.n ≤ k → (k < 8) ⊎ (8 ≤ k) → range_of octagon_model s k ≡ (pos 0, pos 0)
    by a (inl b) = below b ∙ zeros a
    by a (inr b) = cond-false (ltb k 8) _ (pos 0, pos 0) (le-ltb k 8 b)

    off : h.n ≤ k → range_of octagon_model s k ≡ (pos 0, pos 0)
    off b = by b (cases_lt k 8)

pub made_is_tight : MadeIsTight
made_is_tight s m = let r = made_of m in by r.0 r.1 r.2 (cases_Bool (void r.0 r.1))
  where
    by : (h : Home) (ts : List Cut) → OctagonOf h ts s → (void h ts ≡ true) ⊎ (void h ts ≡ false) → (s.void ≡ true) ⊎ TightlyClosed s.n (limit_at s)
    by h ts O (inl v) = inl (O.same_void ∙ v)
    by h ts O (inr v) = inr (subst (λ n. TightlyClosed n (limit_at s)) (sym O.same_n) (tight_same h.n (limit_at s) (limit h ts) (λ p q a b. limit_is h ts s O p q) (limits_tight h ts v)))

pub limits_tell_apart : LimitsTellApart
limits_tell_apart s t m k n e same =
    let v : s.void ≡ t.void = voids s.void t.void _ _ e in
    let l : s.limits ≡ t.limits = ext_get_or (pos 0) s.limits t.limits (size s m ∙ sym (size t k)) (λ i b. entries i (let z = size s m in omega arith)) in
    λ i. record { n = n i; void = v i; limits = l i }
  where
    size : (u : Octagon) → Made octagon_model u → length u.limits ≡ 256
    size u d = (made_of d).2.size

    voids : (v w a b : Bool) → cond v Void (cond a Lone Open) ≡ cond w Void (cond b Lone Open) → v ≡ w
    voids true true a b f = refl
    voids false false a b f = refl
    voids true false a true f = cc
    voids true false a false f = cc
    voids false true true b f = cc
    voids false true false b f = cc

    read : (u : Octagon) (p q : ℕ) → p < 16 → q < 16 → limit_at u p q ≡ at u.limits p q
    read u p q a b = cond-true _ _ (pos 0) (and_from (ltb p 16) (ltb q 16) (lt-ltb p 16 a) (lt-ltb q 16 b))

    entries : (i : ℕ) → i < 256 → get_or s.limits i (pos 0) ≡ get_or t.limits i (pos 0)
    entries i b =
        let p = i / 16 in
        let q = i % 16 in
        let z : 16 * p + q ≡ i = omega arith in
        ap (λ j. get_or s.limits j (pos 0)) (sym z) ∙ sym (read s p q (omega arith) (omega arith)) ∙ same p q ∙ read t p q (omega arith) (omega arith) ∙ ap (λ j. get_or t.limits j (pos 0)) z
