-- What the laws of a shape say, for the octagon of a home and cuts: each is a fact of their limits.
use Rattle.std.specs.Prelude.{◌≡◌, ℕ, ◌+◌, ◌*◌, ◌<◌, ◌≤◌, Bool, true, false, cond, not, ◌&&◌, ◌≢◌, ◌⊎◌, List, [], ◌∷◌, ◌++◌, ℤ, pos, ◌+ℤ◌, ◌-ℤ◌, neg_ℤ, ◌≤ℤ◌, Some, Decides}
use Rattle.std.proofs.Common.{inl, inr, sym, ap₂, subst, ◌∙◌}
use Rattle.std.proofs.Math.Path.{refl, ap}
use native.Mathlib.Omega.{arith}
use Rattle.std.proofs.lemmas.Int.{by_lt_z, ints}
use Rattle.std.proofs.lemmas.Bool.{cases_Bool, both_ways}
use Rattle.halving.specs.Halvings.{halvings_of, all_single}
use Rattle.halving.proofs.Lowers.{halving_lowers, halvings_some}
use Rattle.interface.specs.declared.cut.Cut.{Cut}
use Rattle.interface.specs.declared.extent.Extent.{Extent}
use Rattle.interface.specs.declared.extent.Extent.TheVariants.{Void, Lone, Open}
use Rattle.interface.specs.declared.home.Home.{Home}
use Rattle.interface.specs.declared.point.Point.{Point}
use Rattle.interface.specs.Nodes.{opp, value}
use Rattle.interface.specs.Numbers.{half}
use Rattle.interface.specs.Points.{values_of}
use Rattle.interface.specs.Shapes.{one_if}
use Rattle.octagon_theory.specs.Limits.{void, limit}
use Rattle.octagon_theory.specs.Theorems.{Within}
use Rattle.octagon_theory.proofs.Entries.{by_node}
use Rattle.octagon_theory.proofs.Exact.{limits_exact, void_no_point}
use Rattle.octagon_theory.proofs.Passing.{settings_bounds}
use Rattle.octagon_theory.proofs.Theorems.{least_values_are_least, one_point_is_left, meets_push, meets_front, meets_last}
use Rattle.octagon.specs.declared.matrix.Octagon.{Octagon}
use Rattle.octagon.specs.Entries.{at}
use Rattle.octagon.specs.Octagons.{limit_at, holds_at, offer_of, cut_to, lower_of, upper_of}
use Rattle.octagon.specs.Ranges.{width_at, widths, extent_by, is_open, widest_at, middle_at}
use Rattle.octagon.specs.Taking.{OctagonOf, limit_is, cut_of}
use Rattle.octagon.specs.Holding.{holds_decides, holds_not, offer_says}
use Rattle.octagon.specs.Widths.{length_widths, getD_widths, single_says, open_says, even_is, width_is, narrower}
use Rattle.octagon.specs.Splitting.{Wide, wide, lower_fewer, upper_fewer, meets_lower, lower_met, meets_upper, upper_met, widths_are, open_is, lower_split, upper_split, lower_octagon, upper_octagon}

-- which extent tells what
void_not : Void ≢ Lone
void_not e = cc

void_not_open : Void ≢ Open
void_not_open e = cc

lone_not_open : Lone ≢ Open
lone_not_open e = cc

extent_void : (v a : Bool) → cond v Void (cond a Lone Open) ≡ Void → v ≡ true
extent_void true a e = refl
extent_void false true e = cc
extent_void false false e = cc

extent_lone : (v a : Bool) → cond v Void (cond a Lone Open) ≡ Lone → (v ≡ false) × (a ≡ true)
extent_lone true a e = absurd cc
extent_lone false true e = (refl, refl)
extent_lone false false e = absurd cc

extent_open : (v a : Bool) → cond v Void (cond a Lone Open) ≡ Open → (not v && not a) ≡ true
extent_open true a e = cc
extent_open false true e = cc
extent_open false false e = refl

extent_closed : (v a : Bool) → cond v Void (cond a Lone Open) ≢ Open → (not v && not a) ≡ false
extent_closed true a e = refl
extent_closed false true e = refl
extent_closed false false e = absurd (e refl)

abbrev pub extent_at : Octagon → Extent
extent_at s = extent_by s.void (at s.limits)

-- what each extent says of the octagon of a home and cuts
module _ (h : Home) (ts : List Cut) (s : Octagon) (O : OctagonOf h ts s) where
  pub is_void : extent_at s ≡ Void → void h ts ≡ true
  is_void e = sym O.same_void ∙ extent_void s.void (all_single (widths (at s.limits))) e

  pub record Lonely : Type 0 where
    pub sound : void h ts ≡ false
    pub level : (p : ℕ) → p < 2 * h.n → (limit h ts p p +ℤ limit h ts (opp p) (opp p)) ≡ pos 0

  pub is_lone : extent_at s ≡ Lone → Lonely
  is_lone e =
      let r = extent_lone s.void (all_single (widths (at s.limits))) e in
      let a : all_single (widths (limit h ts)) ≡ true = ap all_single (sym (widths_are h ts s O)) ∙ r.1 in
      record {
        sound = sym O.same_void ∙ r.0;
        level = by_node (λ p. (limit h ts p p +ℤ limit h ts (opp p) (opp p)) ≡ pos 0) h.n
            (λ k b. subst (λ q. (limit h ts (2 * k) (2 * k) +ℤ limit h ts q q) ≡ pos 0) (let z : 2 * k + 1 ≡ opp (2 * k) = omega arith in z) (both a k b))
            (λ k b. subst (λ q. (limit h ts (2 * k + 1) (2 * k + 1) +ℤ limit h ts q q) ≡ pos 0) (let z : 2 * k ≡ opp (2 * k + 1) = omega arith in z) (let z = both a k b in omega (arith, ints)));
      }
    where
      both : all_single (widths (limit h ts)) ≡ true → (k : ℕ) → k < h.n → (limit h ts (2 * k) (2 * k) +ℤ limit h ts (2 * k + 1) (2 * k + 1)) ≡ pos 0
      both a k b =
          let n = (settings_bounds h O.passes).1 in
          let w = single_says (limit h ts) a k (omega arith) in
          let d = width_is h O.passes ts k in
          let x = even_is h O.passes ts (2 * k) in
          let y = even_is h O.passes ts (2 * k + 1) in
          level_from (width_at (limit h ts) k) (limit h ts (2 * k) (2 * k)) (limit h ts (2 * k + 1) (2 * k + 1)) (half (limit h ts (2 * k) (2 * k))) (half (limit h ts (2 * k + 1) (2 * k + 1))) w d x y
        where
          level_from : (w : ℕ) (x y a b : ℤ) → w ≡ 0 → pos w ≡ (a -ℤ neg_ℤ b) → x ≡ (a +ℤ a) → y ≡ (b +ℤ b) → (x +ℤ y) ≡ pos 0
          level_from w x y a b e f i j = omega (arith, ints)

  pub is_opened : extent_at s ≡ Open → is_open (void h ts) (limit h ts) ≡ true
  is_opened e = sym (open_is h ts s O) ∙ extent_open s.void (all_single (widths (at s.limits))) e

  pub is_closed : extent_at s ≢ Open → is_open (void h ts) (limit h ts) ≡ false
  is_closed e = sym (open_is h ts s O) ∙ extent_closed s.void (all_single (widths (at s.limits))) e

  -- ---- the laws, each for the octagon of a home and cuts
  pub halvings_are : halvings_of (widths (at s.limits)) ≡ halvings_of (widths (limit h ts))
  halvings_are = ap halvings_of (widths_are h ts s O)

  pub void_none : extent_at s ≡ Void → (x : List ℤ) → holds_at s x ≡ false
  void_none e x = holds_not h ts s O x (λ w. void_no_point h ts (is_void e) x w)

  pub lone_one : extent_at s ≡ Lone → (x : List ℤ) × (holds_at s x ≡ true) × ((y : List ℤ) → holds_at s y ≡ true → y ≡ x)
  lone_one e =
      let l = is_lone e in
      let w = (least_values_are_least h ts l.sound).0 in
      (_, (holds_decides h ts s O _).1 w, λ y k. (one_point_is_left h ts l.sound l.level _ w).0 y ((holds_decides h ts s O y).0 k))

  pub above : (x : List ℤ) → holds_at s x ≡ true → (p q : ℕ) → p < 2 * s.n → q < 2 * s.n → (value x p +ℤ value x q) ≤ℤ limit_at s p q
  above x e p q a b =
      let w = (holds_decides h ts s O x).0 e in
      let n = O.same_n in
      subst (λ z. (value x p +ℤ value x q) ≤ℤ z) (sym (limit_is h ts s O p q)) (by w (omega arith) (omega arith) (cases_Bool (void h ts)))
    where
      by : Within h ts x → p < 2 * h.n → q < 2 * h.n → (void h ts ≡ true) ⊎ (void h ts ≡ false) → (value x p +ℤ value x q) ≤ℤ limit h ts p q
      by w c d (inl v) = absurd (void_no_point h ts v x w)
      by w c d (inr v) = (limits_exact h ts v p q c d).above x w

  pub lone_sum : extent_at s ≡ Lone → (x : List ℤ) → holds_at s x ≡ true → (p q : ℕ) → p < 2 * s.n → q < 2 * s.n → limit_at s p q ≡ value x p +ℤ value x q
  lone_sum e x k p q a b =
      let l = is_lone e in
      let n = O.same_n in
      limit_is h ts s O p q ∙ (one_point_is_left h ts l.sound l.level x ((holds_decides h ts s O x).0 k)).1 p q (omega arith) (omega arith)

  pub offered_held : (x : Point) → offer_of s ≡ Some x → holds_at s (values_of x) ≡ true
  offered_held x e =
      let r = offer_says h ts s O x e in
      (holds_decides h ts s O (values_of x)).1 (subst (Within h ts) (sym r.1) (least_values_are_least h ts r.0).0)

  pub cut_fewer : (t : Cut) → halvings_of (widths (at (cut_to s t.p t.q t.c).limits)) ≤ halvings_of (widths (at s.limits))
  cut_fewer t =
      let C = cut_of h ts s O t in
      let e : halvings_of (widths (at (cut_to s t.p t.q t.c).limits)) ≡ halvings_of (widths (limit h (ts ++ (t ∷ [])))) = ap halvings_of (widths_are h (ts ++ (t ∷ [])) (cut_to s t.p t.q t.c) C) in
      let f = halvings_are in
      let g = (halving_lowers (widths (limit h (ts ++ (t ∷ [])))) (widths (limit h ts)) (narrower h O.passes ts t)).0 in
      omega arith

  pub open_some : extent_at s ≡ Open → 1 ≤ halvings_of (widths (at s.limits))
  open_some e =
      let W = wide h O.passes ts (is_opened e) in
      let k = widest_at (limit h ts) in
      let r = W.room in
      let l = length_widths (limit h ts) in
      let g = getD_widths (limit h ts) k r in
      let p = (open_says (limit h ts) (single (is_opened e))).wide in
      let f = halvings_are in
      let z = halvings_some (widths (limit h ts)) k (omega arith) (omega arith) in
      omega arith
    where
      single : is_open (void h ts) (limit h ts) ≡ true → all_single (widths (limit h ts)) ≡ false
      single o = by (void h ts) (all_single (widths (limit h ts))) o
        where
          by : (v a : Bool) → (not v && not a) ≡ true → a ≡ false
          by true true o = absurd (both_ways false refl o)
          by true false o = refl
          by false true o = absurd (both_ways false refl o)
          by false false o = refl

  -- each point of an open octagon lies in exactly one part
  module _ (e : is_open (void h ts) (limit h ts) ≡ true) where
    lower_holds : (x : List ℤ) → Decides (holds_at (lower_of s) x) (Within h (ts ++ (lower_split h ts s O e ∷ [])) x)
    lower_holds = holds_decides h (ts ++ (lower_split h ts s O e ∷ [])) (lower_of s) (lower_octagon h ts s O e)

    upper_holds : (x : List ℤ) → Decides (holds_at (upper_of s) x) (Within h (ts ++ (upper_split h ts s O e ∷ [])) x)
    upper_holds = holds_decides h (ts ++ (upper_split h ts s O e ∷ [])) (upper_of s) (upper_octagon h ts s O e)

    lower_not : (x : List ℤ) → (Within h (ts ++ (lower_split h ts s O e ∷ [])) x → ⊥) → holds_at (lower_of s) x ≡ false
    lower_not = holds_not h (ts ++ (lower_split h ts s O e ∷ [])) (lower_of s) (lower_octagon h ts s O e)

    upper_not : (x : List ℤ) → (Within h (ts ++ (upper_split h ts s O e ∷ [])) x → ⊥) → holds_at (upper_of s) x ≡ false
    upper_not = holds_not h (ts ++ (upper_split h ts s O e ∷ [])) (upper_of s) (upper_octagon h ts s O e)

    abbrev k : ℕ
    k = widest_at (limit h ts)

    abbrev m : ℤ
    m = middle_at (limit h ts) (widest_at (limit h ts))

    abbrev W : Wide h O.passes ts k m
    W = wide h O.passes ts e

    counted : (x : List ℤ) (a b c : Bool) → holds_at (lower_of s) x ≡ a → holds_at (upper_of s) x ≡ b → holds_at s x ≡ c → one_if a + one_if b ≡ one_if c → one_if (holds_at (lower_of s) x) + one_if (holds_at (upper_of s) x) ≡ one_if (holds_at s x)
    counted x a b c i j l z = ap₂ (λ u v. one_if u + one_if v) i j ∙ z ∙ ap one_if (sym l)

    pub split_counts : (x : List ℤ) → one_if (holds_at (lower_of s) x) + one_if (holds_at (upper_of s) x) ≡ one_if (holds_at s x)
    unfolding lower_split upper_split
    split_counts x = by (cases_Bool (holds_at s x))
      where
        by : (holds_at s x ≡ true) ⊎ (holds_at s x ≡ false) → one_if (holds_at (lower_of s) x) + one_if (holds_at (upper_of s) x) ≡ one_if (holds_at s x)
        by (inr f) = counted x false false false (lower_not x (λ w. both_ways (holds_at s x) f ((holds_decides h ts s O x).1 (w.0, meets_front x ts (lower_split h ts s O e) w.1)))) (upper_not x (λ w. both_ways (holds_at s x) f ((holds_decides h ts s O x).1 (w.0, meets_front x ts (upper_split h ts s O e) w.1)))) f refl
        by (inl f) =
            let w = (holds_decides h ts s O x).0 f in
            by_lt_z m (value x (2 * k))
            (λ a. counted x false true true
            (lower_not x (λ u. let c = lower_met h O.passes ts k m W x w.0.0 (meets_last x ts (lower_split h ts s O e) u.1) in omega (arith, ints)))
            ((upper_holds x).1 (w.0, meets_push x ts (upper_split h ts s O e) w.1 (meets_upper h O.passes ts k m W x (omega (arith, ints)))))
            f refl)
            (λ a. counted x true false true
            ((lower_holds x).1 (w.0, meets_push x ts (lower_split h ts s O e) w.1 (meets_lower h O.passes ts k m W x a)))
            (upper_not x (λ u. let c = upper_met h O.passes ts k m W x w.0.0 (meets_last x ts (upper_split h ts s O e) u.1) in omega (arith, ints)))
            f refl)

    pub lower_lowers : halvings_of (widths (at (lower_of s).limits)) < halvings_of (widths (at s.limits))
    unfolding lower_split
    lower_lowers =
        let a : halvings_of (widths (at (lower_of s).limits)) ≡ halvings_of (widths (limit h (ts ++ (lower_split h ts s O e ∷ [])))) = ap halvings_of (widths_are h (ts ++ (lower_split h ts s O e ∷ [])) (lower_of s) (lower_octagon h ts s O e)) in
        let b = halvings_are in
        let c = lower_fewer h O.passes ts k m W in
        omega arith

    pub upper_lowers : halvings_of (widths (at (upper_of s).limits)) < halvings_of (widths (at s.limits))
    unfolding upper_split
    upper_lowers =
        let a : halvings_of (widths (at (upper_of s).limits)) ≡ halvings_of (widths (limit h (ts ++ (upper_split h ts s O e ∷ [])))) = ap halvings_of (widths_are h (ts ++ (upper_split h ts s O e ∷ [])) (upper_of s) (upper_octagon h ts s O e)) in
        let b = halvings_are in
        let c = upper_fewer h O.passes ts k m W in
        omega arith
