-- The step rule keeps its laws: the values that leave r lie m apart. Assumes nothing.
use Rattle.std.specs.Prelude.{◌≡◌, ℕ, ◌+◌, ◌*◌, ◌<◌, ◌≤◌, Bool, true, false, cond, List, ℤ, pos, negsuc, ◌+ℤ◌, ◌-ℤ◌, ◌*ℤ◌, neg_ℤ, ◌≤ℤ◌, ◌<ℤ◌, Some, None, Ok, ◌==◌, ◌≢◌, slice_index_or, refl}
use Rattle.std.proofs.Common.{ap, ap₂, sym, ◌∙◌, subst, arith}
use Rattle.std.proofs.lemmas.Int.{ints}
use Rattle.std.specs.Int.{int_div_euclid, int_rem_euclid, w32}
use Rattle.std.proofs.lemmas.Bool.{leb-false, lt-ltb, cond-true, both_ways, and_parts}
use Rattle.interface.specs.declared.cut.Cut.{Cut}
use Rattle.interface.specs.declared.reading.Reading.{Reading}
use Rattle.interface.specs.Cuts.{Meets}
use Rattle.interface.specs.Readings.{low_in, high_in, Within, SumsOf}
use Rattle.interface.specs.Rules.{RuleLaws}
use Rattle.interface.specs.Guards.{guarded, Clear, CoreLaws}
use Rattle.interface.specs.GuardsLemmas.{clear_ok, guarded_laws}
use Rattle.interface.proofs.Values.{value_even, value_odd}
use Rattle.wire.specs.Frames.{FrameLaws, by_table, FitAll}
use Rattle.wire.specs.Codecs.{by_table_laws, fit_byte, fit_signed}
use Rattle.rules.specs.declared.step.StepRule.{StepRule}
use Rattle.rule_base.specs.Bounds.{equal, bounded}
use Rattle.rules.specs.Steps.{rest, step_codec, step_core, step_grounds, step_meets, leaves, last_up_to, first_from, Divides, LastUpTo, FirstFrom, none_leaves, one_leaves}
use Rattle.rule_base.proofs.CutsMet.{bound_met}
use Rattle.rule_base.proofs.Integers.{times_neg, quotient_rest, multiple_most, rest_one}
use Rattle.rule_base.proofs.Ranges.{range_from, range_to, range_low, range_high}

rest_is : (k : ℕ) → 0 < k → (z : ℤ) → rest (pos k) z ≡ int_rem_euclid z (pos k)
unfolding rest
rest_is k h z = cond-true _ _ _ (lt-ltb 0 k h)

-- z less its rest is a multiple of m
multiple : (m : ℤ) → pos 0 <ℤ m → (z : ℤ) → (q : ℤ) × (z ≡ (m *ℤ q) +ℤ rest m z)
multiple (pos k) h z = let p : 0 < k = omega (arith, ints) in (int_div_euclid z (pos k), (quotient_rest k p z).0 ∙ ap (λ y. (pos k *ℤ int_div_euclid z (pos k)) +ℤ y) (sym (rest_is k p z)))
multiple (negsuc k) h z = absurd (omega (arith, ints))

rest_from : (m : ℤ) → pos 0 <ℤ m → (z : ℤ) → pos 0 ≤ℤ rest m z
rest_from (pos k) h z = let p : 0 < k = omega (arith, ints) in rw (rest_is k p z) (quotient_rest k p z).1
rest_from (negsuc k) h z = absurd (omega (arith, ints))

most : (m : ℤ) → pos 0 <ℤ m → (q z : ℤ) → (m *ℤ q) ≤ℤ z → (m *ℤ q) ≤ℤ (z -ℤ rest m z)
most (pos k) h q z l = let p : 0 < k = omega (arith, ints) in rw (rest_is k p z) (multiple_most k p q z l)
most (negsuc k) h q z l = absurd (omega (arith, ints))

one_rest : (m : ℤ) → pos 0 <ℤ m → (z q r : ℤ) → z ≡ (m *ℤ q) +ℤ r → pos 0 ≤ℤ r → r <ℤ m → rest m z ≡ r
one_rest (pos k) h z q r e low high = let p : 0 < k = omega (arith, ints) in rest_is k p z ∙ rest_one k p z q r e low high
one_rest (negsuc k) h z q r e low high = absurd (omega (arith, ints))

left : (s : StepRule) (z : ℤ) → leaves s z ≡ true → rest s.m z ≡ s.r
left s z e = grind (arith, ints)

leave : (s : StepRule) (z : ℤ) → rest s.m z ≡ s.r → leaves s z ≡ true
leave s z e = grind (arith, ints)

module _ (s : StepRule) (h : pos 0 <ℤ s.m) where
  pub last_most : (v z : ℤ) → leaves s v ≡ true → v ≤ℤ z → v ≤ℤ last_up_to s z
  last_most v z e l =
      let q = multiple s.m h v in
      let r = left s v e in
      let up = most s.m h q.0 (z -ℤ s.r) (omega (arith, ints, q.1, r)) in
      omega (arith, ints, q.1, r, up)

  pub first_least : (v z : ℤ) → leaves s v ≡ true → z ≤ℤ v → first_from s z ≤ℤ v
  first_least v z e l =
      let q = multiple s.m h v in
      let r = left s v e in
      let back = times_neg s.m q.0 in
      let up = most s.m h (neg_ℤ q.0) (s.r -ℤ z) (omega (arith, ints, q.1, r, back)) in
      omega (arith, ints, q.1, r, up, back)

  last_rest : (z : ℤ) → last_up_to s z ≤ℤ z
  last_rest z = omega (arith, ints, rest_from s.m h (z -ℤ s.r))

  first_rest : (z : ℤ) → z ≤ℤ first_from s z
  first_rest z = omega (arith, ints, rest_from s.m h (s.r -ℤ z))

  module _ (low : pos 0 ≤ℤ s.r) (high : s.r <ℤ s.m) where
    last_leaves : (z : ℤ) → leaves s (last_up_to s z) ≡ true
    last_leaves z =
        let q = multiple s.m h (z -ℤ s.r) in
        leave s _ (one_rest s.m h (last_up_to s z) q.0 s.r (omega (arith, ints, q.1)) low high)

    first_leaves : (z : ℤ) → leaves s (first_from s z) ≡ true
    first_leaves z =
        let q = multiple s.m h (s.r -ℤ z) in
        let back = times_neg s.m q.0 in
        leave s _ (one_rest s.m h (first_from s z) (neg_ℤ q.0) s.r (omega (arith, ints, q.1, back)) low high)

    is_last : (z : ℤ) → LastUpTo s z (last_up_to s z)
    is_last z = record { inside = last_rest z; fits = last_leaves z; most = λ w l e. last_most w z e l }

    is_first : (z : ℤ) → FirstFrom s z (first_from s z)
    is_first z = record { inside = first_rest z; fits = first_leaves z; least = λ w l e. first_least w z e l }

    -- what cannot be judged on one value does not exist
    one_known : (v : ℤ) → none_leaves s v v ≡ false → one_leaves s v v ≢ false
    one_known v e f =
        let same : last_up_to s v ≡ v = omega (arith, ints, last_rest v, e) in
        both_ways _ f (grind (arith, ints, last_leaves v, ap (leaves s) same))

pub last_at : (s : StepRule) (z v : ℤ) → v ≡ last_up_to s z → Divides s → LastUpTo s z v
last_at s z v e d = subst (LastUpTo s z) (sym e) (is_last s (omega (arith, ints)) d.0 d.1 z)

pub first_at : (s : StepRule) (z v : ℤ) → v ≡ first_from s z → Divides s → FirstFrom s z v
first_at s z v e d = subst (FirstFrom s z) (sym e) (is_first s (omega (arith, ints)) d.0 d.1 z)

none_leave : (s : StepRule) → pos 0 <ℤ s.m → (low high v : ℤ) → low ≤ℤ v → v ≤ℤ high → none_leaves s low high ≡ true → leaves s v ≡ false
none_leave s h low high v l u e = by (leaves s v) refl
  where
    by : (b : Bool) → leaves s v ≡ b → b ≡ false
    by true f = absurd (omega (arith, ints, last_most s h v high f u, e))
    by false f = refl

one_leave : (s : StepRule) (low high v : ℤ) → low ≤ℤ v → v ≤ℤ high → one_leaves s low high ≡ true → leaves s v ≡ true
one_leave s low high v l u e =
    let parts = and_parts (equal low high) (leaves s low) e in
    let same : low ≡ v = grind (arith, ints, parts.0) in
    sym (ap (leaves s) same) ∙ parts.1

module _ (s : StepRule) (n : ℕ) (ok : Clear (step_grounds n s)) where
  on : s.a < n
  on = leb-false _ _ ok.0

  divides : pos 0 <ℤ s.m
  divides = let e = ok.1.0 in grind (arith, ints)

  rest_low : pos 0 ≤ℤ s.r
  rest_low = let e = ok.1.1.0 in grind (arith, ints)

  rest_high : s.r <ℤ s.m
  rest_high = let e = ok.1.1.0 in grind (arith, ints)

module _ (s : StepRule) (g : Reading) (ok : Clear (step_grounds g.n s)) (x : List ℤ) where
  known : SumsOf g x → none_leaves s (low_in g s.a) (high_in g s.a) ≡ false → one_leaves s (low_in g s.a) (high_in g s.a) ≢ false
  known sums e f =
      let low = range_low g x s.a (on s _ ok) sums in
      let high = range_high g x s.a (on s _ ok) sums in
      one_known s (divides s _ ok) (rest_low s _ ok) (rest_high s _ ok) (slice_index_or x s.a (pos 0)) (sym (ap₂ (none_leaves s) low high) ∙ e) (sym (ap₂ (one_leaves s) low high) ∙ f)

  cut_met : Within g x → step_meets s x ≡ true → (zeroth first : Bool) (t : Cut) → cond zeroth (bounded (2 * s.a) (last_up_to s (high_in g s.a))) (cond first (bounded (2 * s.a + 1) (neg_ℤ (first_from s (low_in g s.a)))) None) ≡ Some t → Meets x t
  cut_met w m true first t e =
      let to = last_most s (divides s _ ok) _ _ m (range_to g x s.a (on s _ ok) w) in
      bound_met (2 * s.a) (last_up_to s (high_in g s.a)) t e x (omega (arith, ints, to, value_even x s.a))
  cut_met w m false true t e =
      let from = first_least s (divides s _ ok) _ _ m (range_from g x s.a (on s _ ok) w) in
      bound_met (2 * s.a + 1) (neg_ℤ (first_from s (low_in g s.a))) t e x (omega (arith, ints, from, value_odd x s.a))
  cut_met w m false false t e = absurd cc

pub step_core_laws : CoreLaws step_core
step_core_laws = record {
  none_meets = λ s g ok e x w. none_leave s (divides s _ ok) _ _ _ (range_from g x s.a (on s _ ok) w) (range_to g x s.a (on s _ ok) w) e;
  all_meet = λ s g ok e x w. one_leave s _ _ _ (range_from g x s.a (on s _ ok) w) (range_to g x s.a (on s _ ok) w) e;
  known = known;
  standing_met = λ n s ok t e x l m. absurd cc;
  proposed_met = λ s g ok i t e x w m. cut_met s g ok x w m (i == 0) (i == 1) t e;
}

pub step_laws : RuleLaws (guarded step_core)
step_laws = guarded_laws step_core step_core_laws

fit : (n : ℕ) → 0 < n → n ≤ 8 → (r : StepRule) → step_codec.check n r ≡ Ok tt → FitAll step_codec.table (step_codec.fields r)
fit n some few r ok =
    let h = clear_ok (step_grounds n r) ok in
    let a : r.a < n = leb-false _ _ h.0 in
    let e = h.1.0 in
    let f = h.1.1.0 in
    let m : (pos 2 ≤ℤ r.m) × (r.m ≤ℤ pos 1000000) = grind (arith, ints) in
    let low = rest_low r n h in
    let high = rest_high r n h in
    (fit_byte 1 r.a (omega arith), (fit_signed 2 w32 r.m (omega (arith, ints)), (fit_signed 6 w32 r.r (omega (arith, ints)), tt)))

pub step_trips : FrameLaws (by_table step_codec)
step_trips = by_table_laws step_codec (record {
  code_small = omega arith;
  laid = (refl, (refl, (refl, tt)));
  from_fields = λ r. refl;
  fields_from = λ bs. refl;
  fit = fit;
})
