-- The sum rule keeps its laws: each term lies between its least and its greatest value. Assumes nothing.
use Rattle.std.specs.Prelude.{◌≡◌, ℕ, suc, ◌+◌, ◌*◌, ◌<◌, ◌≤◌, Bool, true, false, cond, not, List, ℤ, pos, negsuc, ◌+ℤ◌, neg_ℤ, ◌≤ℤ◌, Some, None, Ok, ◌==◌, ◌≢◌, int_le, int_lt, slice_index_or, unsigned_abs, refl}
use Rattle.std.proofs.Common.{ap, arith}
use Rattle.std.proofs.lemmas.Int.{ints}
use Rattle.std.specs.Int.{int_div_euclid, w8, w32}
use Rattle.std.proofs.lemmas.Bool.{leb-false, cond-false, le-ltb, not-false, or_parts, and_parts}
use Rattle.interface.specs.declared.cut.Cut.{Cut}
use Rattle.interface.specs.declared.reading.Reading.{Reading}
use Rattle.interface.specs.Cuts.{Meets}
use Rattle.interface.specs.Nodes.{value}
use Rattle.interface.specs.Numbers.{within}
use Rattle.interface.specs.Readings.{Within, SumsOf}
use Rattle.interface.specs.Rules.{RuleLaws}
use Rattle.interface.specs.Guards.{guarded, Clear, CoreLaws}
use Rattle.interface.specs.GuardsLemmas.{clear_ok, guarded_laws}
use Rattle.interface.proofs.Values.{value_even, value_odd}
use Rattle.wire.specs.Frames.{FrameLaws, by_table, FitAll}
use Rattle.wire.specs.Codecs.{by_table_laws, fit_byte, fit_signed}
use Rattle.sum_rule.specs.declared.sum.SumRule.{SumRule}
use Rattle.sum_rule.specs.declared.sum.Term.{Term}
use Rattle.rule_base.specs.Bounds.{equal, bounded}
use Rattle.sum_rule.specs.Sums.{times, wrong_number, sum_codec, sum_core, sum_grounds, sum_meets, sum_none, sum_all, term_cut, left_for, is_empty, term_at, least_of, greatest_of}
use Rattle.rule_base.proofs.CutsMet.{bound_met}
use Rattle.rule_base.proofs.Integers.{times_neg, floor_most, least_at, greatest_at}
use Rattle.rule_base.proofs.Ranges.{range_from, range_to, range_low, range_high}

end_same : (b : Bool) (y z v : ℤ) → y ≡ v → z ≡ v → cond b y z ≡ v
end_same true y z v e f = e
end_same false y z v e f = f

module _ (g : Reading) (x : List ℤ) (u : Term) (on : u.setting < g.n) where
  term_from : Within g x → least_of g u ≤ℤ term_at x u
  unfolding times
  term_from w = least_at u.coefficient _ _ _ (range_from g x u.setting on w) (range_to g x u.setting on w)

  term_to : Within g x → term_at x u ≤ℤ greatest_of g u
  unfolding times
  term_to w = greatest_at u.coefficient _ _ _ (range_from g x u.setting on w) (range_to g x u.setting on w)

  term_least : SumsOf g x → least_of g u ≡ term_at x u
  term_least s = ap (times u.coefficient) (end_same _ _ _ _ (range_high g x u.setting on s) (range_low g x u.setting on s))

  term_greatest : SumsOf g x → greatest_of g u ≡ term_at x u
  term_greatest s = ap (times u.coefficient) (end_same _ _ _ _ (range_low g x u.setting on s) (range_high g x u.setting on s))

-- a term that is at most c bounds its setting, or the negative, by the quotient
node_bound : (x : List ℤ) (a : ℕ) (k c : ℤ) → equal k (pos 0) ≡ false → times k (slice_index_or x a (pos 0)) ≤ℤ c → value x (cond (int_lt k (pos 0)) (2 * a + 1) (2 * a)) ≤ℤ int_div_euclid c (pos (unsigned_abs k))
unfolding times
node_bound x a (pos k) c e h =
    let some : 0 < k = grind (arith, ints) in
    rw (cond-false (int_lt (pos k) (pos 0)) (2 * a + 1) (2 * a) (le-ltb k 0 (omega arith)), value_even x a) (floor_most k some _ c h)
node_bound x a (negsuc k) c e h =
    rw (value_odd x a) (floor_most (suc k) (omega arith) (neg_ℤ (slice_index_or x a (pos 0))) c (omega (arith, ints, times_neg (pos (suc k)) (slice_index_or x a (pos 0)))))

module _ (r : SumRule) (g : Reading) (ok : Clear (sum_grounds g.n r)) (x : List ℤ) where
  first_on : r.first.setting < g.n
  first_on = leb-false _ _ ok.0

  second_on : r.second.setting < g.n
  second_on = leb-false _ _ ok.1.0

  third_on : r.third.setting < g.n
  third_on = leb-false _ _ ok.1.1.0

  none_meets : sum_none r g ≡ true → Within g x → sum_meets r x ≡ false
  none_meets e w =
      let a = term_from g x r.first first_on w in
      let b = term_from g x r.second second_on w in
      let c = term_from g x r.third third_on w in
      grind (arith, ints)

  all_meet : sum_all r g ≡ true → Within g x → sum_meets r x ≡ true
  all_meet e w =
      let a = term_to g x r.first first_on w in
      let b = term_to g x r.second second_on w in
      let c = term_to g x r.third third_on w in
      grind (arith, ints)

  known : SumsOf g x → sum_none r g ≡ false → sum_all r g ≢ false
  known s e f =
      let a = term_least g x r.first first_on s in
      let b = term_least g x r.second second_on s in
      let c = term_least g x r.third third_on s in
      let d = term_greatest g x r.first first_on s in
      let h = term_greatest g x r.second second_on s in
      let i = term_greatest g x r.third third_on s in
      omega (arith, ints)

  term_met : (u v w : Term) → v.setting < g.n → w.setting < g.n → Within g x → ((term_at x u +ℤ term_at x v) +ℤ term_at x w) ≤ℤ r.t → (t : Cut) → term_cut r g u v w ≡ Some t → Meets x t
  term_met u v w on-v on-w h m t e = by (is_empty u) refl e
    where
      a : least_of g v ≤ℤ term_at x v
      a = term_from g x v on-v h

      b : least_of g w ≤ℤ term_at x w
      b = term_from g x w on-w h

      room : term_at x u ≤ℤ left_for r g v w
      room = omega (arith, ints, a, b)

      by : (empty : Bool) → is_empty u ≡ empty → cond empty None (bounded (cond (int_lt u.coefficient (pos 0)) (2 * u.setting + 1) (2 * u.setting)) (int_div_euclid (left_for r g v w) (pos (unsigned_abs u.coefficient)))) ≡ Some t → Meets x t
      by true f s = absurd cc
      by false f s = bound_met _ _ t s x (node_bound x u.setting u.coefficient (left_for r g v w) f room)

  cut_met : Within g x → sum_meets r x ≡ true → (zeroth first second : Bool) (t : Cut) → cond zeroth (term_cut r g r.first r.second r.third) (cond first (term_cut r g r.second r.first r.third) (cond second (term_cut r g r.third r.first r.second) None)) ≡ Some t → Meets x t
  cut_met w m true first second t e = term_met r.first r.second r.third second_on third_on w (omega (arith, ints)) t e
  cut_met w m false true second t e = term_met r.second r.first r.third first_on third_on w (omega (arith, ints)) t e
  cut_met w m false false true t e = term_met r.third r.first r.second first_on second_on w (omega (arith, ints)) t e
  cut_met w m false false false t e = absurd cc

pub sum_core_laws : CoreLaws sum_core
sum_core_laws = record {
  none_meets = λ r g ok e x w. none_meets r g ok x e w;
  all_meet = λ r g ok e x w. all_meet r g ok x e w;
  known = known;
  standing_met = λ n r ok t e x l m. absurd cc;
  proposed_met = λ r g ok i t e x w m. cut_met r g ok x w m (i == 0) (i == 1) (i == 2) t e;
}

pub sum_laws : RuleLaws (guarded sum_core)
sum_laws = guarded_laws sum_core sum_core_laws

right : (u : Term) → wrong_number u ≡ false → (neg_ℤ (pos 100) ≤ℤ u.coefficient) × (u.coefficient ≤ℤ pos 100)
right u e =
    let w = not-false _ (or_parts (not (within 100 u.coefficient)) _ e).0 in
    let p = and_parts (int_le (neg_ℤ (pos 100)) u.coefficient) _ w in
    (omega (arith, ints, p.0), omega (arith, ints, p.1))

fit : (n : ℕ) → 0 < n → n ≤ 8 → (r : SumRule) → sum_codec.check n r ≡ Ok tt → FitAll sum_codec.table (sum_codec.fields r)
fit n some few r ok =
    let h = clear_ok (sum_grounds n r) ok in
    let a : r.first.setting < n = leb-false _ _ h.0 in
    let b : r.second.setting < n = leb-false _ _ h.1.0 in
    let c : r.third.setting < n = leb-false _ _ h.1.1.0 in
    let numbers = h.1.1.1.1.1.1 in
    let i = right r.first numbers.0 in
    let j = right r.second numbers.1.0 in
    let k = right r.third numbers.1.1.0 in
    let t = and_parts (int_le (neg_ℤ (pos 300000000)) r.t) _ (not-false _ numbers.1.1.1.0) in (
      fit_byte 1 _ (omega arith),
      (
        fit_signed 2 w8 _ (omega (arith, ints, i.0, i.1)),
        (
          fit_byte 3 _ (omega arith),
          (
            fit_signed 4 w8 _ (omega (arith, ints, j.0, j.1)),
            (
              fit_byte 5 _ (omega arith),
              (
                fit_signed 6 w8 _ (omega (arith, ints, k.0, k.1)),
                (fit_signed 7 w32 _ (omega (arith, ints, t.0, t.1)), tt),
              ),
            ),
          ),
        ),
      ),
    )

pub sum_trips : FrameLaws (by_table sum_codec)
sum_trips = by_table_laws sum_codec (record {
  code_small = omega arith;
  laid = (refl, (refl, (refl, (refl, (refl, (refl, (refl, tt)))))));
  from_fields = λ r. refl;
  fields_from = λ bs. refl;
  fit = fit;
})
