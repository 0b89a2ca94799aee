-- The apart rule keeps its laws: the difference lies from the least to the greatest gap. Assumes nothing.
use Rattle.std.specs.Prelude.{◌≡◌, ℕ, ◌+◌, ◌*◌, ◌<◌, ◌≤◌, Bool, true, false, cond, List, ℤ, pos, ◌-ℤ◌, neg_ℤ, ◌≤ℤ◌, Some, None, Ok, ◌==◌, ◌≢◌, int_lt, slice_index_or, refl}
use Rattle.std.proofs.Common.{arith}
use Rattle.std.specs.Int.{w32}
use Rattle.std.proofs.lemmas.Int.{ints}
use Rattle.std.proofs.lemmas.Bool.{leb-false}
use Rattle.interface.specs.declared.cut.Cut.{Cut}
use Rattle.interface.specs.declared.reading.Reading.{Reading}
use Rattle.interface.specs.Cuts.{Meets}
use Rattle.interface.specs.Readings.{Within, SumsOf}
use Rattle.interface.specs.Rules.{RuleLaws}
use Rattle.interface.specs.Guards.{guarded, Clear, CoreLaws}
use Rattle.interface.specs.GuardsLemmas.{clear_ok, guarded_laws}
use Rattle.interface.proofs.Values.{value_even, value_odd}
use Rattle.wire.specs.Frames.{FrameLaws, by_table, FitAll}
use Rattle.wire.specs.Codecs.{by_table_laws, fit_byte, fit_signed}
use Rattle.rules.specs.declared.apart.ApartRule.{ApartRule}
use Rattle.rules.specs.Aparts.{apart_codec, apart_core, apart_grounds, apart_cut, least_gap, greatest_gap, far, all_near, all_far}
use Rattle.rule_base.specs.Bounds.{cut_at}
use Rattle.rule_base.proofs.CutsMet.{cut_met}

near_not_far : (d low high z : ℤ) → low ≤ℤ z → z ≤ℤ high → all_near d low high ≡ true → far d z ≡ false
near_not_far d low high z h k e = grind (arith, ints)

far_far : (d low high z : ℤ) → low ≤ℤ z → z ≤ℤ high → all_far d low high ≡ true → far d z ≡ true
far_far d low high z h k e = grind (arith, ints)

near_or_far : (d z : ℤ) → all_near d z z ≡ false → all_far d z z ≢ false
near_or_far d z e f = grind (arith, ints)

abbrev gap : ApartRule → List ℤ → ℤ
gap r x = slice_index_or x r.a (pos 0) -ℤ slice_index_or x r.b (pos 0)

module _ (r : ApartRule) (g : Reading) (ok : Clear (apart_grounds g.n r)) (x : List ℤ) where
  a_on : r.a < g.n
  a_on = leb-false _ _ ok.0

  b_on : r.b < g.n
  b_on = leb-false _ _ ok.1.0

  gap_from : Within g x → least_gap r g ≤ℤ gap r x
  gap_from w =
      let kept = w.1 (2 * r.a + 1) (2 * r.b) (omega (arith, a_on)) (omega (arith, b_on)) in
      omega (arith, ints, kept, value_odd x r.a, value_even x r.b)

  gap_to : Within g x → gap r x ≤ℤ greatest_gap r g
  gap_to w =
      let kept = w.1 (2 * r.a) (2 * r.b + 1) (omega (arith, a_on)) (omega (arith, b_on)) in
      omega (arith, ints, kept, value_even x r.a, value_odd x r.b)

  gap_least : SumsOf g x → least_gap r g ≡ gap r x
  gap_least s =
      let same = s.1 (2 * r.a + 1) (2 * r.b) (omega (arith, a_on)) (omega (arith, b_on)) in
      omega (arith, ints, same, value_odd x r.a, value_even x r.b)

  gap_greatest : SumsOf g x → greatest_gap r g ≡ gap r x
  gap_greatest s =
      let same = s.1 (2 * r.a) (2 * r.b + 1) (omega (arith, a_on)) (omega (arith, b_on)) in
      omega (arith, ints, same, value_even x r.a, value_odd x r.b)

  known : SumsOf g x → all_near r.d (least_gap r g) (greatest_gap r g) ≡ false → all_far r.d (least_gap r g) (greatest_gap r g) ≢ false
  known s e f = near_or_far r.d (gap r x) (simp (gap_least s, gap_greatest s) at e) (simp (gap_least s, gap_greatest s) at f)

  -- the side that the difference must lie on, as a cut
  side_met : Within g x → far r.d (gap r x) ≡ true → (low high : Bool) → int_lt (greatest_gap r g) r.d ≡ low → int_lt (neg_ℤ r.d) (least_gap r g) ≡ high → (t : Cut) → cond low (cut_at (2 * r.a) (2 * r.b + 1) (neg_ℤ r.d)) (cond high (cut_at (2 * r.a + 1) (2 * r.b) (neg_ℤ r.d)) None) ≡ Some t → Meets x t
  side_met w m true high e f t s =
      let to = gap_to w in
      cut_met _ _ _ t s x (λ _ _. grind (arith, ints, value_even x r.a, value_odd x r.b))
  side_met w m false true e f t s =
      let from = gap_from w in
      cut_met _ _ _ t s x (λ _ _. grind (arith, ints, value_odd x r.a, value_even x r.b))
  side_met w m false false e f t s = absurd cc

  proposed_met : Within g x → far r.d (gap r x) ≡ true → (first : Bool) (t : Cut) → cond first (apart_cut r g) None ≡ Some t → Meets x t
  proposed_met w m true t s = side_met w m _ _ refl refl t s
  proposed_met w m false t s = absurd cc

pub apart_core_laws : CoreLaws apart_core
apart_core_laws = record {
  none_meets = λ r g ok e x w. near_not_far r.d _ _ _ (gap_from r g ok x w) (gap_to r g ok x w) e;
  all_meet = λ r g ok e x w. far_far r.d _ _ _ (gap_from r g ok x w) (gap_to r g ok x w) e;
  known = λ r g ok x s e f. known r g ok x s e f;
  standing_met = λ n r ok t e x l m. absurd cc;
  proposed_met = λ r g ok i t e x w m. proposed_met r g ok x w m (i == 0) t e;
}

pub apart_laws : RuleLaws (guarded apart_core)
apart_laws = guarded_laws apart_core apart_core_laws

fit : (n : ℕ) → 0 < n → n ≤ 8 → (r : ApartRule) → apart_codec.check n r ≡ Ok tt → FitAll apart_codec.table (apart_codec.fields r)
fit n some few r ok =
    let h = clear_ok (apart_grounds n r) ok in
    let a : r.a < n = leb-false _ _ h.0 in
    let b : r.b < n = leb-false _ _ h.1.0 in
    let d = h.1.1.1.0 in
    (fit_byte 1 r.a (omega arith), (fit_byte 2 r.b (omega arith), (fit_signed 3 w32 r.d (grind (arith, ints)), tt)))

pub apart_trips : FrameLaws (by_table apart_codec)
apart_trips = by_table_laws apart_codec (record {
  code_small = omega arith;
  laid = (refl, (refl, (refl, tt)));
  from_fields = λ r. refl;
  fields_from = λ bs. refl;
  fit = fit;
})
