-- The pair rule keeps its laws: the limits bound the sum from above, those of the opposite nodes from below. Assumes nothing.
use Rattle.std.specs.Prelude.{◌≡◌, ℕ, ◌*◌, ◌<◌, ◌≤◌, Bool, true, false, List, ℤ, Some, None, Ok, ◌==◌, ◌≢◌, refl}
use Rattle.std.proofs.Common.{arith}
use Rattle.std.specs.Int.{w32}
use Rattle.std.proofs.lemmas.Int.{ints}
use Rattle.std.proofs.lemmas.Bool.{leb-false}
use Rattle.interface.specs.declared.cut.Cut.{Cut}
use Rattle.interface.specs.declared.reading.Reading.{Reading}
use Rattle.interface.specs.Cuts.{Meets}
use Rattle.interface.specs.Nodes.{opp}
use Rattle.interface.specs.Readings.{Within, SumsOf}
use Rattle.interface.specs.Rules.{RuleLaws}
use Rattle.interface.specs.Guards.{guarded, Clear, CoreLaws}
use Rattle.interface.specs.GuardsLemmas.{clear_ok, guarded_laws}
use Rattle.interface.proofs.Values.{value_opp, opp_below}
use Rattle.wire.specs.Frames.{FrameLaws, by_table, FitAll}
use Rattle.wire.specs.Codecs.{by_table_laws, fit_byte, fit_signed}
use Rattle.rules.specs.declared.pair.PairRule.{PairRule}
use Rattle.rules.specs.Pairs.{pair_codec, pair_core, pair_grounds, pair_none, pair_all, pair_meets, pair_cut}
use Rattle.rule_base.proofs.CutsMet.{cut_met}

none_meets : (r : PairRule) (g : Reading) → Clear (pair_grounds g.n r) → pair_none r g ≡ true → (x : List ℤ) → Within g x → pair_meets r x ≡ false
none_meets r g ok e x w =
    let p : r.p < 2 * g.n = leb-false _ _ ok.0 in
    let q : r.q < 2 * g.n = leb-false _ _ ok.1.0 in
    let kept = w.1 (opp r.p) (opp r.q) (opp_below _ _ p) (opp_below _ _ q) in
    grind (arith, ints, kept, value_opp x r.p, value_opp x r.q)

all_meet : (r : PairRule) (g : Reading) → Clear (pair_grounds g.n r) → pair_all r g ≡ true → (x : List ℤ) → Within g x → pair_meets r x ≡ true
all_meet r g ok e x w =
    let kept = w.1 r.p r.q (leb-false _ _ ok.0) (leb-false _ _ ok.1.0) in
    grind (arith, ints, kept)

known : (r : PairRule) (g : Reading) → Clear (pair_grounds g.n r) → (x : List ℤ) → SumsOf g x → pair_none r g ≡ false → pair_all r g ≢ false
known r g ok x s o a =
    let p : r.p < 2 * g.n = leb-false _ _ ok.0 in
    let q : r.q < 2 * g.n = leb-false _ _ ok.1.0 in
    let above = s.1 r.p r.q p q in
    let below = s.1 (opp r.p) (opp r.q) (opp_below _ _ p) (opp_below _ _ q) in
    omega (arith, ints, above, below, value_opp x r.p, value_opp x r.q)

pair_met : (r : PairRule) (t : Cut) → pair_cut r ≡ Some t → (x : List ℤ) → pair_meets r x ≡ true → Meets x t
pair_met r t e x m = cut_met r.p r.q r.c t e x (λ _ _. omega (arith, ints))

proposed_met : (r : PairRule) (g : Reading) (first : Bool) (t : Cut) → mathlib.Core.Bool.cond first (pair_cut r) None ≡ Some t → (x : List ℤ) → pair_meets r x ≡ true → Meets x t
proposed_met r g true t e x m = pair_met r t e x m
proposed_met r g false t e x m = absurd cc

pub pair_core_laws : CoreLaws pair_core
pair_core_laws = record {
  none_meets = none_meets;
  all_meet = all_meet;
  known = known;
  standing_met = λ n r ok t e x l m. pair_met r t e x m;
  proposed_met = λ r g ok i t e x w m. proposed_met r g (i == 0) t e x m;
}

pub pair_laws : RuleLaws (guarded pair_core)
pair_laws = guarded_laws pair_core pair_core_laws

fit : (n : ℕ) → 0 < n → n ≤ 8 → (r : PairRule) → pair_codec.check n r ≡ Ok tt → FitAll pair_codec.table (pair_codec.fields r)
fit n some few r ok =
    let h = clear_ok (pair_grounds n r) ok in
    let p : r.p < 2 * n = leb-false _ _ h.0 in
    let q : r.q < 2 * n = leb-false _ _ h.1.0 in
    let c = h.1.1.1.0 in
    (fit_byte 1 r.p (omega arith), (fit_byte 2 r.q (omega arith), (fit_signed 3 w32 r.c (grind (arith, ints)), tt)))

pub pair_trips : FrameLaws (by_table pair_codec)
pair_trips = by_table_laws pair_codec (record {
  code_small = omega arith;
  laid = (refl, (refl, (refl, tt)));
  from_fields = λ r. refl;
  fields_from = λ bs. refl;
  fit = fit;
})
