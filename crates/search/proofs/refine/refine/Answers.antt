-- The three loops together are the model's rounds; each way out of them gives the same region, which narrows a made one.
use Rattle.std.proofs.Common.{◌≡◌, List, rules, sym, subst, ◌∙◌}
use Rattle.interface.specs.Rules.{RuleModel, RuleLaws}
use Rattle.interface.specs.Shapes.{ShapeModel, ShapeLaws}
use Rattle.search_theory.specs.RegionLaws.{Refined}
use Rattle.search_theory.specs.Regions.{refine}
use Rattle.search_theory.proofs.Refining.{refined}
use Rattle.search.proofs.Rounds.{cuts_more, rules_end, rounds_start, rounds_more, rounds_end, rounds_left}
use Rattle.search.proofs.refine.refine.Goals as goal

narrowed : {S R : Type 0} {M : ShapeModel S} {K : RuleModel R} → ShapeLaws M → RuleLaws K → (rs : List R) (s t : S) → t ≡ refine M K rs s → Refined M K rs s t
narrowed {M = M} {K = K} L J rs s t e = subst (Refined M K rs s) (sym e) (refined L J rs s)

pub rounds-init : goal.rounds-init
rounds-init g c = (c.take_reading-reading.ensures, rounds_start g.S.Shape.model g.R.Rule.model c.args.rules.now c.args.shape)

pub cuts-preserved : goal.cuts-preserved
cuts-preserved g c = (c.apply.ensures.fresh, sym (cuts_more g.S.Shape.model g.R.Rule.model c.rule-item.result c.cuts.i c.cuts-test.true c.cuts.region c.apply.new.shape c.apply.ensures.after) ∙ c.cuts.invariant.1)

pub rounds-preserved : goal.rounds-preserved
rounds-preserved g c = (
  c.rules.invariant.0,
  sym (rounds_more g.S.Shape.model g.R.Rule.model c.args.rules.now c.rounds._round c.rounds-test.true c.rounds.region c.rules.region (sym (rules_end g.S.Shape.model g.R.Rule.model c.args.rules.now c.rules.rule-index c.rules-test.false c.rules.region) ∙ c.rules.invariant.1) c.rounds.reading c.rules.reading c.rounds.invariant.0 c.rules.invariant.0 _ c.if-eq.ensures) ∙ c.rounds.invariant.1,
)

pub returns-then-ne-clause-value : goal.returns-then-ne-clause-value
returns-then-ne-clause-value g c = sym (rounds_left g.S.Shape.model g.R.Rule.model c.args.rules.now c.rounds._round c.rounds-test.true c.rules.rule-index c.rule-item.result c.rules-test.true c.rule-item.is c.cuts.i c.rounds.region c.rules.region c.cuts.region c.rules.invariant.1 c.cuts.invariant.1 (search rules)) ∙ c.rounds.invariant.1

pub returns-then-ne-clause-narrows : goal.returns-then-ne-clause-narrows
returns-then-ne-clause-narrows g c = narrowed g.met.S.Shape.laws g.met.R.Rule.laws c.args.rules.now c.args.shape c.cuts.region (returns-then-ne-clause-value g c)

pub returns-then-eq-clause-value : goal.returns-then-eq-clause-value
returns-then-eq-clause-value g c = sym (rounds_more g.S.Shape.model g.R.Rule.model c.args.rules.now c.rounds._round c.rounds-test.true c.rounds.region c.rules.region (sym (rules_end g.S.Shape.model g.R.Rule.model c.args.rules.now c.rules.rule-index c.rules-test.false c.rules.region) ∙ c.rules.invariant.1) c.rounds.reading c.rules.reading c.rounds.invariant.0 c.rules.invariant.0 _ c.if-eq.ensures) ∙ c.rounds.invariant.1

pub returns-then-eq-clause-narrows : goal.returns-then-eq-clause-narrows
returns-then-eq-clause-narrows g c = narrowed g.met.S.Shape.laws g.met.R.Rule.laws c.args.rules.now c.args.shape c.rules.region (returns-then-eq-clause-value g c)

pub returns-after-rounds-clause-narrows : goal.returns-after-rounds-clause-narrows
returns-after-rounds-clause-narrows g c = narrowed g.met.S.Shape.laws g.met.R.Rule.laws c.args.rules.now c.args.shape c.rounds.region (sym (rounds_end g.S.Shape.model g.R.Rule.model c.args.rules.now c.rounds._round c.rounds-test.false c.rounds.region) ∙ c.rounds.invariant.1)
