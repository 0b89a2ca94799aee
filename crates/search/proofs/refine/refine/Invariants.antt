use Rattle.std.proofs.Common.{◌≡◌, ◌-◌, drop}
use Rattle.std.specs.List.{range_with_len}
use Rattle.search_theory.specs.Regions.{read, by_cuts, by_rules, by_rounds, refine}
use Rattle.search.proofs.refine.refine.Given as goal

-- the cuts that are left give what all three give
abbrev pub invariant-cuts : goal.invariant-cuts
invariant-cuts g l = (l.reading ≡ read g.S.Shape.model l.region) × (by_cuts g.S.Shape.model g.R.Rule.model l.rule (range_with_len l.i (3 - l.i)) l.region ≡ by_cuts g.S.Shape.model g.R.Rule.model l.rule (range_with_len 0 3) l.initial.region)

-- the rules that are left give what the round gives
abbrev pub invariant-rules : goal.invariant-rules
invariant-rules g l = (l.reading ≡ read g.S.Shape.model l.region) × (by_rules g.S.Shape.model g.R.Rule.model (drop l.rule-index l.rules) l.region ≡ by_rules g.S.Shape.model g.R.Rule.model l.rules l.initial.region)

-- the rounds that are left give the result
abbrev pub invariant-rounds : goal.invariant-rounds
invariant-rounds g l = (l.reading ≡ read g.S.Shape.model l.region) × (by_rounds g.S.Shape.model g.R.Rule.model (8 - l._round) l.rules l.region ≡ refine g.S.Shape.model g.R.Rule.model l.rules l.initial.region)
