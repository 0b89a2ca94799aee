-- A rule of any kind: a pair, a sum, an apart or a step rule, answering as that rule does. Assumes nothing.
use Rattle.interface.specs.Rules.{RuleModel}
use Rattle.interface.specs.Guards.{guarded}
use Rattle.rules.specs.declared.apart.ApartRule.{ApartRule}
use Rattle.rules.specs.declared.joined.Joined.{Joined}
use Rattle.rules.specs.declared.pair.PairRule.{PairRule}
use Rattle.rules.specs.declared.step.StepRule.{StepRule}
use Rattle.sum_rule.specs.declared.sum.SumRule.{SumRule}
use Rattle.sum_rule.specs.Sums.{sum_core}
use Rattle.rules.specs.Aparts.{apart_core}
use Rattle.rules.specs.Joins.{joined}
use Rattle.rules.specs.Pairs.{pair_core}
use Rattle.rules.specs.Steps.{step_core}

abbrev pub AnyRule : Type 0
AnyRule = Joined PairRule (Joined SumRule (Joined ApartRule StepRule))

abbrev pub any_model : RuleModel AnyRule
any_model = joined (guarded pair_core) (joined (guarded sum_core) (joined (guarded apart_core) (guarded step_core)))
