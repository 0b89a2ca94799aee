-- A rule of any kind keeps the laws of rules, since each kind does. Assumes nothing.
use Rattle.interface.specs.Rules.{RuleLaws}
use Rattle.sum_rule.specs.SumsLemmas.{sum_laws}
use Rattle.rules.specs.Any.{any_model}
use Rattle.rules.specs.ApartsLemmas.{apart_laws}
use Rattle.rules.specs.JoinsLemmas.{joined_laws}
use Rattle.rules.specs.PairsLemmas.{pair_laws}
use Rattle.rules.specs.StepsLemmas.{step_laws}

pub any_laws : RuleLaws any_model
any_laws = joined_laws _ _ pair_laws (joined_laws _ _ sum_laws (joined_laws _ _ apart_laws step_laws))
