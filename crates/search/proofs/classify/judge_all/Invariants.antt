use Rattle.std.proofs.Common.{◌≡◌, ◌≢◌, drop}
use Rattle.interface.specs.declared.verdict.Verdict.TheVariants.{Nothing}
use Rattle.search_theory.specs.Regions.{both, judged}
use Rattle.search.proofs.classify.judge_all.Given as goal

-- no rule so far says nothing, and what they and those that are left say together is what all say
abbrev pub invariant-loop-rule : goal.invariant-loop-rule
invariant-loop-rule g l = (l.verdict ≢ Nothing) × (both l.verdict (judged g.R.Rule.model (drop l.rule-index l.rules) l.reading) ≡ judged g.R.Rule.model l.rules l.reading)
