-- What the desk's calls come to. Assumes nothing.
use Rattle.std.specs.Prelude.{Bool, false, not}
use Rattle.search_theory.specs.declared.outcome.Outcome.{Outcome}
use Rattle.search_theory.specs.declared.outcome.Outcome.TheVariants.{Done, Spent, ListFull, StackFull}
use Rattle.search_theory.specs.declared.report.Report.{Report}

-- nothing waits and nothing was handed out
abbrev none_by : Outcome → Bool → Bool
none_by Done found = not found
none_by Spent found = false
none_by ListFull found = false
none_by StackFull found = false

abbrev pub none_exists : Report → Bool
none_exists r = none_by r.outcome r.found
