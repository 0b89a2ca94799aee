-- How a run ends: each case with its number. Assumes nothing.
use Rattle.std.specs.Prelude.{ℕ}
use Rattle.search_theory.specs.declared.outcome.Outcome.{Outcome}
use Rattle.search_theory.specs.declared.outcome.Outcome.TheVariants.{Done, Spent, ListFull, StackFull}

abbrev pub outcome_number : Outcome → ℕ
outcome_number Done = 0
outcome_number Spent = 1
outcome_number ListFull = 2
outcome_number StackFull = 3
