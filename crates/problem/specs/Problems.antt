-- A problem by what it states. Assumes nothing.
use Rattle.std.specs.Prelude.{List, take, Ok, Err, Result}
use Rattle.problem.specs.declared.problem.Problem.{Problem}
use Rattle.problem.specs.declared.problem.Refusal.{Refusal}
use Rattle.rules.specs.Any.{AnyRule}
use Rattle.problem.specs.Reading.{Stated}

-- the home and the rules that count
abbrev pub rules_in : Problem → List AnyRule
rules_in p = take p.count p.rules

abbrev pub stated_by : Problem → Stated
stated_by p = record { home = p.home; rules = rules_in p }

abbrev pub seen_by : Result Problem Refusal → Result Stated Refusal
seen_by (Ok p) = Ok (stated_by p)
seen_by (Err f) = Err f

-- the rules, unless reading stopped at a fault
abbrev pub rules_seen : Result (Unit {0}) Refusal → List AnyRule → Result (List AnyRule) Refusal
rules_seen (Ok u) rs = Ok rs
rules_seen (Err f) rs = Err f
