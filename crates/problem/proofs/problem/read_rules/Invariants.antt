use Rattle.std.proofs.Common.{◌≡◌, ◌-◌, ◌≤◌, length}
use Rattle.wire.specs.Readers.{left_of}
use Rattle.problem.specs.Problems.{rules_in}
use Rattle.problem.specs.Reading.{rules_from}
use Rattle.problem.proofs.problem.read_rules.Given as goal

-- the lines that are left give the result
abbrev pub invariant-loop-k : goal.invariant-loop-k
invariant-loop-k l = (l.problem.home ≡ l.initial.problem.home) × (l.problem.count ≤ 32) × (length l.problem.rules ≡ 32) × (rules_from (l.lines - l.k) l.problem.home.n (left_of l.reader) l.reader.line (rules_in l.problem) ≡ rules_from l.lines l.initial.problem.home.n (left_of l.initial.reader) l.initial.reader.line (rules_in l.initial.problem))
