-- How a text is read: line by line, each through every layer before the next. Assumes nothing.
use Rattle.std.specs.Prelude.{ℕ, zero, suc, true, false, cond, List, [], ◌∷◌, ◌++◌, length, drop, Some, None, Ok, Err, Option, Result, nat_le}
use Rattle.interface.specs.declared.fault.TextFault.TheVariants.{Size}
use Rattle.interface.specs.declared.fault.FrameFault.TheVariants.{Text}
use Rattle.interface.specs.declared.fault.RecordFault.{RecordFault}
use Rattle.interface.specs.declared.fault.RecordFault.TheVariants.{Frame}
use Rattle.interface.specs.declared.fault.SolverFault.{SolverFault}
use Rattle.interface.specs.declared.fault.SolverFault.TheVariants.{Record, Rules}
use Rattle.interface.specs.declared.home.Home.{Home}
use Rattle.interface.specs.Grounds.{first_fault}
use Rattle.interface.specs.Homes.{home_check}
use Rattle.wire.specs.Bytes.{unhex}
use Rattle.wire.specs.HomeFrame.{read_home}
use Rattle.wire.specs.Kinds.{next_frame}
use Rattle.wire.specs.Text.{next_line, used, next_number, size_grounds}
use Rattle.problem.specs.declared.problem.Refusal.{Refusal}
use Rattle.rules.specs.Any.{AnyRule, any_model}
use Rattle.problem.specs.AnyRules.{rule_of, known_kinds}

-- on with what a lower layer gives, or its fault, raised
abbrev pub after : {A B E F : Type 0} → Result A E → (E → F) → (A → Result B F) → Result B F
after (Ok a) raise go = go a
after (Err e) raise go = Err (raise e)

-- nothing where the text has ended, else on with the line
abbrev pub if_any : {A B F : Type 0} → Option A → (A → Result (Option B) F) → Result (Option B) F
if_any None go = Ok None
if_any (Some a) go = go a

abbrev pub same : {A : Type 0} → A → A
same x = x

abbrev pub homed : List ℕ → Result (Option Home) RecordFault
homed line = after (home_check (read_home (unhex line))) same (λ u. Ok (Some (read_home (unhex line))))

abbrev pub home_line : List ℕ → Result (Option Home) RecordFault
home_line left = after (next_frame known_kinds true (next_line left)) Frame (λ o. if_any o homed)

abbrev pub ruled : ℕ → List ℕ → Result (Option AnyRule) RecordFault
ruled n line = after (any_model.check n (rule_of (unhex line))) same (λ u. Ok (Some (rule_of (unhex line))))

abbrev pub rule_line : ℕ → List ℕ → Result (Option AnyRule) RecordFault
rule_line n left = after (next_frame known_kinds false (next_line left)) Frame (λ o. if_any o (ruled n))

-- a solver has place for 32 rules
abbrev pub placed : ℕ → AnyRule → Result (Option AnyRule) SolverFault
placed count r = cond (nat_le 32 count) (Err Rules) (Ok (Some r))

abbrev pub stated_line : ℕ → ℕ → List ℕ → Result (Option AnyRule) SolverFault
stated_line n count left = after (rule_line n left) Record (λ o. if_any o (placed count))

-- the home and the rules of a text
pub record Stated : Type 0 where
  pub home : Home
  pub rules : List AnyRule

abbrev pub refusal : SolverFault → ℕ → Refusal
refusal f l = record { fault = f; line = l }

-- a line's rule joins those before it, and the lines that are left follow; line counts those that were read
abbrev pub go_on : Result (Option AnyRule) SolverFault → ℕ → List AnyRule → (List AnyRule → Result (List AnyRule) Refusal) → Result (List AnyRule) Refusal
go_on (Ok None) line rs more = Ok rs
go_on (Ok (Some r)) line rs more = more (rs ++ r ∷ [])
go_on (Err f) line rs more = Err (refusal f line)

-- the rules in the bytes that are left, at most k lines
abbrev pub rules_from : ℕ → ℕ → List ℕ → ℕ → List AnyRule → Result (List AnyRule) Refusal
rules_from zero n left line rs = Ok rs
rules_from (suc k) n left line rs = go_on (stated_line n (length rs) left) (next_number left line) rs (rules_from k n (drop (used (next_line left)) left) (next_number left line))

-- the text's size, raised through every layer
abbrev pub size_check : List ℕ → Result (Unit {0}) SolverFault
size_check text = after (after (after (first_fault (size_grounds text)) Text Ok) Frame Ok) Record Ok

-- the home on the first line; only an empty text has none
abbrev pub or_empty : Option Home → Result Home SolverFault
or_empty None = Err (Record (Frame (Text Size)))
or_empty (Some h) = Ok h

abbrev pub first_home : List ℕ → Result Home SolverFault
first_home left = after (home_line left) Record or_empty

abbrev pub with_rules : Home → Result (List AnyRule) Refusal → Result Stated Refusal
with_rules h (Ok rs) = Ok (record { home = h; rules = rs })
with_rules h (Err f) = Err f

-- the lines behind the home
abbrev pub rules_behind : List ℕ → Home → Result Stated Refusal
rules_behind text h = with_rules h (rules_from (length text) h.n (drop (used (next_line text)) text) (next_number text 0) [])

-- the text's size, then its first line, then the others
abbrev pub read_text : List ℕ → Result Stated Refusal
read_text text = after (size_check text) (λ f. refusal f 0) (λ u. after (first_home text) (λ f. refusal f 1) (rules_behind text))
