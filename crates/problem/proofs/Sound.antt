-- What an accepted text shows: its home and its rules pass their checks, and there are at most 32 of them. Assumes nothing.
use Rattle.std.proofs.Common.{◌≡◌, ℕ, zero, suc, ◌≤◌, Bool, true, false, cond, leb, List, [], ◌∷◌, ◌++◌, length, drop, Some, None, Ok, Err, Option, Result, sym, refl, ap, ◌∙◌, subst, arith}
use Rattle.std.proofs.ByRecursion.{All-push}
use Rattle.std.proofs.lemmas.List.{length_push}
use Rattle.std.specs.List.{AllByRecursion}
use Rattle.interface.specs.declared.fault.FrameFault.{FrameFault}
use Rattle.interface.specs.declared.fault.RecordFault.{RecordFault}
use Rattle.interface.specs.declared.fault.RecordFault.TheVariants.{Frame}
use Rattle.interface.specs.declared.fault.SolverFault.{SolverFault}
use Rattle.interface.specs.declared.fault.SolverFault.TheVariants.{Record, Rules}
use Rattle.interface.specs.declared.home.Home.{Home}
use Rattle.interface.specs.Homes.{Passes, home_check}
use Rattle.rules.specs.Any.{AnyRule, any_model}
use Rattle.wire.specs.Bytes.{unhex}
use Rattle.wire.specs.HomeFrame.{read_home}
use Rattle.wire.specs.Kinds.{next_frame}
use Rattle.wire.specs.Text.{next_line, used, next_number}
use Rattle.problem.specs.declared.problem.Refusal.{Refusal}
use Rattle.problem.specs.AnyRules.{known_kinds, rule_of}
use Rattle.problem.specs.Reading.{Stated, after, if_any, same, homed, home_line, ruled, rule_line, stated_line, placed, go_on, rules_from, with_rules, rules_behind, or_empty, first_home, size_check, read_text, refusal}
use Rattle.problem.proofs.Lines.{room}

-- two different answers are no one answer
ok_err : {A E : Type 0} {a : A} {e : E} → ◌≡◌ {A = Result A E} (Err e) (Ok a) → ⊥
ok_err d = cc

none_some : {A E : Type 0} {a : A} → ◌≡◌ {A = Result (Option A) E} (Ok None) (Ok (Some a)) → ⊥
none_some d = cc

some_same : {A E : Type 0} {a b : A} → ◌≡◌ {A = Result (Option A) E} (Ok (Some a)) (Ok (Some b)) → a ≡ b
some_same d = cc

ok_same : {A E : Type 0} {a b : A} → ◌≡◌ {A = Result A E} (Ok a) (Ok b) → a ≡ b
ok_same d = cc

-- a record that is read behind a check has passed it
passed : {A : Type 0} (check : A → Result (Unit {0}) RecordFault) (a : A) (c : Result (Unit {0}) RecordFault) (b : A) → check a ≡ c → after c same (λ u. Ok (Some a)) ≡ Ok (Some b) → check b ≡ Ok tt
passed check a (Ok u) b e d = subst (λ x. check x ≡ Ok tt) (some_same d) e
passed check a (Err f) b e d = absurd (ok_err d)

behind : {A B : Type 0} (P : B → Type 0) (o : Result (Option A) FrameFault) (go : A → Result (Option B) RecordFault) (b : B) → ((a : A) → go a ≡ Ok (Some b) → P b) → after o Frame (λ p. if_any p go) ≡ Ok (Some b) → P b
behind P (Ok None) go b f d = absurd (none_some d)
behind P (Ok (Some a)) go b f d = f a d
behind P (Err e) go b f d = absurd (ok_err d)

rule_passed : (n : ℕ) (left : List ℕ) (r : AnyRule) → rule_line n left ≡ Ok (Some r) → any_model.check n r ≡ Ok tt
rule_passed n left r d = behind (λ t. any_model.check n t ≡ Ok tt) (next_frame known_kinds false (next_line left)) (ruled n) r (λ line e. passed (any_model.check n) (rule_of (unhex line)) (any_model.check n (rule_of (unhex line))) r refl e) d

home_passed : (left : List ℕ) (h : Home) → home_line left ≡ Ok (Some h) → Passes h
home_passed left h d = behind Passes (next_frame known_kinds true (next_line left)) homed h (λ line e. passed home_check (read_home (unhex line)) (home_check (read_home (unhex line))) h refl e) d

picked : (b : Bool) (t r : AnyRule) → ◌≡◌ {A = Result (Option AnyRule) SolverFault} (cond b (Err Rules) (Ok (Some t))) (Ok (Some r)) → t ≡ r
picked true t r d = absurd (ok_err d)
picked false t r d = some_same d

stated_by_rule : (count : ℕ) (o : Result (Option AnyRule) RecordFault) (r : AnyRule) → after o Record (λ p. if_any p (placed count)) ≡ Ok (Some r) → o ≡ Ok (Some r)
stated_by_rule count (Ok None) r d = absurd (none_some d)
stated_by_rule count (Ok (Some t)) r d = ap (λ x. Ok (Some x)) (picked (leb 32 count) t r d)
stated_by_rule count (Err f) r d = absurd (ok_err d)

-- rules that pass their checks, at most 32
abbrev pub Good : ℕ → List AnyRule → Type 0
Good n rs = AllByRecursion (λ r. any_model.check n r ≡ Ok tt) rs × (length rs ≤ 32)

good_more : (n : ℕ) (left : List ℕ) (rs : List AnyRule) (r : AnyRule) → stated_line n (length rs) left ≡ Ok (Some r) → Good n rs → Good n (rs ++ r ∷ [])
good_more n left rs r d g =
    let place = room n (length rs) left r (sym d) in
    let pushed = length_push rs r in
    (All-push (λ t. any_model.check n t ≡ Ok tt) rs r g.0 (rule_passed n left r (stated_by_rule (length rs) (rule_line n left) r d)), omega (arith, place, pushed))

one_line : (n : ℕ) (left : List ℕ) (rs res : List AnyRule) (line : ℕ) (o : Result (Option AnyRule) SolverFault) (more : List AnyRule → Result (List AnyRule) Refusal) → stated_line n (length rs) left ≡ o → ((ts : List AnyRule) → more ts ≡ Ok res → Good n ts → Good n res) → go_on o line rs more ≡ Ok res → Good n rs → Good n res
one_line n left rs res line (Ok None) more e later d g = subst (Good n) (ok_same d) g
one_line n left rs res line (Ok (Some r)) more e later d g = later (rs ++ r ∷ []) d (good_more n left rs r e g)
one_line n left rs res line (Err f) more e later d g = absurd (ok_err d)

rules_good : (k n : ℕ) (left : List ℕ) (line : ℕ) (rs res : List AnyRule) → rules_from k n left line rs ≡ Ok res → Good n rs → Good n res
rules_good zero n left line rs res d g = subst (Good n) (ok_same d) g
rules_good (suc k) n left line rs res d g =
    one_line n left rs res (next_number left line) (stated_line n (length rs) left) (rules_from k n (drop (used (next_line left)) left) (next_number left line)) refl (λ ts. rules_good k n (drop (used (next_line left)) left) (next_number left line) ts res) d g

-- an answer that is there came from one that is there
from_ok : {A B E F : Type 0} (o : Result A E) (raise : E → F) (go : A → Result B F) (b : B) → after o raise go ≡ Ok b → (a : A) × (o ≡ Ok a) × (go a ≡ Ok b)
from_ok (Ok a) raise go b d = (a, refl, d)
from_ok (Err e) raise go b d = absurd (ok_err d)

there : (o : Option Home) (h : Home) → or_empty o ≡ Ok h → o ≡ Some h
there None h d = absurd (ok_err d)
there (Some g) h d = ap Some (ok_same d)

rules_there : (h : Home) (o : Result (List AnyRule) Refusal) (p : Stated) → with_rules h o ≡ Ok p → (rs : List AnyRule) × (o ≡ Ok rs) × (record { home = h; rules = rs } ≡ p)
rules_there h (Ok rs) p d = (rs, refl, ok_same d)
rules_there h (Err f) p d = absurd (ok_err d)

-- a text that is accepted states a home and rules that pass their checks
pub read_sound : (text : List ℕ) (p : Stated) → read_text text ≡ Ok p → Passes p.home × Good p.home.n p.rules
read_sound text p d =
    let sized = from_ok (size_check text) (λ f. refusal f 0) (λ u. after (first_home text) (λ f. refusal f 1) (rules_behind text)) p d in
    let homes = from_ok (first_home text) (λ f. refusal f 1) (rules_behind text) p sized.2 in
    let h = homes.0 in
    let lines = from_ok (home_line text) Record or_empty h homes.1 in
    let good = home_passed text h (lines.1 ∙ ap Ok (there lines.0 h lines.2)) in
    let rules = rules_there h (rules_from (length text) h.n (drop (used (next_line text)) text) (next_number text 0) []) p homes.2 in
    subst (λ q. Passes q.home × Good q.home.n q.rules) rules.2 (good, rules_good (length text) h.n (drop (used (next_line text)) text) (next_number text 0) [] rules.0 rules.1 (tt, omega arith))
