-- One line more: what the lines from it on give is what it gives, and then the others. Assumes nothing.
use Rattle.std.proofs.Common.{◌≡◌, ℕ, suc, ◌+◌, ◌-◌, ◌<◌, ◌≤◌, Bool, true, false, cond, leb, List, [], length, drop, Some, None, Ok, Err, Option, Result, sym, refl, ap, ◌∙◌, subst, arith}
use Rattle.std.proofs.lemmas.List.{drop-drop, length-take-le}
use Rattle.std.proofs.lemmas.Bool.{leb-false}
use Rattle.std.proofs.lemmas.Result.{err_from_is_err_and}
use Rattle.std.specs.Result.{MatchResult, IsErrAnd}
use Rattle.interface.specs.declared.fault.RecordFault.{RecordFault}
use Rattle.interface.specs.declared.fault.SolverFault.{SolverFault}
use Rattle.interface.specs.declared.fault.SolverFault.TheVariants.{Record, Rules}
use Rattle.interface.specs.declared.home.Home.{Home}
use Rattle.wire.specs.declared.reader.Reader.{Reader}
use Rattle.wire.specs.Readers.{left_of, advanced}
use Rattle.wire.specs.Text.{next_line, used, next_number}
use Rattle.problem.specs.declared.problem.Problem.{Problem}
use Rattle.problem.specs.declared.problem.Refusal.{Refusal}
use Rattle.rules.specs.Any.{AnyRule}
use Rattle.problem.specs.Problems.{rules_in}
use Rattle.problem.specs.Reading.{Stated, after, if_any, placed, rule_line, stated_line, rules_from, go_on, with_rules, rules_behind, first_home, size_check, read_text, refusal}

pub left_more : (r : Reader) → left_of (advanced r) ≡ drop (used (next_line (left_of r))) (left_of r)
left_more r = sym (drop-drop (used (next_line (left_of r))) r.pos r.text.now)

pub rules_more : (k lines n : ℕ) (r : Reader) (rs : List AnyRule) (count : ℕ) → k < lines → length rs ≡ count → rules_from (lines - k) n (left_of r) r.line rs ≡ go_on (stated_line n count (left_of r)) (advanced r).line rs (rules_from (lines - (k + 1)) n (left_of (advanced r)) (advanced r).line)
rules_more k lines n r rs count h e =
    let d : lines - k ≡ suc (lines - (k + 1)) = omega arith in
    ap (λ m. rules_from m n (left_of r) r.line rs) d
    ∙ ap (λ c. go_on (stated_line n c (left_of r)) (advanced r).line rs (rules_from (lines - (k + 1)) n (drop (used (next_line (left_of r))) (left_of r)) (advanced r).line)) e
    ∙ ap (λ l. go_on (stated_line n count (left_of r)) (advanced r).line rs (rules_from (lines - (k + 1)) n l (advanced r).line)) (sym (left_more r))

-- a rule is stated only where there is place for it
room_if : (count : ℕ) (b : Bool) (r t : AnyRule) → leb 32 count ≡ b → ◌≡◌ {A = Result (Option AnyRule) SolverFault} (cond b (Err Rules) (Ok (Some r))) (Ok (Some t)) → count < 32
room_if count true r t e d = cc
room_if count false r t e d = leb-false 32 count e

room_by : (count : ℕ) (o : Result (Option AnyRule) RecordFault) (t : AnyRule) → after o Record (λ p. if_any p (placed count)) ≡ Ok (Some t) → count < 32
room_by count (Err f) t d = cc
room_by count (Ok None) t d = cc
room_by count (Ok (Some r)) t d = room_if count (leb 32 count) r t refl d

pub room : (n count : ℕ) (left : List ℕ) (t : AnyRule) → Ok (Some t) ≡ stated_line n count left → count < 32
room n count left t d = room_by count (rule_line n left) t (sym d)

-- the same by what the line's call gave and where it left the reader
pub stepped : (k lines n count : ℕ) (r r' : Reader) (rs : List AnyRule) (o : Result (Option AnyRule) SolverFault) → k < lines → length rs ≡ count → o ≡ stated_line n count (left_of r) → r' ≡ advanced r → rules_from (lines - k) n (left_of r) r.line rs ≡ go_on o r'.line rs (rules_from (lines - (k + 1)) n (left_of r') r'.line)
stepped k lines n count r r' rs o h e d a =
    rules_more k lines n r rs count h e
    ∙ ap (λ s. go_on (stated_line n count (left_of r)) s.line rs (rules_from (lines - (k + 1)) n (left_of s) s.line)) (sym a)
    ∙ ap (λ q. go_on q r'.line rs (rules_from (lines - (k + 1)) n (left_of r') r'.line)) (sym d)

pub counted : (p : Problem) → p.count ≤ 32 → length p.rules ≡ 32 → length (rules_in p) ≡ p.count
counted p h e = length-take-le p.count p.rules (omega arith)

-- a fault that was raised: the one below it, and what the raising made of it
pub raised : {A E F : Type 0} (R : E → F → Type 0) (o : Result A E) (m : Result A F) (f : F) → MatchResult o (λ x. m ≡ Ok x) (λ e. IsErrAnd m (R e)) → m ≡ Err f → (e : E) × (o ≡ Err e) × R e f
raised R (Ok a) m f h w = cc
raised R (Err e) m f h w =
    let p = err_from_is_err_and m h in
    let same : p.0 ≡ f = cc in
    (e, refl, subst (R e) same p.2)

-- a text whose size is right and whose first line is a home
pub read_more : (text : List ℕ) (u : Unit {0}) (h : Home) → Ok u ≡ size_check text → Ok h ≡ first_home text → rules_behind text h ≡ read_text text
read_more text u h d e =
    ap (λ o. after o (λ f. refusal f 1) (rules_behind text)) e
    ∙ ap (λ o. after o (λ f. refusal f 0) (λ v. after (first_home text) (λ f. refusal f 1) (rules_behind text))) d

-- a new reader past its first line
pub past_first : (new r r' : Reader) (h : Home) (lines : ℕ) → new.pos ≡ 0 → new.line ≡ 0 → r ≡ new → r' ≡ advanced r → with_rules h (rules_from lines h.n (left_of r') r'.line []) ≡ with_rules h (rules_from lines h.n (drop (used (next_line new.text.now)) new.text.now) (next_number new.text.now 0) [])
past_first new r r' h lines z l e a =
    let all : List ℕ = new.text.now in
    let from : List ℕ → ℕ → Result Stated Refusal = λ left line. with_rules h (rules_from lines h.n left line []) in
    ap (λ s. from (left_of s) s.line) (a ∙ ap advanced e)
    ∙ ap (λ left. from left (advanced new).line) (left_more new)
    ∙ ap (λ i. from (drop (used (next_line (drop i all))) (drop i all)) (next_number (drop i all) new.line)) z
    ∙ ap (λ i. from (drop (used (next_line all)) all) (next_number all i)) l
