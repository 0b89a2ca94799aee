use Rattle.std.proofs.Common.{◌≡◌, ◌+◌, ◌-◌, ◌<◌, ◌≤◌, length, Some, None, Ok, Err, sym, ap, ◌∙◌, subst, arith, length-set, rules}
use Rattle.std.proofs.lemmas.List.{take_more_set}
use Rattle.problem.specs.declared.problem.Problem.{Problem}
use Rattle.wire.specs.Readers.{left_of}
use Rattle.problem.specs.Problems.{rules_in, rules_seen}
use Rattle.problem.specs.Reading.{rules_from, refusal}
use Rattle.std.proofs.lemmas.Result.{err_from_is_err_and}
use Rattle.problem.proofs.Lines.{raised, stepped, counted, room}
use Rattle.problem.proofs.problem.read_rules.Goals as goal

pub returns-in_err-next-clause-rules : goal.returns-in_err-next-clause-rules
returns-in_err-next-clause-rules c =
    let p = c.loop-k.problem in
    let s = raised _ c.stated_line.result c.map_err.result c.in_err-next.field-0.0 c.map_err.ensures.cases c.in_err-next.was in
    let f : c.in_err-next.field-0.0 ≡ refusal s.0 c.stated_line.new.reader.line = search rules in
    let r = err_from_is_err_and c.from_residual.result c.from_residual.ensures.1 in
    let step = stepped c.loop-k.k c.args.lines p.home.n p.count c.loop-k.reader c.stated_line.new.reader (rules_in p) (Err s.0) c.loop-k-test.true (counted p c.loop-k.invariant.1 c.loop-k.invariant.2) (sym s.1 ∙ c.stated_line.ensures.value) c.stated_line.ensures.after in
    ap (λ o. rules_seen o (rules_in p)) (r.1 ∙ ap Err (r.2 ∙ f)) ∙ sym step ∙ c.loop-k.invariant.3

pub returns-in_default-clause-rules : goal.returns-in_default-clause-rules
returns-in_default-clause-rules c =
    let e : c.stated_line.result ≡ Ok c.in_ok-next.next = search rules in
    let p = c.loop-k.problem in
    sym (stepped c.loop-k.k c.args.lines p.home.n p.count c.loop-k.reader c.stated_line.new.reader (rules_in p) (Ok None) c.loop-k-test.true (counted p c.loop-k.invariant.1 c.loop-k.invariant.2) (ap Ok (sym c.in_default.is) ∙ sym e ∙ c.stated_line.ensures.value) c.stated_line.ensures.after) ∙ c.loop-k.invariant.3

pub add-requires : goal.add-requires
add-requires c =
    let e : c.stated_line.result ≡ Ok c.in_ok-next.next = search rules in
    room c.loop-k.problem.home.n c.loop-k.problem.count (left_of c.loop-k.reader) c.in-Some.rule (ap Ok (sym c.in-Some.is) ∙ sym e ∙ c.stated_line.ensures.value)

pub loop-k-preserved : goal.loop-k-preserved
loop-k-preserved c =
    let e : c.stated_line.result ≡ Ok c.in_ok-next.next = search rules in
    let i = c.loop-k.invariant in
    let p = c.loop-k.problem in
    let r = c.stated_line.new.reader in
    let said = ap Ok (sym c.in-Some.is) ∙ sym e ∙ c.stated_line.ensures.value in
    let P : Problem → Type 0 = λ q. (q.home ≡ c.args.problem.now.home) × (q.count ≤ 32) × (length q.rules ≡ 32) × (rules_from (c.args.lines - (c.loop-k.k + 1)) q.home.n (left_of r) r.line (rules_in q) ≡ rules_from c.args.lines c.args.problem.now.home.n (left_of c.args.reader.now) c.args.reader.now.line (rules_in c.args.problem.now)) in
    let place : p.count < 32 = room p.home.n p.count (left_of c.loop-k.reader) c.in-Some.rule said in
    subst P (sym c.add.ensures) (
      i.0,
      omega arith,
      length-set p.rules p.count c.in-Some.rule ∙ i.2,
      ap (rules_from (c.args.lines - (c.loop-k.k + 1)) p.home.n (left_of r) r.line) (take_more_set p.rules p.count c.in-Some.rule (omega arith))
          ∙ sym (stepped c.loop-k.k c.args.lines p.home.n p.count c.loop-k.reader r (rules_in p) (Ok (Some c.in-Some.rule)) c.loop-k-test.true (counted p i.1 i.2) said c.stated_line.ensures.after) ∙ i.3,
    )
