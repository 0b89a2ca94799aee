use Rattle.std.proofs.Common.{◌-◌, length, take, Ok, Err, refl, sym, ◌∙◌, arith}
use Rattle.std.proofs.lemmas.Result.{err_from_is_err_and}
use Rattle.wire.specs.Readers.{left_of}
use Rattle.wire.proofs.Lines.{none_left, none_moves, line_answered, line_moves}
use Rattle.wire.proofs.reader.Reader.next_line.Goals as goal

pub returns-then-self-text : goal.returns-then-self-text
returns-then-self-text c = record {
  value = sym (none_left c.args.self.now c.if-self-text.true);
  after = none_moves c.args.self.now c.if-self-text.true;
}

pub returns-in_err-check_line : goal.returns-in_err-check_line
returns-in_err-check_line c =
    let p = err_from_is_err_and c.from_residual.result c.from_residual.ensures.1 in
    let r = c.args.self.now in
    let rest = take (length r.text.now - r.pos) (left_of r) in
    let fault = Err c.in_err-check_line.field-0.0 in
    record {
      value = rw (p.1, p.2) (sym (line_answered r rest c.line_length-length.result fault c.if-self-text.false refl c.line_length-length.ensures c.in_err-check_line.ensures.value));
      after = line_moves r rest c.line_length-length.result fault c.if-self-text.false refl c.line_length-length.ensures c.in_err-check_line.ensures.value c.next_number-self.result r.pos c.next_number-self.ensures (omega arith);
    }

pub returns : goal.returns
returns c =
    let r = c.args.self.now in
    let rest = take (length r.text.now - r.pos) (left_of r) in
    let n = c.line_length-length.result in
    record {
      value = sym (line_answered r rest n (Ok tt) c.if-self-text.false refl c.line_length-length.ensures c.in_ok-check_line.ensures.value);
      after = c.pass.ensures ∙ line_moves r rest n (Ok tt) c.if-self-text.false refl c.line_length-length.ensures c.in_ok-check_line.ensures.value c.next_number-self.result _ c.next_number-self.ensures refl;
    }
