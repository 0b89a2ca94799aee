use Rattle.std.proofs.Common.{◌≡◌, true, false, ltb, length, sym, ◌∙◌, arith}
use Rattle.std.proofs.lemmas.Bool.{lt-ltb, le-ltb, cond-true, cond-false}
use Rattle.octagon.specs.Octagons.{octagon_model}
use Rattle.offsets.specs.Entry.{entry_frames}
use Rattle.wire.proofs.Adding.{written_whole}
use Rattle.wire.specs.Appending.{lines}
use Rattle.offsets.proofs.Answering.{told_of, frames_fit}
use Rattle.offsets.proofs.entry.offsets_solve.Goals as goal

pub returns : goal.returns
returns c =
    let d = c.args.output.now in
    let big = c.if-output-lt1897.false in
    let fs = entry_frames octagon_model c.args.input.now c.args.budget (length d) in
    let fit = frames_fit c.args.input.now c.args.budget (length d) big in
    let whole = written_whole (lines d 0) (lines c.answer_into.new.output c.answer_into.result) fs c.answer_into.ensures (omega (arith, fit)) in
    let test : ltb (length d) 1897 ≡ false = le-ltb (length d) 1897 big in
    let count = whole.1 in
    record {
      count = (omega (arith, count)) ∙ sym (cond-false (ltb (length d) 1897) _ _ test);
      writes = whole.0 ∙ sym (cond-false (ltb (length d) 1897) _ _ test);
      bound = omega (arith, fit, count);
      truth = λ p e. told_of c.args.budget (length d) p c.args.input.now e;
    }

pub returns-then-output-lt1897 : goal.returns-then-output-lt1897
returns-then-output-lt1897 c =
    let d = c.args.output.now in
    let test : ltb (length d) 1897 ≡ true = lt-ltb (length d) 1897 c.if-output-lt1897.true in
    record {
      count = sym (cond-true (ltb (length d) 1897) _ _ test);
      writes = sym (cond-true (ltb (length d) 1897) _ _ test);
      bound = omega arith;
      truth = λ p e. told_of c.args.budget (length d) p c.args.input.now e;
    }
