use Rattle.std.proofs.Common.{sym, subst}
use Rattle.wire.specs.Text.{LineSays}
use Rattle.wire.proofs.Lines.{line_says}
use Rattle.wire.proofs.text.check_line.Goals as goal

pub returns : goal.returns
returns c = record {
  value = c.line_faults.ensures;
  says = subst (LineSays c.args.line.now c.args.ended) (sym c.line_faults.ensures) (line_says c.args.line.now c.args.ended);
}
