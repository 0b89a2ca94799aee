use Rattle.std.proofs.Common.{subst, arith}
use Rattle.halving.proofs.Places.{Widest, widest_all}
use Rattle.halving.proofs.widest.Goals as goal

pub returns-clause-value : goal.returns-clause-value
returns-clause-value c = widest_all c.args.widths.now c.loop-k.widest (subst (λ n. Widest c.args.widths.now n c.loop-k.widest) (omega arith) c.loop-k.invariant)
