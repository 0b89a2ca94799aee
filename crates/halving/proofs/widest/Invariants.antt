use Rattle.halving.proofs.Places.{Widest}
use Rattle.halving.proofs.widest.Given as goal

-- the best place so far
abbrev pub invariant-loop-k : goal.invariant-loop-k
invariant-loop-k l = Widest l.widths l.k l.widest
