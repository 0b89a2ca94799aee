use Rattle.std.proofs.Common.{◌≡◌}
use Rattle.octagon.specs.Entries.{at}
use Rattle.octagon.specs.Offering.{SoFar}
use Rattle.octagon.proofs.matrix.Octagon.least_values.Given as goal

abbrev pub invariant-loop-k : goal.invariant-loop-k
invariant-loop-k l = (l.point.n ≡ l.k) × SoFar (at l.self.limits) l.m l.k l.point.values
