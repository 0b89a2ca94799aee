use Rattle.halving.proofs.Lowers.{halving_lowers as proof}
use Rattle.halving.proofs.halving_lowers.Goals as goal

pub returns : goal.returns
returns c = proof
