use Rattle.intervals.proofs.ByCuts.{split_by_cuts as proof}
use Rattle.intervals.proofs.split_by_cuts.Goals as goal

pub returns : goal.returns
returns c = proof
