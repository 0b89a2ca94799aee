use Rattle.octagon_theory.proofs.Theorems.{one_cut_at_a_time}
use Rattle.octagon_theory.proofs.one_cut_at_a_time.Goals as goal

pub returns : goal.returns
returns c = one_cut_at_a_time
