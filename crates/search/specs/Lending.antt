-- The lent slices as the model's lists. Assumes nothing.
use Rattle.std.specs.Prelude.{◌≡◌, length, Result}
use Rattle.interface.specs.declared.fault.SolverFault.{SolverFault}
use Rattle.search_theory.specs.declared.reply.Reply.{Reply}
use Rattle.search_theory.specs.Requests.{World, Answered}
use Rattle.search.specs.declared.lent.Lent.{Lent}
use Rattle.search.specs.declared.solver.Solver.{Solver}
use Rattle.search.specs.Views.{world_of, answered_by}

-- the same slices are lent, each as long as before, whatever they hold
pub record SameSlices {S R : Type 0} (l m : Lent S R) : Type 0 where
  pub rules : m.rules.ghost_name ≡ l.rules.ghost_name
  pub checkpoints : m.checkpoints.ghost_name ≡ l.checkpoints.ghost_name
  pub stack : m.stack.ghost_name ≡ l.stack.ghost_name
  pub out : m.out.ghost_name ≡ l.out.ghost_name
  pub rules_length : length m.rules.now ≡ length l.rules.now
  pub checkpoints_length : length m.checkpoints.now ≡ length l.checkpoints.now
  pub stack_length : length m.stack.now ≡ length l.stack.now
  pub out_length : length m.out.now ≡ length l.out.now

-- the solver and what the lent slices hold
abbrev pub world_with : {S R : Type 0} → Solver S → Lent S R → World S R
world_with s l = world_of s l.rules.now l.checkpoints.now l.stack.now

abbrev pub answered_with : {S R : Type 0} → Result Reply SolverFault → Solver S → Lent S R → Answered S R
answered_with r s l = answered_by r (world_with s l) l.out.now
