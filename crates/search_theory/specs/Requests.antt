-- Any of the eight calls, on all lent slices at once. Assumes nothing.
use Rattle.std.specs.Prelude.{List, ◌++◌, Ok, Err, Result}
use Rattle.interface.specs.declared.fault.SolverFault.{SolverFault}
use Rattle.interface.specs.Rules.{RuleModel}
use Rattle.interface.specs.Shapes.{ShapeModel}
use Rattle.search_theory.specs.declared.checkpoint.Checkpoint.{Checkpoint}
use Rattle.search_theory.specs.declared.region.Region.{Region}
use Rattle.search_theory.specs.declared.reply.Reply.{Reply}
use Rattle.search_theory.specs.declared.reply.Reply.TheVariants.{Accepted, Ran, LimitIs}
use Rattle.search_theory.specs.declared.request.Request.{Request}
use Rattle.search_theory.specs.declared.request.Request.TheVariants.{State, Mark, Back, Keep, Begin, Run, Leave, Limit}
use Rattle.search_theory.specs.Calls.{state_call, mark_call, back_call, keep_call, begin_call, run_call, leave_call, limit_call}
use Rattle.search_theory.specs.Solving.{Solving, Left}

-- the solver and the slices that calls are lent
pub record World (S R : Type 0) : Type 0 where
  pub solver : Solving S
  pub rules : List R
  pub checkpoints : List (Checkpoint S)
  pub stack : List S

-- the reply to a request, the world after it, and the out slice after it
pub record Answered (S R : Type 0) : Type 0 where
  pub reply : Result Reply SolverFault
  pub world : World S R
  pub out : List (Region S)

-- the same world over the whole slices: what lies past each lent front part is appended
abbrev pub whole : {S R : Type 0} → World S R → List R → List (Checkpoint S) → List S → World S R
whole w rest more deep = record { solver = w.solver; rules = w.rules ++ rest; checkpoints = w.checkpoints ++ more; stack = w.stack ++ deep }

abbrev pub replied : {A : Type 0} → (A → Reply) → Result A SolverFault → Result Reply SolverFault
replied f (Ok a) = Ok (f a)
replied f (Err e) = Err e

abbrev pub answered : {S R A T : Type 0} → (A → Reply) → Left S A T → List R → List (Checkpoint S) → List S → List (Region S) → Answered S R
answered f l rules checkpoints stack out = record { reply = replied f l.reply; world = record { solver = l.solver; rules = rules; checkpoints = checkpoints; stack = stack }; out = out }

-- most calls answer that they were accepted and no more
abbrev pub accepted : Unit {0} → Reply
accepted u = Accepted

module _ {S R : Type 0} (M : ShapeModel S) (K : RuleModel R) where
  -- each call on the slices that it uses; every other slice stays as it is
  abbrev pub answer : World S R → List (Region S) → Request R → Answered S R
  answer w out (State r) = let l = state_call M K w.solver w.rules r in answered accepted l l.slices w.checkpoints w.stack out
  answer w out Mark = let l = mark_call w.solver w.checkpoints in answered accepted l w.rules l.slices w.stack out
  answer w out Back = answered accepted (back_call w.solver w.checkpoints) w.rules w.checkpoints w.stack out
  answer w out Keep = answered accepted (keep_call w.solver) w.rules w.checkpoints w.stack out
  answer w out Begin = let l = begin_call w.solver w.stack in answered accepted l w.rules w.checkpoints l.slices out
  answer w out (Run b) = let l = run_call M K w.solver w.rules w.stack out b in answered Ran l w.rules w.checkpoints l.slices.0 l.slices.1
  answer w out Leave = answered accepted (leave_call w.solver) w.rules w.checkpoints w.stack out
  answer w out (Limit p q) = record { reply = replied LimitIs (limit_call M w.solver p q); world = w; out = out }
