-- Each answered request moves the desk's counts as it moves the solver's own: by the ground that decided it. Assumes nothing.
use Rattle.std.proofs.Common.{◌≡◌, ℕ, ◌+◌, ◌-◌, Bool, true, false, cond, ◌||◌, List, take, set, Some, None, Ok, Err, Option, Result, sym, refl, ap, ◌∙◌, subst, true≢false}
use Rattle.std.specs.List.{slice_get}
use Rattle.interface.specs.declared.fault.SolverFault.{SolverFault}
use Rattle.interface.specs.Grounds.{first_fault}
use Rattle.octagon.specs.declared.matrix.Octagon.{Octagon}
use Rattle.octagon.specs.Octagons.{octagon_model}
use Rattle.rules.specs.Any.{AnyRule, any_model}
use Rattle.search.specs.declared.solver.Solver.{Solver}
use Rattle.search.specs.Views.{view, answered_by}
use Rattle.search_theory.proofs.Grounds.{none_hold, none_after_record}
use Rattle.search_theory.specs.declared.checkpoint.Checkpoint.{Checkpoint}
use Rattle.search_theory.specs.declared.phase.Phase.TheVariants.{Stating, Searching}
use Rattle.search_theory.specs.declared.region.Region.{Region}
use Rattle.search_theory.specs.declared.reply.Reply.{Reply}
use Rattle.search_theory.specs.declared.reply.Reply.TheVariants.{Ran, LimitIs}
use Rattle.search_theory.specs.declared.request.Request.{Request}
use Rattle.search_theory.specs.declared.request.Request.TheVariants.{State, Mark, Back, Keep, Begin, Run, Leave, Limit}
use Rattle.search_theory.specs.Calls.{state_grounds, mark_grounds, back_grounds, keep_grounds, begin_grounds, leave_grounds, run_grounds, limit_call, stated, marked, restored, at_hand, after_run}
use Rattle.search_theory.specs.Requests.{World, answer, replied, accepted}
use Rattle.search_theory.specs.Runs.{run_from, report_of}
use Rattle.search_theory.specs.Solving.{Solving, Left, left, refused, decided}
use Rattle.fitter.specs.declared.counts.Counts.{Counts}
use Rattle.fitter.specs.declared.store.Memory.{Memory}
use Rattle.fitter.specs.Counting.{back_to, moved, after, by_answer}
use Rattle.fitter.specs.Sessions.{world}

abbrev counted : Solving Octagon → Counts
counted s = record { rules = s.rules; marks = s.marks }

-- a place was left
grown : (k : ℕ) (full other : Bool) → (full || other) ≡ false → cond full k (k + 1) ≡ k + 1
grown k true other e = absurd (true≢false e)
grown k false other e = refl

same_by : (r : Result Reply SolverFault) (c : Counts) → c ≡ by_answer r c c
same_by (Ok a) c = refl
same_by (Err f) c = refl

back_is : (s : Solving Octagon) (k : Option (Checkpoint Octagon)) → counted (restored s k) ≡ back_to (counted s) k
back_is s None = refl
back_is s (Some k) = refl

by_ground : {A T : Type 0} (f : A → Reply) (q : Request AnyRule) (s : Solving Octagon) (t : T) (ks : List (Checkpoint Octagon)) (g : Result (Unit {0}) SolverFault) (l : Left Octagon A T) (x : A) → l.reply ≡ Ok x → (g ≡ Ok tt → counted l.solver ≡ moved (counted s) q ks) → counted (decided {X = Left Octagon A T} g (refused s t) l).solver ≡ after (counted s) q (replied f (decided {X = Left Octagon A T} g (refused s t) l).reply) ks
by_ground f q s t ks (Err e) l x p h = refl
by_ground f q s t ks (Ok u) l x p h = h refl ∙ sym (ap (λ r. after (counted s) q (replied f r) ks) p)

module _ (w : World Octagon AnyRule) (out : List (Region Octagon)) where
  abbrev s : Solving Octagon
  s = w.solver

  abbrev Follows : Request AnyRule → Type 0
  Follows q = counted (answer octagon_model any_model w out q).world.solver ≡ after (counted s) q (answer octagon_model any_model w out q).reply (answer octagon_model any_model w out q).world.checkpoints

  follows : (q : Request AnyRule) → Follows q
  follows (State r) =
      by_ground accepted (State r) s w.rules w.checkpoints (first_fault (state_grounds octagon_model any_model s w.rules r)) (left (Ok tt) (stated octagon_model any_model s r) (set w.rules s.rules r)) tt refl
      (λ e. let h = none_after_record (any_model.check (octagon_model.n s.shape) r) _ (none_hold (state_grounds octagon_model any_model s w.rules r) tt e).1.1 in ap (λ k. record { rules = k; marks = s.marks }) (sym (grown s.rules _ _ h.0)))
  follows Mark =
      by_ground accepted Mark s w.checkpoints (answer octagon_model any_model w out Mark).world.checkpoints (first_fault (mark_grounds s w.checkpoints)) (left (Ok tt) (marked s) (set w.checkpoints s.marks (record { shape = s.shape; rules = s.rules }))) tt refl
      (λ e. let h = none_hold (mark_grounds s w.checkpoints) tt e in ap (λ k. record { rules = s.rules; marks = k }) (sym (grown s.marks _ _ h.1.1.0)))
  follows Back = by_ground accepted Back s (tt {0}) w.checkpoints (first_fault (back_grounds s w.checkpoints)) (left (Ok tt) (restored s (slice_get w.checkpoints (s.marks - 1))) (tt {0})) tt refl (λ e. back_is s (slice_get w.checkpoints (s.marks - 1)))
  follows Keep = by_ground accepted Keep s (tt {0}) w.checkpoints (first_fault (keep_grounds s)) (left (Ok tt) (record { shape = s.shape; rules = s.rules; marks = s.marks - 1; waiting = s.waiting; phase = s.phase; found = s.found }) (tt {0})) tt refl (λ e. refl)
  follows Begin = by_ground accepted Begin s w.stack w.checkpoints (first_fault (begin_grounds s w.stack)) (left (Ok tt) (record { shape = s.shape; rules = s.rules; marks = s.marks; waiting = 1; phase = Searching; found = false }) (set w.stack 0 s.shape)) tt refl (λ e. refl)
  follows (Run b) = by_ground Ran (Run b) s (w.stack, out) w.checkpoints (first_fault (run_grounds s w.rules w.stack)) (after_run s (run_from octagon_model any_model (take s.rules w.rules) b 0 (at_hand s w.stack out))) (report_of (run_from octagon_model any_model (take s.rules w.rules) b 0 (at_hand s w.stack out))) refl (λ e. refl)
  follows Leave = by_ground accepted Leave s (tt {0}) w.checkpoints (first_fault (leave_grounds s)) (left (Ok tt) (record { shape = s.shape; rules = s.rules; marks = s.marks; waiting = 0; phase = Stating; found = s.found }) (tt {0})) tt refl (λ e. refl)
  follows (Limit p q) = same_by (replied LimitIs (limit_call octagon_model s p q)) (counted s)

pub counts_follow : (s s' : Solver Octagon) (m m' : Memory) (q : Request AnyRule) (r : Result Reply SolverFault) (c : Counts) → answered_by r (world s' m') m'.regions ≡ answer octagon_model any_model (world s m) m.regions q → (view s).rules ≡ c.rules → (view s).marks ≡ c.marks → counted (view s') ≡ after c q r m'.checkpoints
counts_follow s s' m m' q r c e rules marks =
    subst (λ a. counted a.world.solver ≡ after (counted (view s)) q a.reply a.world.checkpoints) (sym e) (follows (world s m) m.regions q)
    ∙ ap (λ d. after d q r m'.checkpoints) (λ i. record { rules = rules i; marks = marks i })
