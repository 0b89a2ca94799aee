-- The induction over histories: every request, accepted or refused, keeps what holds. Assumes nothing.
use Rattle.std.proofs.Common.{◌≡◌, ℕ, ◌-◌, ◌<◌, false, not, ◌||◌, eqb, ltb, leb, List, [], length, take, set, ℤ, Ok, Err, Result, refl, arith}
use Rattle.std.specs.List.{slice_get}
use Rattle.std.proofs.lemmas.Bool.{or_parts, ltb-false, eqb-false, true≢false}
use Rattle.interface.specs.declared.fault.SolverFault.{SolverFault}
use Rattle.interface.specs.Grounds.{first_fault}
use Rattle.interface.specs.Rules.{RuleModel, RuleLaws}
use Rattle.interface.specs.Shapes.{ShapeModel, ShapeLaws}
use Rattle.search_theory.specs.declared.checkpoint.Checkpoint.{Checkpoint}
use Rattle.search_theory.specs.declared.phase.Phase.{Phase}
use Rattle.search_theory.specs.declared.phase.Phase.TheVariants.{Stating, Searching}
use Rattle.search_theory.specs.declared.region.Region.{Region}
use Rattle.search_theory.specs.declared.reply.Reply.{Reply}
use Rattle.search_theory.specs.declared.reply.Reply.TheVariants.{Ran, LimitIs}
use Rattle.search_theory.specs.declared.request.Request.{Request}
use Rattle.search_theory.specs.declared.request.Request.TheVariants.{State, Mark, Back, Keep, Begin, Run, Leave, Limit}
use Rattle.search_theory.specs.Calls.{state_grounds, mark_grounds, back_grounds, keep_grounds, begin_grounds, run_grounds, leave_grounds, stated, marked, restored, at_hand, after_run, limit_call}
use Rattle.search_theory.specs.Ledgers.{Ledger, noted, History, start, call}
use Rattle.search_theory.specs.Promise.{called}
use Rattle.search_theory.specs.Requests.{World, whole, answered, accepted, replied}
use Rattle.search_theory.specs.Runs.{run_from}
use Rattle.search_theory.specs.Solving.{Solving, Left, left, refused, decided, is_stating, is_searching}
use Rattle.search_theory.proofs.Grounds.{none_hold, none_after_record}
use Rattle.search_theory.proofs.Invariant.{Inv, inv_start, inv_stated, inv_marked, inv_restored, inv_kept, inv_begun, inv_left}
use Rattle.search_theory.proofs.RunKept.{inv_ran}

stating_if : (p : Phase) → not (is_stating p) ≡ false → p ≡ Stating
stating_if Stating e = refl
stating_if Searching e = absurd (true≢false e)

pub searching_if : (p : Phase) → not (is_searching p) ≡ false → p ≡ Searching
searching_if Stating e = absurd (true≢false e)
searching_if Searching e = refl

-- a place is left where the slice is neither shorter than its count nor exactly as long
place_left : (most k n : ℕ) → ltb n k ≡ false → (leb most k || eqb n k) ≡ false → k < n
place_left most k n short full = let a = ltb-false n k short in let b = eqb-false n k (or_parts (leb most k) (eqb n k) full).1 in omega (arith, a, b)

some_place : (n : ℕ) → eqb n 0 ≡ false → 0 < n
some_place n e = let b = eqb-false n 0 e in omega (arith, b)

module _ {S R : Type 0} {M : ShapeModel S} {K : RuleModel R} (L : ShapeLaws M) (J : RuleLaws K) (l : Ledger S R) (w : World S R) (rest : List R) (more : List (Checkpoint S)) (deep : List S) (inv : Inv M K l (whole w rest more deep)) where
  abbrev s : Solving S
  s = w.solver

  abbrev places : ℕ
  places = length w.stack

  -- what a call leaves, accepted or refused, with the slices that it does not write as they were
  abbrev Still : {A T : Type 0} → (A → Reply) → Request R → (T → List R) → (T → List (Checkpoint S)) → (T → List S) → Left S A T → Type 0
  Still f q rules checkpoints stack a = Inv M K (noted M K l places q (replied f a.reply)) (whole (answered f a (rules a.slices) (checkpoints a.slices) (stack a.slices) []).world rest more deep)

  state_if : (r : R) (g : Result (Unit {0}) SolverFault) → first_fault (state_grounds M K s w.rules r) ≡ g → Still accepted (State r) (λ t. t) (λ t. w.checkpoints) (λ t. w.stack) (decided g (refused s w.rules) (left (Ok tt) (stated M K s r) (set w.rules s.rules r)))
  state_if r (Err f) e = inv
  state_if r (Ok u) e =
      let h = none_hold (state_grounds M K s w.rules r) u e in
      let last = none_after_record (K.check (M.n s.shape) r) _ h.1.1 in
      inv_stated L J l w rest more deep places inv r (stating_if s.phase h.0) (place_left 32 s.rules (length w.rules) h.1.0 last.0)

  mark_if : (g : Result (Unit {0}) SolverFault) → first_fault (mark_grounds s w.checkpoints) ≡ g → Still accepted Mark (λ t. w.rules) (λ t. t) (λ t. w.stack) (decided g (refused s w.checkpoints) (left (Ok tt) (marked s) (set w.checkpoints s.marks (record { shape = s.shape; rules = s.rules }))))
  mark_if (Err f) e = inv
  mark_if (Ok u) e = let h = none_hold (mark_grounds s w.checkpoints) u e in inv_marked L J l w rest more deep places inv (place_left 4 s.marks (length w.checkpoints) h.1.0 h.1.1.0)

  back_if : (g : Result (Unit {0}) SolverFault) → first_fault (back_grounds s w.checkpoints) ≡ g → Still accepted Back (λ t. w.rules) (λ t. w.checkpoints) (λ t. w.stack) (decided g (refused s (tt {0})) (left (Ok tt) (restored s (slice_get w.checkpoints (s.marks - 1))) (tt {0})))
  back_if (Err f) e = inv
  back_if (Ok u) e = let h = none_hold (back_grounds s w.checkpoints) u e in inv_restored L J l w rest more deep places inv (stating_if s.phase h.0) (eqb-false s.marks 0 h.1.1.0) (ltb-false (length w.checkpoints) s.marks h.1.0)

  keep_if : (g : Result (Unit {0}) SolverFault) → first_fault (keep_grounds s) ≡ g → Still accepted Keep (λ t. w.rules) (λ t. w.checkpoints) (λ t. w.stack) (decided g (refused s (tt {0})) (left (Ok tt) (record { shape = s.shape; rules = s.rules; marks = s.marks - 1; waiting = s.waiting; phase = s.phase; found = s.found }) (tt {0})))
  keep_if (Err f) e = inv
  keep_if (Ok u) e = let h = none_hold (keep_grounds s) u e in inv_kept L J l w rest more deep places inv (eqb-false s.marks 0 h.1.0)

  begin_if : (g : Result (Unit {0}) SolverFault) → first_fault (begin_grounds s w.stack) ≡ g → Still accepted Begin (λ t. w.rules) (λ t. w.checkpoints) (λ t. t) (decided g (refused s w.stack) (left (Ok tt) (record { shape = s.shape; rules = s.rules; marks = s.marks; waiting = 1; phase = Searching; found = false }) (set w.stack 0 s.shape)))
  begin_if (Err f) e = inv
  begin_if (Ok u) e = let h = none_hold (begin_grounds s w.stack) u e in inv_begun L J l w rest more deep places inv (some_place (length w.stack) h.1.0)

  leave_if : (g : Result (Unit {0}) SolverFault) → first_fault (leave_grounds s) ≡ g → Still accepted Leave (λ t. w.rules) (λ t. w.checkpoints) (λ t. w.stack) (decided g (refused s (tt {0})) (left (Ok tt) (record { shape = s.shape; rules = s.rules; marks = s.marks; waiting = 0; phase = Stating; found = s.found }) (tt {0})))
  leave_if (Err f) e = inv
  leave_if (Ok u) e = inv_left L J l w rest more deep places inv

  run_if : (b : ℕ) (out : List (Region S)) (g : Result (Unit {0}) SolverFault) → first_fault (run_grounds s w.rules w.stack) ≡ g → Still Ran (Run b) (λ t. w.rules) (λ t. w.checkpoints) (λ t. t.0) (decided g (refused s (w.stack, out)) (after_run s (run_from M K (take s.rules w.rules) b 0 (at_hand s w.stack out))))
  run_if b out (Err f) e = inv
  run_if b out (Ok u) e =
      let h = none_hold (run_grounds s w.rules w.stack) u e in
      let d = or_parts (ltb (length w.rules) s.rules) (ltb (length w.stack) s.waiting) h.1.0 in
      inv_ran L J l w rest more deep places inv b out (ltb-false _ _ d.1) (ltb-false _ _ d.0)

  limit_if : (p q : ℕ) (r : Result ℤ SolverFault) → Inv M K (noted M K l places (Limit p q) (replied LimitIs r)) (whole w rest more deep)
  limit_if p q (Ok z) = inv
  limit_if p q (Err f) = inv

  -- any request
  pub inv_called : (out : List (Region S)) (q : Request R) → Inv M K (called M K l w rest more deep out q).after (called M K l w rest more deep out q).world
  inv_called out (State r) = state_if r (first_fault (state_grounds M K s w.rules r)) refl
  inv_called out Mark = mark_if (first_fault (mark_grounds s w.checkpoints)) refl
  inv_called out Back = back_if (first_fault (back_grounds s w.checkpoints)) refl
  inv_called out Keep = keep_if (first_fault (keep_grounds s)) refl
  inv_called out Begin = begin_if (first_fault (begin_grounds s w.stack)) refl
  inv_called out (Run b) = run_if b out (first_fault (run_grounds s w.rules w.stack)) refl
  inv_called out Leave = leave_if (first_fault (leave_grounds s)) refl
  inv_called out (Limit p q) = limit_if p q (limit_call M s p q)

module _ {S R : Type 0} {M : ShapeModel S} {K : RuleModel R} (L : ShapeLaws M) (J : RuleLaws K) where
  -- it holds along every history
  pub inv_history : {l : Ledger S R} {w : World S R} → History M K l w → Inv M K l w
  inv_history (start h p rules checkpoints stack) = inv_start L J h p rules checkpoints stack
  inv_history (call l w rest more deep before out q) = inv_called L J l w rest more deep (inv_history before) out q
