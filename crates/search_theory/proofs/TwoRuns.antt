-- Two runs do what one of both budgets does: the one run beside the first, taken up again beside the second. Assumes nothing.
use Rattle.std.proofs.Common.{◌≡◌, ℕ, ◌+◌, ◌≤◌, ◌≢◌, List, [], reverse, length, take, Ok, Err, Result, sym, refl, ap, ◌∙◌, subst, arith}
use Rattle.std.proofs.lemmas.List.{append-nil, length-take-le}
use Rattle.std.proofs.lemmas.Bool.{or_parts, ltb-false}
use Rattle.interface.specs.declared.fault.SolverFault.{SolverFault}
use Rattle.interface.specs.Grounds.{first_fault}
use Rattle.interface.specs.Rules.{RuleModel}
use Rattle.interface.specs.Shapes.{ShapeModel}
use Rattle.search_theory.specs.declared.outcome.Outcome.TheVariants.{ListFull, StackFull}
use Rattle.search_theory.specs.declared.region.Region.{Region}
use Rattle.search_theory.specs.declared.report.Report.{Report}
use Rattle.search_theory.specs.Calls.{run_grounds, run_call, at_hand, after_run}
use Rattle.search_theory.specs.Portions.{AsBoth, Portions}
use Rattle.search_theory.specs.Runs.{Work, Ended, run_from, report_of}
use Rattle.search_theory.specs.Solving.{Solving, refused, decided}
use Rattle.search_theory.specs.Walks.{Held, held}
use Rattle.search_theory.proofs.Beside.{beside}
use Rattle.search_theory.proofs.Cases.{err≢ok}
use Rattle.search_theory.proofs.Fronts.{front_of, front_fits}
use Rattle.search_theory.proofs.Grounds.{none_hold, ok_same}
use Rattle.search_theory.proofs.Portions.{resumed}
use Rattle.search_theory.proofs.Running.{tied_start, run_as}

module _ {S R : Type 0} (M : ShapeModel S) (K : RuleModel R) (s : Solving S) (rules : List R) (stack : List S) (a b : ℕ) (out out' out'' : List (Region S)) where
  abbrev rs : List R
  rs = take s.rules rules

  abbrev first : Ended S
  first = run_from M K rs a 0 (at_hand s stack out)

  -- the solver between the two
  abbrev between : Solving S
  between = (after_run s first).solver

  abbrev second : Ended S
  second = run_from M K rs b 0 (at_hand between first.work.stack out')

  abbrev once : Ended S
  once = run_from M K rs (a + b) 0 (at_hand s stack out'')

  as_both : s.waiting ≤ length stack → first.outcome ≢ ListFull → first.outcome ≢ StackFull → second.outcome ≢ ListFull → first.work.count + second.work.count ≤ length out'' → AsBoth (after_run s first) (after_run between second) (after_run s once) (report_of first) (report_of second) (report_of once)
  as_both fits l k l' room =
      let h : Held S = held (reverse (take s.waiting stack)) [] in
      let front = front_of s.waiting stack fits in
      let d = tied_start s stack out h front in
      let t = (run_as M K rs s.found out (length stack) [] a 0 (at_hand s stack out) h d).tied in
      let e = first.work in
      let g : Held S = held (reverse (take e.waiting e.stack)) [] in
      let d' = tied_start between e.stack out' g (front_of e.waiting e.stack (front_fits _ _ _ t.of_stack)) in
      let along = beside M K rs [] s.found out (length stack) [] a 0 0 (at_hand s stack out) h d out'' 0 (record { count = refl; front = refl }) l (omega (arith, room)) in
      let half = run_from M K rs a 0 (at_hand s stack out'') in
      let there = resumed M K rs a b 0 (at_hand s stack out'') h (tied_start s stack out'' h front) (λ z. l (sym along.same_outcome ∙ z)) (λ z. k (sym along.same_outcome ∙ z)) in
      let others = take e.count e.out in
      let n = length-take-le e.count e.out t.of_count in
      let on = beside M K rs others between.found out' (length e.stack) [] b 0 half.steps (at_hand between e.stack out') g d' along.out along.count (record { count = omega (arith, n, along.after.count); front = along.after.front ∙ sym (append-nil others) }) l' (omega (arith, n, along.same_places, room)) in
      let same = there ∙ ap (run_from M K rs b half.steps) along.same_work in
      let work = ap (λ z. z.work) same ∙ on.same_work in
      record {
        outcome = ap (λ z. z.outcome) same ∙ on.same_outcome;
        steps = let x = ap (λ z. z.steps) same in let y = on.same_steps in let z = along.same_steps in omega (arith, x, y, z);
        found = ap (λ z. z.found) work;
        solver = ap (λ (z : Work S). record { shape = s.shape; rules = s.rules; marks = s.marks; waiting = z.waiting; phase = s.phase; found = z.found }) work;
        stack = ap (λ z. z.stack) work;
        regions = ap (λ z. take z.count z.out) work ∙ on.after.front;
      }

  abbrev Holds : Result (Unit {0}) SolverFault → Result (Unit {0}) SolverFault → Report → Report → Type 0
  Holds g g' p q = let one = decided g (refused s (stack, out)) (after_run s first) in let two = decided g' (refused between (first.work.stack, out')) (after_run between second) in let all = decided g (refused s (stack, out'')) (after_run s once) in one.reply ≡ Ok p → two.reply ≡ Ok q → p.outcome ≢ ListFull → p.outcome ≢ StackFull → q.outcome ≢ ListFull → p.count + q.count ≤ length out'' → (r : Report) × (all.reply ≡ Ok r) × AsBoth one two all p q r

  if_second : (u : Unit {0}) → s.waiting ≤ length stack → (g : Result (Unit {0}) SolverFault) (p q : Report) → Holds (Ok u) g p q
  if_second u fits (Err f) p q e e' l k l' room = absurd (err≢ok e')
  if_second u fits (Ok v) p q e e' l k l' room =
      let at-ends = λ (l : first.outcome ≢ ListFull) (k : first.outcome ≢ StackFull) (l' : second.outcome ≢ ListFull) (room : first.work.count + second.work.count ≤ length out''). as_both fits l k l' room in
      let x = ok_same e in
      let y = ok_same e' in
      (report_of once, refl, subst (λ q. q.outcome ≢ ListFull → p.count + q.count ≤ length out'' → AsBoth (after_run s first) (after_run between second) (after_run s once) p q (report_of once)) y (subst (λ p. p.outcome ≢ ListFull → p.outcome ≢ StackFull → second.outcome ≢ ListFull → p.count + second.work.count ≤ length out'' → AsBoth (after_run s first) (after_run between second) (after_run s once) p (report_of second) (report_of once)) x at-ends l k) l' room)

  abbrev HoldsFor : Result (Unit {0}) SolverFault → Report → Report → Type 0
  HoldsFor g p q = let one = decided g (refused s (stack, out)) (after_run s first) in let two = run_call M K one.solver rules one.slices.0 out' b in let all = decided g (refused s (stack, out'')) (after_run s once) in one.reply ≡ Ok p → two.reply ≡ Ok q → p.outcome ≢ ListFull → p.outcome ≢ StackFull → q.outcome ≢ ListFull → p.count + q.count ≤ length out'' → (r : Report) × (all.reply ≡ Ok r) × AsBoth one two all p q r

  if_first : (g : Result (Unit {0}) SolverFault) → first_fault (run_grounds s rules stack) ≡ g → (p q : Report) → HoldsFor g p q
  if_first (Err f) z p q = λ e. absurd (err≢ok e)
  if_first (Ok u) z p q =
      let none = none_hold (run_grounds s rules stack) u z in
      if_second u (ltb-false _ _ (or_parts _ _ none.1.0).1) (first_fault (run_grounds between rules first.work.stack)) p q

pub portions : {S R : Type 0} (M : ShapeModel S) (K : RuleModel R) → Portions M K
portions M K s rules stack a b out out' out'' p q = if_first M K s rules stack a b out out' out'' (first_fault (run_grounds s rules stack)) refl p q
