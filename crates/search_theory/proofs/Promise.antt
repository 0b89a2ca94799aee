-- The promise: what holds along histories gives each statement; what a run or a limit answers is read off its call. Assumes nothing.
use Rattle.std.proofs.Common.{◌≡◌, ℕ, ◌≤◌, true, false, ltb, ◌≢◌, ◌↔◌, List, [], ◌++◌, reverse, length, take, ℤ, Ok, Err, Result, sym, refl, ap, ◌∙◌, subst, arith}
use Rattle.std.proofs.ByRecursion.{All-weaker}
use Rattle.std.proofs.lemmas.List.{reverse-reverse, length-reverse, nil_from_length}
use Rattle.std.proofs.lemmas.Bool.{and_parts, leb-true, or_parts, ltb-false}
use Rattle.interface.specs.declared.fault.SolverFault.{SolverFault}
use Rattle.interface.specs.Grounds.{first_fault}
use Rattle.interface.specs.Rules.{RuleModel, RuleLaws}
use Rattle.interface.specs.Shapes.{ShapeModel, ShapeLaws}
use Rattle.search_theory.specs.declared.checkpoint.Checkpoint.{Checkpoint}
use Rattle.search_theory.specs.declared.outcome.Outcome.TheVariants.{Done, StackFull}
use Rattle.search_theory.specs.declared.phase.Phase.TheVariants.{Searching}
use Rattle.search_theory.specs.declared.region.Region.{Region}
use Rattle.search_theory.specs.declared.reply.Reply.{Reply}
use Rattle.search_theory.specs.declared.reply.Reply.TheVariants.{Accepted, Ran, LimitIs}
use Rattle.search_theory.specs.declared.report.Report.{Report}
use Rattle.search_theory.specs.declared.request.Request.{Request}
use Rattle.search_theory.specs.declared.request.Request.TheVariants.{Run}
use Rattle.search_theory.specs.Calls.{run_call, run_grounds, at_hand, after_run}
use Rattle.search_theory.specs.Ledgers.{Ledger, noted}
use Rattle.search_theory.specs.Promise.{Front, Fits, Called, called, Kept, RunWith, Promise}
use Rattle.search_theory.specs.Requests.{World, whole, replied, answered}
use Rattle.search_theory.specs.RunLaws.{AllMade, Room}
use Rattle.search_theory.specs.Runs.{Ended, run_from, report_of}
use Rattle.search_theory.specs.Solving.{refused, decided}
use Rattle.search_theory.specs.Standing.{shape_of}
use Rattle.search_theory.proofs.Cases.{err≢ok}
use Rattle.search_theory.proofs.Counting.{all_reverse}
use Rattle.search_theory.proofs.Fronts.{front_lent}
use Rattle.search_theory.proofs.Grounds.{none_hold, ok_same}
use Rattle.search_theory.proofs.Histories.{inv_called, inv_history, searching_if}
use Rattle.search_theory.proofs.Invariant.{Inv}
use Rattle.search_theory.proofs.Limits.{kept_limits}
use Rattle.search_theory.proofs.RunKept.{the_run, tied_after, rules_stand, inv_by, cover, sound, found_truly}
use Rattle.search_theory.proofs.RunLaws.{run_laws}
use Rattle.search_theory.proofs.Running.{Ending}

report_in : Report → Reply → Report
report_in d Accepted = d
report_in d (Ran p) = p
report_in d (LimitIs z) = d

ran_same : (p q : Report) → Ran p ≡ Ran q → p ≡ q
unfolding report_in
ran_same p q e = ap (report_in p) e

replied_ran : (r : Result Report SolverFault) (p : Report) → replied Ran r ≡ Ok (Ran p) → r ≡ Ok p
replied_ran (Ok q) p e = ap Ok (ran_same q p (ok_same e))
replied_ran (Err f) p e = absurd (err≢ok e)

-- nothing waits in the ledger where the count is 0
none_wait : {A : Type 0} (k : ℕ) (xs ws : List A) → Front k xs (reverse ws) → k ≡ 0 → ws ≡ []
none_wait k xs ws f e = nil_from_length ws (sym (length-reverse ws) ∙ sym f.0 ∙ e)

-- the three statements about a run, of a call that was one
abbrev RunKept : {S R : Type 0} → RuleModel R → Called S R → Report → Type 0
RunKept K c p = (c.after.search.regions.handed ≡ c.before.search.regions.handed ++ take p.count c.out) × (p.outcome ≡ Done → (p.found ≡ false) ↔ ((x : List ℤ) → Fits K c.after x → ⊥)) × (c.after.search.ample ≡ true → p.outcome ≢ StackFull)

module _ {S R : Type 0} {M : ShapeModel S} {K : RuleModel R} (L : ShapeLaws M) (J : RuleLaws K) (l : Ledger S R) (w : World S R) (rest : List R) (more : List (Checkpoint S)) (deep : List S) (inv : Inv M K l (whole w rest more deep)) (out : List (Region S)) where
  abbrev ending_by : ℕ → List R → Ended S
  ending_by b rs = run_from M K rs b 0 (at_hand w.solver w.stack out)

  -- the call of a run with these rules, stopped or not by its grounds
  abbrev called_by : ℕ → List R → Result (Unit {0}) SolverFault → Called S R
  called_by b rs g = let a = decided g (refused w.solver (w.stack, out)) (after_run w.solver (ending_by b rs)) in let d = answered Ran a w.rules w.checkpoints a.slices.0 a.slices.1 in record { request = Run b; reply = d.reply; before = l; after = noted M K l (length w.stack) (Run b) d.reply; world = whole d.world rest more deep; out = d.out }

  -- the next region to be split has room in a slice that is one place longer than the halvings
  not_full : (b : ℕ) (p : Report) → l.search.phase ≡ Searching → w.solver.waiting ≤ length w.stack → (run_call M K w.solver w.rules w.stack out b).reply ≡ Ok p → l.search.need ≤ length w.stack → p.outcome ≢ StackFull
  not_full b p searching fits e ample =
      let front = front_lent w.solver.waiting w.stack (reverse l.search.regions.waiting) deep fits inv.ties.of_stack in
      let list = ap reverse front.1 ∙ reverse-reverse l.search.regions.waiting in
      let made = subst (AllMade M l.home.n) (sym front.1) (all_reverse _ _ (All-weaker _ _ (λ t h. (h.0, h.1)) _ (inv.good searching).waiting_made)) in
      let room = subst (Room M (M.halvings (shape_of M K l.home l.standing))) (sym list) (inv.room searching) in
      let need = inv.need searching in
      ((run_laws L J w.solver w.rules w.stack out b p e).2 l.home.n made).never_full _ room (omega (arith, need, ample))

  kept_by : (b : ℕ) → l.search.phase ≡ Searching → (fits : w.solver.waiting ≤ length w.stack) → (u : Unit {0}) → let c = called_by b l.standing (Ok u) in let e = ending_by b l.standing in (c.after.search.regions.handed ≡ l.search.regions.handed ++ take e.work.count e.work.out) × (e.outcome ≡ Done → (e.work.found ≡ false) ↔ ((x : List ℤ) → Fits K c.after x → ⊥))
  kept_by b searching fits u = (
    (tied_after L J l w rest more deep (length w.stack) inv b out fits).of_out,
    λ done.
        let stopped = subst (λ o. Ending M K l.standing (the_run L J l w rest more deep (length w.stack) inv b out fits).left o (ending_by b l.standing).work) done (the_run L J l w rest more deep (length w.stack) inv b out fits).ending in
        let gone = none_wait _ _ _ (tied_after L J l w rest more deep (length w.stack) inv b out fits).of_stack stopped in
        found_truly L J _ _ (inv_by L J l w rest more deep (length w.stack) inv b out fits) searching gone,
  )

  run_kept_if : (b : ℕ) (g : Result (Unit {0}) SolverFault) → first_fault (run_grounds w.solver w.rules w.stack) ≡ g → (p : Report) → (called_by b (take w.solver.rules w.rules) g).reply ≡ Ok (Ran p) → (run_call M K w.solver w.rules w.stack out b).reply ≡ Ok p → RunKept K (called_by b (take w.solver.rules w.rules) g) p
  run_kept_if b (Err f) e p r a = absurd (err≢ok r)
  run_kept_if b (Ok u) e p r a =
      let h = none_hold (run_grounds w.solver w.rules w.stack) u e in
      let d = or_parts (ltb (length w.rules) w.solver.rules) (ltb (length w.stack) w.solver.waiting) h.1.0 in
      let fits = ltb-false _ _ d.1 in
      let searching = sym inv.ties.of_phase ∙ searching_if w.solver.phase h.0 in
      let same = ran_same _ p (ok_same r) in
      let stand = rules_stand L J l w rest more deep (length w.stack) inv b out (ltb-false _ _ d.0) in
      let at-standing = kept_by b searching fits u in
      let both = subst (λ rs. let c = called_by b rs (Ok u) in let end = ending_by b rs in (c.after.search.regions.handed ≡ l.search.regions.handed ++ take end.work.count end.work.out) × (end.outcome ≡ Done → (end.work.found ≡ false) ↔ ((x : List ℤ) → Fits K c.after x → ⊥))) (sym stand) at-standing in
      subst (RunKept K (called_by b (take w.solver.rules w.rules) (Ok u))) same (both.0, both.1, λ ample. not_full b (report_of (ending_by b (take w.solver.rules w.rules))) searching fits (a ∙ ap Ok (sym same)) (leb-true _ _ (and_parts l.search.ample _ ample).1))

  run_kept : (b : ℕ) (p : Report) → (called M K l w rest more deep out (Run b)).reply ≡ Ok (Ran p) → RunKept K (called M K l w rest more deep out (Run b)) p
  run_kept b p r = run_kept_if b (first_fault (run_grounds w.solver w.rules w.stack)) refl p r (replied_ran (run_call M K w.solver w.rules w.stack out b).reply p r)

  kept_if : (q : Request R) (p : Report) → RunWith (called M K l w rest more deep out q) p → RunKept K (called M K l w rest more deep out q) p
  kept_if q p r = subst (λ a. (called M K l w rest more deep out a).reply ≡ Ok (Ran p) → RunKept K (called M K l w rest more deep out a) p) (sym r.0.1) (run_kept r.0.0 p) r.1

  pub kept : (q : Request R) → Kept M K (called M K l w rest more deep out q)
  kept q =
      let after = inv_called L J l w rest more deep inv out q in
      record {
        ties = after.ties;
        put_out = λ p r. (kept_if q p r).0;
        exact_cover = λ e. cover L J _ _ after e;
        sound_regions = λ e. sound L J _ _ after e;
        truthful_found = λ p r. (kept_if q p r).1;
        stack_suffices = λ ample p r. (kept_if q p r).2 ample;
      }

-- the induction and both parts
module _ {S R : Type 0} {M : ShapeModel S} {K : RuleModel R} (L : ShapeLaws M) (J : RuleLaws K) where
  pub promised : Promise M K
  promised l w rest more deep h out q =
      let inv = inv_history L J h in
      (kept L J l w rest more deep inv out q, λ exact. kept_limits L J exact l w rest more deep inv out q)
