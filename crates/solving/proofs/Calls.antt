-- Each call is accepted, so the history's ledger has the problem's rules; the promise then speaks of the problem itself. Assumes nothing.
use Rattle.std.proofs.Common.{◌≡◌, ℕ, ◌+◌, ◌<◌, ◌≤◌, Bool, true, false, not, ◌||◌, eqb, leb, ◌≢◌, ◌↔◌, List, [], ◌∷◌, ◌++◌, map, reverse, length, take, set, ℤ, Ok, Result, sym, refl, ap, ◌∙◌, subst, append_assoc, arith, length-set, length-take}
use Rattle.std.proofs.lemmas.List.{append-nil, length_push, reverse-reverse}
use Rattle.std.proofs.lemmas.Bool.{le-ltb, lt-leb, ne_eqb, or_from, le-leb, and_from}
use Rattle.std.specs.List.{AllByRecursion}
use Rattle.interface.specs.declared.fault.RecordFault.{RecordFault}
use Rattle.interface.specs.declared.fault.SolverFault.TheVariants.{Phase, Short, Rules, Stack}
use Rattle.interface.specs.declared.home.Home.{Home}
use Rattle.interface.specs.Grounds.{first_fault}
use Rattle.interface.specs.Points.{values_of}
use Rattle.interface.specs.Rules.{RuleModel, RuleLaws}
use Rattle.interface.specs.Shapes.{ShapeModel, ShapeLaws}
use Rattle.search_theory.specs.declared.outcome.Outcome.TheVariants.{Done, StackFull}
use Rattle.search_theory.specs.declared.report.Report.{Report}
use Rattle.search_theory.specs.declared.phase.Phase.TheVariants.{Stating, Searching}
use Rattle.search_theory.specs.declared.region.Region.{Region}
use Rattle.search_theory.specs.declared.reply.Reply.TheVariants.{Accepted, Ran}
use Rattle.search_theory.specs.declared.request.Request.{Request}
use Rattle.search_theory.specs.declared.request.Request.TheVariants.{State, Begin, Run}
use Rattle.search_theory.specs.Calls.{state_grounds, begin_grounds, run_grounds, record_grounds, stated, run_call, at_hand, after_run}
use Rattle.search_theory.specs.Ledgers.{Ledger, History, noted, heard, opened_ledger}
use Rattle.search_theory.specs.Ledgers.History.{start, call}
use Rattle.search_theory.specs.Requests.{World, Answered, whole, answer, replied, accepted}
use Rattle.search_theory.specs.Promise.{Called, called, Kept, RunWith}
use Rattle.search_theory.specs.Runs.{Ended, run_from, report_of}
use Rattle.search_theory.specs.Standing.{shape_of, how_many, shapes_of}
use Rattle.search_theory.specs.Solving.{Left, left, refused, decided, is_stating, is_searching}
use Rattle.search_theory.proofs.Fronts.{front_fits}
use Rattle.search_theory.proofs.Histories.{inv_history}
use Rattle.search_theory.proofs.Invariant.{Inv}
use Rattle.search_theory.proofs.Promise.{promised}
use Rattle.search_theory.proofs.RunLaws.{run_laws}
use Rattle.search_theory.proofs.Standing.{shape_n}
use Rattle.solving.specs.Solving.{Slices, after_calls, fresh, stated_all, SolvesTruly, Setting}

-- no ground holds, in each of the three calls
state_clear : (a b d : Bool) (c : Result (Unit {0}) RecordFault) → a ≡ false → b ≡ false → c ≡ Ok tt → d ≡ false → first_fault ((a, Phase) ∷ (b, Short) ∷ (record_grounds c ++ (d, Rules) ∷ [])) ≡ Ok tt
state_clear a b d c p q r s = simp (p, q, r, s)

begin_clear : (a b : Bool) → a ≡ false → b ≡ false → first_fault ((a, Phase) ∷ (b, Stack) ∷ []) ≡ Ok tt
begin_clear a b p q = simp (p, q)

run_clear : (a b : Bool) → a ≡ false → b ≡ false → first_fault ((a, Phase) ∷ (b, Short) ∷ []) ≡ Ok tt
run_clear a b p q = simp (p, q)

-- more than none and at most that many: a place is left
place : (k n m : ℕ) → k < n → k < m → (leb m k || eqb n k) ≡ false
place k n m h g = or_from (leb m k) (eqb n k) (lt-leb m k g) (ne_eqb n k (λ e. omega (arith, e)))

module _ {S R : Type 0} {M : ShapeModel S} {K : RuleModel R} (L : ShapeLaws M) (J : RuleLaws K) where
  -- a call that is lent the whole slices
  all_lent : (w : World S R) → whole w [] [] [] ≡ w
  all_lent w = λ i. record { solver = w.solver; rules = append-nil w.rules i; checkpoints = append-nil w.checkpoints i; stack = append-nil w.stack i }

  pub called_next : (l : Ledger S R) (w : World S R) → History M K l w → (out : List (Region S)) (q : Request R) → History M K (noted M K l (length w.stack) q (answer M K w out q).reply) (answer M K w out q).world
  called_next l w h out q = subst (History M K (noted M K l (length w.stack) q (answer M K w out q).reply)) (all_lent (answer M K w out q).world) (call l w [] [] [] (subst (History M K l) (sym (all_lent w)) h) out q)

  module _ (h : Home) (m : Slices S R) where
    -- what a history shows while the rules are stated: these stand, and the slices are as long as they were
    record Ready (l : Ledger S R) (w : World S R) (standing : List R) : Type 0 where
      history : History M K l w
      of_home : l.home ≡ h
      of_standing : l.standing ≡ standing
      of_phase : l.search.phase ≡ Stating
      of_rules : length w.rules ≡ length m.rules
      of_stack : length w.stack ≡ length m.stack

    -- one rule more stands
    one_stated : (l : Ledger S R) (w : World S R) (done : List R) (r : R) → Ready l w done → K.check h.n r ≡ Ok tt → length done < 32 → length done < length m.rules → (l' : Ledger S R) × Ready l' (answer M K w m.out (State r)).world (done ++ r ∷ [])
    one_stated l w done r y check few places =
        let inv = inv_history L J y.history in
        let s = w.solver in
        let count = inv.ties.of_rules.0 ∙ ap length y.of_standing in
        let phase = inv.ties.of_phase ∙ y.of_phase in
        let n = ap M.n inv.ties.of_shape ∙ shape_n L J l.home inv.passes l.standing ∙ ap (λ a. a.n) y.of_home in
        let clear : first_fault (state_grounds M K s w.rules r) ≡ Ok tt = state_clear _ _ _ _ (ap (λ p. not (is_stating p)) phase) (le-ltb _ _ (omega (arith, count, y.of_rules))) (ap (λ k. K.check k r) n ∙ check) (place s.rules (length w.rules) 32 (omega (arith, count, y.of_rules)) (omega (arith, count))) in
        let reply : (answer M K w m.out (State r)).reply ≡ Ok Accepted = ap (λ g. replied accepted (decided g (refused s w.rules) (left (Ok tt) (stated M K s r) (set w.rules s.rules r))).reply) clear in
        let rules : (answer M K w m.out (State r)).world.rules ≡ set w.rules s.rules r = ap (λ g. (decided {X = Left S (Unit {0}) (List R)} g (refused s w.rules) (left (Ok tt) (stated M K s r) (set w.rules s.rules r))).slices) clear in (
          heard M K l (length w.stack) (State r) Accepted,
          record {
            history = subst (λ a. History M K (noted M K l (length w.stack) (State r) a) (answer M K w m.out (State r)).world) reply (called_next l w y.history m.out (State r));
            of_home = y.of_home;
            of_standing = ap (λ rs. rs ++ r ∷ []) y.of_standing;
            of_phase = y.of_phase;
            of_rules = ap length rules ∙ length-set w.rules s.rules r ∙ y.of_rules;
            of_stack = y.of_stack;
          },
        )

    -- every rule stands
    all_stated : (rs : List R) (l : Ledger S R) (w : World S R) (done all : List R) → Ready l w done → done ++ rs ≡ all → AllByRecursion (λ r. K.check h.n r ≡ Ok tt) rs → length done + length rs ≤ 32 → length done + length rs ≤ length m.rules → (l' : Ledger S R) × Ready l' (after_calls M K w m.out (map State rs)) all
    all_stated [] l w done all y e checks few places =
        (l, record { history = y.history; of_home = y.of_home; of_standing = y.of_standing ∙ sym (append-nil done) ∙ e; of_phase = y.of_phase; of_rules = y.of_rules; of_stack = y.of_stack })
    all_stated (r ∷ rs) l w done all y e checks few places =
        let next = one_stated l w done r y checks.0 (omega arith) (omega arith) in
        let pushed = length_push done r in
        all_stated rs next.0 _ (done ++ r ∷ []) all next.1 (append_assoc done (r ∷ []) rs ∙ e) checks.1 (omega (arith, pushed)) (omega (arith, pushed))

    -- what a history shows once the search has begun
    record Begun (l : Ledger S R) (w : World S R) (rs : List R) : Type 0 where
      history : History M K l w
      of_home : l.home ≡ h
      of_standing : l.standing ≡ rs
      of_phase : l.search.phase ≡ Searching
      of_handed : l.search.regions.handed ≡ []
      of_need : l.search.need ≡ 1 + M.halvings (shape_of M K h rs)
      of_ample : l.search.ample ≡ true
      of_stack : length w.stack ≡ length m.stack

    search_begun : (l : Ledger S R) (w : World S R) (rs : List R) → Ready l w rs → 0 < length m.stack → (l' : Ledger S R) × Begun l' (answer M K w m.out Begin).world rs
    search_begun l w rs y some =
        let inv = inv_history L J y.history in
        let s = w.solver in
        let phase = inv.ties.of_phase ∙ y.of_phase in
        let end : Left S (Unit {0}) (List S) = left (Ok tt) (record { shape = s.shape; rules = s.rules; marks = s.marks; waiting = 1; phase = Searching; found = false }) (set w.stack 0 s.shape) in
        let clear : first_fault (begin_grounds s w.stack) ≡ Ok tt = begin_clear _ _ (ap (λ p. not (is_stating p)) phase) (ne_eqb _ _ (λ e. omega (arith, e, y.of_stack))) in
        let reply : (answer M K w m.out Begin).reply ≡ Ok Accepted = ap (λ g. replied accepted (decided g (refused s w.stack) end).reply) clear in
        let stack : (answer M K w m.out Begin).world.stack ≡ set w.stack 0 s.shape = ap (λ g. (decided {X = Left S (Unit {0}) (List S)} g (refused s w.stack) end).slices) clear in (
          heard M K l (length w.stack) Begin Accepted,
          record {
            history = subst (λ a. History M K (noted M K l (length w.stack) Begin a) (answer M K w m.out Begin).world) reply (called_next l w y.history m.out Begin);
            of_home = y.of_home;
            of_standing = y.of_standing;
            of_phase = refl;
            of_handed = refl;
            of_need = ap (λ a. 1 + M.halvings (shape_of M K a l.standing)) y.of_home ∙ ap (λ a. 1 + M.halvings (shape_of M K h a)) y.of_standing;
            of_ample = refl;
            of_stack = ap length stack ∙ length-set w.stack 0 s.shape ∙ y.of_stack;
          },
        )

    -- a list whose mirror image is empty is empty
    none_left : {A : Type 0} (xs : List A) → reverse xs ≡ [] → xs ≡ []
    none_left xs e = sym (reverse-reverse xs) ∙ ap reverse e

    module _ (l : Ledger S R) (w : World S R) (rs : List R) (y : Begun l w rs) (budget : ℕ) where
      abbrev a : Answered S R
      a = answer M K w m.out (Run budget)

      abbrev ending : Ended S
      ending = run_from M K (take w.solver.rules w.rules) budget 0 (at_hand w.solver w.stack m.out)

      inv : Inv M K l w
      inv = inv_history L J y.history

      clear : first_fault (run_grounds w.solver w.rules w.stack) ≡ Ok tt
      clear = run_clear _ _ (ap (λ p. not (is_searching p)) (inv.ties.of_phase ∙ y.of_phase)) (or_from _ _ (le-ltb _ _ (front_fits _ _ _ inv.ties.of_rules)) (le-ltb _ _ (front_fits _ _ _ inv.ties.of_stack)))

      ran : (run_call M K w.solver w.rules w.stack m.out budget).reply ≡ Ok (report_of ending)
      ran = ap (λ g. (decided {X = Left S Report (List S × List (Region S))} g (refused w.solver (w.stack, m.out)) (after_run w.solver ending)).reply) clear

      reply : a.reply ≡ Ok (Ran (report_of ending))
      reply = ap (replied Ran) ran

      kept : Kept M K (called M K l w [] [] [] m.out (Run budget))
      kept = (promised L J l w [] [] [] (subst (History M K l) (sym (all_lent w)) y.history) m.out (Run budget)).0

      abbrev c : Called S R
      c = called M K l w [] [] [] m.out (Run budget)

      noted_is : c.after ≡ heard M K l (length w.stack) (Run budget) (Ran (report_of ending))
      noted_is = ap (noted M K l (length w.stack) (Run budget)) reply

      is_home : c.after.home ≡ h
      is_home = ap (λ b. b.home) noted_is ∙ y.of_home

      is_standing : c.after.standing ≡ rs
      is_standing = ap (λ b. b.standing) noted_is ∙ y.of_standing

      searching : c.after.search.phase ≡ Searching
      searching = ap (λ b. b.search.phase) noted_is ∙ y.of_phase

      with_report : RunWith c (report_of ending)
      with_report = ((budget, refl), reply)

      is_handed : c.after.search.regions.handed ≡ take ending.work.count a.out
      is_handed = kept.put_out (report_of ending) with_report ∙ ap (λ gs. gs ++ take ending.work.count a.out) y.of_handed

      -- at done nothing waits
      none_waits : ending.outcome ≡ Done → c.after.search.regions.waiting ≡ []
      none_waits done =
          let empty = (run_laws L J w.solver w.rules w.stack m.out budget (report_of ending) ran).0.done.0 done in
          let front = kept.ties.of_stack in
          none_left _ (sym front.1 ∙ ap (take a.world.solver.waiting) (append-nil a.world.stack) ∙ empty)

      is_sound : AllByRecursion (λ g. ((x : List ℤ) → M.holds g.shape x ≡ true → Setting K h rs x) × (M.holds g.shape (values_of g.point) ≡ true)) (take ending.work.count a.out)
      is_sound =
          let P : Home → List R → List (Region S) → Type 0 = λ b st gs. AllByRecursion (λ g. ((x : List ℤ) → M.holds g.shape x ≡ true → Setting K b st x) × (M.holds g.shape (values_of g.point) ≡ true)) gs in
          subst (P h rs) is_handed (subst (λ st. P h st c.after.search.regions.handed) is_standing (subst (λ b. P b c.after.standing c.after.search.regions.handed) is_home (kept.sound_regions searching)))

      is_covered : ending.outcome ≡ Done → (x : List ℤ) → Setting K h rs x → how_many M (shapes_of (take ending.work.count a.out)) x ≡ 1
      is_covered done x fits =
          let P : Home → List R → Type 0 = λ b st. Setting K b st x in
          let there = subst (λ b. P b c.after.standing) (sym is_home) (subst (P h) (sym is_standing) fits) in
          let both = kept.exact_cover searching x there in
          let waiting = ap (λ ss. how_many M ss x) (none_waits done) in
          let handed = ap (λ gs. how_many M (shapes_of gs) x) is_handed in
          omega (arith, both, waiting, handed)

      is_found : ending.outcome ≡ Done → (ending.work.found ≡ false) ↔ ((x : List ℤ) → Setting K h rs x → ⊥)
      is_found done =
          let P : Home → List R → Type 0 = λ b st. (ending.work.found ≡ false) ↔ ((x : List ℤ) → Setting K b st x → ⊥) in
          subst (P h) is_standing (subst (λ b. P b c.after.standing) is_home (kept.truthful_found (report_of ending) with_report done))

      is_few : length (take ending.work.count a.out) ≤ length m.out
      is_few =
          let places = (run_laws L J w.solver w.rules w.stack m.out budget (report_of ending) ran).1.out_places.1 in
          let taken = length-take ending.work.count a.out in
          omega (arith, places, taken)

      has_room : 1 + M.halvings (shape_of M K h rs) ≤ length m.stack → ending.outcome ≢ StackFull
      has_room enough =
          kept.stack_suffices
          (ap (λ b. b.search.ample) noted_is ∙ and_from l.search.ample (leb l.search.need (length w.stack)) y.of_ample (le-leb _ _ (omega (arith, y.of_need, y.of_stack))))
          (report_of ending) with_report

  pub solves_truly : SolvesTruly M K
  solves_truly h m rs y budget =
      let fresh-ready : Ready h m (opened_ledger h) (fresh M K h m) [] = record { history = start h y.home_passes m.rules m.checkpoints m.stack; of_home = refl; of_standing = refl; of_phase = refl; of_rules = refl; of_stack = refl } in
      let stated = all_stated h m rs (opened_ledger h) (fresh M K h m) [] rs fresh-ready refl y.rules_pass (omega (arith, y.few)) (omega (arith, y.places)) in
      let begun = search_begun h m stated.0 (stated_all M K h m rs) rs stated.1 y.some_stack in
      let l = begun.0 in
      let w = (answer M K (stated_all M K h m rs) m.out Begin).world in (
        report_of (ending h m l w rs begun.1 budget),
        reply h m l w rs begun.1 budget,
        record {
          sound = is_sound h m l w rs begun.1 budget;
          cover = is_covered h m l w rs begun.1 budget;
          found = is_found h m l w rs begun.1 budget;
          room = has_room h m l w rs begun.1 budget;
        },
        is_few h m l w rs begun.1 budget,
      )
