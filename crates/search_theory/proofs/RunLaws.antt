-- The laws of a run: why it ended decides its outcome, and what steps on lists keep, the run keeps. Assumes nothing.
use Rattle.std.proofs.Common.{◌≡◌, ℕ, ◌+◌, ◌<◌, ◌≤◌, true, ◌≢◌, ◌↔◌, List, [], ◌∷◌, reverse, length, take, ℤ, Ok, Err, Result, sym, refl, ap, ◌∙◌, subst, arith}
use Rattle.std.specs.List.{AllByRecursion}
use Rattle.std.proofs.ByRecursion.{All-weaker}
use Rattle.std.proofs.lemmas.List.{reverse-reverse, reverse-append, length-take-le, length_push, length-reverse, same_from_push}
use Rattle.std.proofs.lemmas.Bool.{or_parts, ltb-false}
use Rattle.interface.specs.declared.fault.SolverFault.{SolverFault}
use Rattle.interface.specs.declared.point.Point.{Point}
use Rattle.interface.specs.Grounds.{first_fault}
use Rattle.interface.specs.Points.{values_of}
use Rattle.interface.specs.Rules.{RuleModel, RuleLaws}
use Rattle.interface.specs.Shapes.{ShapeModel, ShapeLaws, Made, one_if}
use Rattle.search_theory.specs.declared.fate.Fate.{Fate}
use Rattle.search_theory.specs.declared.fate.Fate.TheVariants.{Dropped, HandedOut, Split}
use Rattle.search_theory.specs.declared.outcome.Outcome.{Outcome}
use Rattle.search_theory.specs.declared.outcome.Outcome.TheVariants.{Done, Spent, ListFull, StackFull}
use Rattle.search_theory.specs.declared.region.Region.{Region}
use Rattle.search_theory.specs.Calls.{run_call, run_grounds, at_hand, after_run}
use Rattle.search_theory.specs.Promise.{Front}
use Rattle.search_theory.specs.Regions.{refine, classify}
use Rattle.search_theory.specs.RunLaws.{AllMade, OnlyFitting, Room, Runs, given, NextIs, Outcomes, Moves, Keeps, run_seen, RunLaws}
use Rattle.search_theory.specs.Runs.{Ended, run_from, report_of}
use Rattle.search_theory.specs.Solving.{Solving, refused, decided}
use Rattle.search_theory.specs.Standing.{MeetsRules, how_many, shapes_of}
use Rattle.search_theory.specs.Walks.{Held, held, walk}
use Rattle.search_theory.proofs.Cases.{err≢ok}
use Rattle.search_theory.proofs.Counting.{how_many_reverse, all_reverse}
use Rattle.search_theory.proofs.Fronts.{front_of, front_fits}
use Rattle.search_theory.proofs.Grounds.{none_hold, ok_same}
use Rattle.search_theory.proofs.Running.{Tied, tied_start, Ending, RunAs, run_as}
use Rattle.search_theory.proofs.Walking.{Good, good_walk, room_walk, split_has_room}

abbrev IsSplit : Fate → Type 0
IsSplit Dropped = ⊥
IsSplit (HandedOut x) = ⊥
IsSplit Split = Unit {0}

front_empty : {A : Type 0} (k : ℕ) (xs ys : List A) → Front k xs ys → (k ≡ 0) ↔ (take k xs ≡ [])
front_empty k xs ys f = (λ e. ap (λ j. take j xs) e, λ e. f.0 ∙ ap length (sym f.1 ∙ e))

module _ {S R : Type 0} (M : ShapeModel S) (K : RuleModel R) (r : Runs S R) where
  -- what each outcome means
  abbrev Means : Outcome → Type 0
  Means Done = r.waiting_after ≡ []
  Means Spent = (r.waiting_after ≢ []) × (r.report.steps ≡ r.budget)
  Means ListFull = (r.report.steps < r.budget) × ((x : Point) × NextIs M K r.rules r.waiting_after (HandedOut x)) × (r.report.count ≡ length r.out)
  Means StackFull = (r.report.steps < r.budget) × NextIs M K r.rules r.waiting_after Split × (length r.waiting_after ≡ length r.stack)

  next_waits : (f : Fate) → NextIs M K r.rules r.waiting_after f → r.waiting_after ≢ []
  next_waits f n e = let d = ap length (sym n.1.1 ∙ e) in let k = length_push n.1.0 n.0 in omega (arith, d, k)

  -- the next region has one fate
  next_one : (f g : Fate) → NextIs M K r.rules r.waiting_after f → NextIs M K r.rules r.waiting_after g → f ≡ g
  next_one f g a b = let e = (same_from_push a.1.0 b.1.0 a.0 b.0 (sym a.1.1 ∙ b.1.1)).1 in sym a.2 ∙ ap (λ s. classify M K r.rules (refine M K r.rules s)) e ∙ b.2

  -- no two outcomes mean the same
  means_one : (o p : Outcome) → Means o → Means p → o ≡ p
  means_one Done Done a b = refl
  means_one Done Spent a b = absurd (b.0 a)
  means_one Done ListFull a b = absurd (next_waits _ b.1.1 a)
  means_one Done StackFull a b = absurd (next_waits _ b.1 a)
  means_one Spent Done a b = absurd (a.0 b)
  means_one Spent Spent a b = refl
  means_one Spent ListFull a b = absurd (omega (arith, a.1, b.0))
  means_one Spent StackFull a b = absurd (omega (arith, a.1, b.0))
  means_one ListFull Done a b = absurd (next_waits _ a.1.1 b)
  means_one ListFull Spent a b = absurd (omega (arith, a.0, b.1))
  means_one ListFull ListFull a b = refl
  means_one ListFull StackFull a b = absurd (subst IsSplit (next_one Split _ b.1 a.1.1) tt)
  means_one StackFull Done a b = absurd (next_waits _ a.1 b)
  means_one StackFull Spent a b = absurd (omega (arith, a.0, b.1))
  means_one StackFull ListFull a b = absurd (subst IsSplit (next_one Split _ a.1 b.1.1) tt)
  means_one StackFull StackFull a b = refl

  outcomes : Means r.report.outcome → Outcomes M K r
  outcomes m =
      let go : (o : Outcome) → (r.report.outcome ≡ o) ↔ Means o = λ o. (λ e. subst Means e m, λ n. means_one r.report.outcome o m n) in
      record { done = go Done; spent = go Spent; list_full = go ListFull; stack_full = go StackFull }

-- the run of an accepted call
module _ {S R : Type 0} (M : ShapeModel S) (K : RuleModel R) (s : Solving S) (rules : List R) (stack : List S) (out : List (Region S)) (budget : ℕ) (fits : s.waiting ≤ length stack) where
  abbrev rs : List R
  rs = take s.rules rules

  abbrev begin : Held S
  begin = held (reverse (take s.waiting stack)) []

  abbrev end : Ended S
  end = run_from M K rs budget 0 (at_hand s stack out)

  abbrev seen : Runs S R
  seen = run_seen s rules stack out budget (report_of end) (after_run s end).solver end.work.stack end.work.out

  at_start : Tied s.found out (length stack) [] (at_hand s stack out) begin
  at_start = tied_start s stack out begin (front_of s.waiting stack fits)

  the_run : RunAs M K rs s.found out (length stack) [] budget 0 begin end
  the_run = run_as M K rs s.found out (length stack) [] budget 0 (at_hand s stack out) begin at_start

  means : (o : Outcome) → Ending M K rs the_run.left o end.work → Means M K seen o
  means Done e = (front_empty _ _ _ the_run.tied.of_stack).0 e
  means Spent e = (λ z. e.0 ((front_empty _ _ _ the_run.tied.of_stack).1 z), omega (arith, the_run.steps, the_run.budget, e.1))
  means ListFull e = (omega (arith, the_run.steps, the_run.budget, e.1), e.2, omega (arith, e.3, the_run.tied.of_count, the_run.tied.out_places))
  means StackFull e =
      let f = front_fits _ _ _ the_run.tied.of_stack in
      let k = length-take-le end.work.waiting end.work.stack f in
      (omega (arith, the_run.steps, the_run.budget, e.1), e.2, omega (arith, e.3, f, k, the_run.tied.stack_places))

  pub run_outcomes : Outcomes M K seen
  run_outcomes = outcomes M K seen (means end.outcome the_run.ending)

  waiting_lists : reverse (take end.work.waiting end.work.stack) ≡ (walk M K rs the_run.made begin).waiting
  waiting_lists = ap reverse the_run.tied.of_stack.1 ∙ reverse-reverse _

  pub run_moves : Moves M K seen
  run_moves =
      let d = the_run.tied in
      let k : the_run.made ≡ end.steps = omega (arith, the_run.steps) in
      record {
        by_steps = (λ i. held (waiting_lists i) (sym d.of_out i)) ∙ ap (λ j. walk M K rs j begin) k;
        within_budget = omega (arith, the_run.steps, the_run.budget);
        stack_places = d.stack_places;
        out_places = (d.out_places, omega (arith, d.of_count, d.out_places), d.past_out);
        says_found = d.of_found;
      }

  module _ (L : ShapeLaws M) (J : RuleLaws K) (n : ℕ) (made : AllMade M n (take s.waiting stack)) where
    abbrev before : List ℤ → ℕ
    before x = how_many M (take s.waiting stack) x

    abbrev Anywhere : List ℤ → Type 0
    Anywhere x = Unit {0}

    good_before : Good M K rs n Anywhere before begin
    good_before = record {
      waiting_made = all_reverse _ (take s.waiting stack) (All-weaker _ _ (λ t h. (h.0, h.1, λ x e. tt)) (take s.waiting stack) made);
      handed_fit = tt;
      counts = λ x met. let e = how_many_reverse M x (take s.waiting stack) in omega (arith, e);
    }

    good_after : Good M K rs n Anywhere before (walk M K rs the_run.made begin)
    good_after = good_walk L J rs n Anywhere before the_run.made begin good_before

    waiting_after : take end.work.waiting end.work.stack ≡ reverse (walk M K rs the_run.made begin).waiting
    waiting_after = the_run.tied.of_stack.1

    same : (x : List ℤ) → MeetsRules K n rs x → how_many M (shapes_of (given seen)) x + how_many M seen.waiting_after x ≡ before x
    same x met =
        let e = good_after.counts x met in
        let h = ap (λ gs. how_many M (shapes_of gs) x) the_run.tied.of_out in
        let w = ap (λ ss. how_many M ss x) waiting_after ∙ how_many_reverse M x (walk M K rs the_run.made begin).waiting in
        omega (arith, e, h, w)

    fitting : AllByRecursion (OnlyFitting M K n rs) (given seen)
    fitting = subst (AllByRecursion (OnlyFitting M K n rs)) the_run.tied.of_out (All-weaker _ _ (λ g h. (λ x e. (h.0 x e).1, h.1)) _ good_after.handed_fit)

    -- a region that was handed out holds a point that a waiting one held
    none_given : (gs : List (Region S)) → AllByRecursion (OnlyFitting M K n rs) gs → ((x : List ℤ) → MeetsRules K n rs x → how_many M (shapes_of gs) x ≡ 0) → gs ≡ []
    none_given [] h none = refl
    none_given (g ∷ gs) h none =
        let x = values_of g.point in
        let e = none x (h.0.0 x h.0.1) in
        let one = ap one_if h.0.1 in
        absurd (omega (arith, e, one))

    full : (most : ℕ) → Room M most (reverse seen.waiting) → most < length stack → Means M K seen StackFull → ⊥
    full most room more m =
        let t = m.1.0 in
        let under = m.1.1.0 in
        let e = m.1.1.1 in
        let list : t ∷ reverse under ≡ (walk M K rs the_run.made begin).waiting = sym (ap reverse e ∙ reverse-append under (t ∷ [])) ∙ waiting_lists in
        let is_made = subst (AllByRecursion (λ u. Made M u × (M.n u ≡ n) × ((x : List ℤ) → M.holds u x ≡ true → Anywhere x))) (sym list) good_after.waiting_made in
        let has_room = subst (Room M most) (sym list) (room_walk L J rs n Anywhere before most the_run.made begin good_before room) in
        let less = split_has_room L J rs n Anywhere before most t (reverse under) is_made.0.0 m.1.2 has_room in
        let a = length-reverse under in
        let b = ap length e in
        let c = length_push under t in
        omega (arith, less, a, b, c, m.2)

    pub run_keeps : Keeps M K n seen
    run_keeps = record {
      still_made = subst (AllMade M n) (sym waiting_after) (all_reverse _ _ (All-weaker _ _ (λ t h. (h.0, h.1)) _ good_after.waiting_made));
      same_counts = same;
      only_fitting = fitting;
      truly_found = λ e.
          let gone = run_outcomes.done.0 e in
          (λ none x met. let c = same x met in let h = ap (λ gs. how_many M (shapes_of gs) x) none in let w = ap (λ ss. how_many M ss x) gone in omega (arith, c, h, w), λ none. none_given (given seen) fitting (λ x met. let c = same x met in let z = none x met in omega (arith, c, z)));
      room_kept = λ most r. subst (Room M most) (sym waiting_lists) (room_walk L J rs n Anywhere before most the_run.made begin good_before r);
      never_full = λ most r more e. full most r more (run_outcomes.stack_full.0 e);
    }

-- an accepted run keeps its laws
module _ {S R : Type 0} {M : ShapeModel S} {K : RuleModel R} (L : ShapeLaws M) (J : RuleLaws K) where
  laws_if : (s : Solving S) (rules : List R) (stack : List S) (out : List (Region S)) (budget : ℕ) (g : Result (Unit {0}) SolverFault) → first_fault (run_grounds s rules stack) ≡ g → RunLaws M K s rules stack out budget (decided g (refused s (stack, out)) (after_run s (run_from M K (take s.rules rules) budget 0 (at_hand s stack out))))
  laws_if s rules stack out budget (Err f) e p d = absurd (err≢ok d)
  laws_if s rules stack out budget (Ok u) e p d =
      let none = none_hold (run_grounds s rules stack) u e in
      let fits = ltb-false _ _ (or_parts _ _ none.1.0).1 in
      let end = run_from M K (take s.rules rules) budget 0 (at_hand s stack out) in
      subst (λ q. let r = run_seen s rules stack out budget q (after_run s end).solver end.work.stack end.work.out in Outcomes M K r × Moves M K r × ((n : ℕ) → AllMade M n r.waiting → Keeps M K n r)) (ok_same d) (run_outcomes M K s rules stack out budget fits, run_moves M K s rules stack out budget fits, λ n made. run_keeps M K s rules stack out budget fits L J n made)

  pub run_laws : (s : Solving S) (rules : List R) (stack : List S) (out : List (Region S)) (budget : ℕ) → RunLaws M K s rules stack out budget (run_call M K s rules stack out budget)
  run_laws s rules stack out budget = laws_if s rules stack out budget (first_fault (run_grounds s rules stack)) refl
