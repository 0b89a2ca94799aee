-- A run keeps what holds along histories, and what it answers is true of the ledger. Assumes nothing.
use Rattle.std.proofs.Common.{◌≡◌, ℕ, ◌+◌, ◌≤◌, Bool, true, false, ◌≢◌, ◌⊎◌, ◌↔◌, List, [], ◌∷◌, ◌++◌, reverse, length, take, ℤ, Decides, sym, refl, ap, ◌∙◌, subst, inl, inr, ⊎_elim, arith}
use Rattle.std.specs.List.{AllByRecursion}
use Rattle.std.proofs.lemmas.Bool.{both_ways}
use Rattle.interface.specs.Rules.{RuleModel, RuleLaws}
use Rattle.interface.specs.Shapes.{ShapeModel, ShapeLaws, one_if}
use Rattle.interface.specs.Homes.{InHome}
use Rattle.interface.specs.Points.{values_of}
use Rattle.search_theory.specs.declared.checkpoint.Checkpoint.{Checkpoint}
use Rattle.search_theory.specs.declared.phase.Phase.TheVariants.{Searching}
use Rattle.search_theory.specs.declared.region.Region.{Region}
use Rattle.search_theory.specs.declared.reply.Reply.TheVariants.{Ran}
use Rattle.search_theory.specs.declared.request.Request.TheVariants.{Run}
use Rattle.search_theory.specs.Calls.{at_hand, after_run}
use Rattle.search_theory.specs.Ledgers.{Ledger, heard}
use Rattle.search_theory.specs.Promise.{Fits, Sound}
use Rattle.search_theory.specs.Requests.{World, whole}
use Rattle.search_theory.specs.Runs.{Ended, run_from, report_of}
use Rattle.search_theory.specs.Standing.{shape_of, how_many, shapes_of}
use Rattle.search_theory.specs.Walks.{walk}
use Rattle.search_theory.proofs.Fronts.{front_whole, front_lent}
use Rattle.search_theory.proofs.Invariant.{Inv, world}
use Rattle.search_theory.proofs.Running.{Tied, tied_start, RunAs, run_as}
use Rattle.search_theory.proofs.Standing.{shape_holds}
use Rattle.search_theory.proofs.Walking.{good_walk, room_walk}

cons≢[] : {A : Type 0} (x : A) (xs : List A) → x ∷ xs ≢ []
cons≢[] x xs e = let d = ap length e in omega (arith, d)

both_empty : {A : Type 0} (xs ys : List A) → xs ++ ys ≡ [] → (xs ≡ []) × (ys ≡ [])
both_empty [] ys e = (refl, e)
both_empty (x ∷ xs) ys e = absurd (cons≢[] x (xs ++ ys) e)

one_filled : {A : Type 0} (xs ys : List A) → xs ++ ys ≢ [] → (xs ≢ []) ⊎ (ys ≢ [])
one_filled [] ys e = inr e
one_filled (x ∷ xs) ys e = inl (cons≢[] x xs)

module _ {S R : Type 0} {M : ShapeModel S} {K : RuleModel R} (L : ShapeLaws M) (J : RuleLaws K) where
  module _ (l : Ledger S R) (w : World S R) (rest : List R) (more : List (Checkpoint S)) (deep : List S) (places : ℕ) (inv : Inv M K l (whole w rest more deep)) (b : ℕ) (out : List (Region S)) where
    -- the run, if these rules stand
    abbrev pub end_by : List R → Ended S
    end_by rs = run_from M K rs b 0 (at_hand w.solver w.stack out)

    abbrev pub ledger_by : List R → Ledger S R
    ledger_by rs = heard M K l places (Run b) (Ran (report_of (end_by rs)))

    abbrev pub world_by : List R → World S R
    world_by rs = whole (world (after_run w.solver (end_by rs)).solver w.rules w.checkpoints (end_by rs).work.stack) rest more deep

    -- they do
    pub rules_stand : w.solver.rules ≤ length w.rules → take w.solver.rules w.rules ≡ l.standing
    rules_stand h = (front_lent w.solver.rules w.rules l.standing rest h inv.ties.of_rules).1

    module _ (fits : w.solver.waiting ≤ length w.stack) where
      pub the_run : RunAs M K l.standing w.solver.found out (length w.stack) l.search.regions.handed b 0 l.search.regions (end_by l.standing)
      the_run = run_as M K l.standing w.solver.found out (length w.stack) l.search.regions.handed b 0 (at_hand w.solver w.stack out) l.search.regions (tied_start w.solver w.stack out l.search.regions (front_lent w.solver.waiting w.stack (reverse l.search.regions.waiting) deep fits inv.ties.of_stack))

      -- in as many steps as it says
      pub tied_after : Tied w.solver.found out (length w.stack) l.search.regions.handed (end_by l.standing).work (ledger_by l.standing).search.regions
      tied_after =
          let k : the_run.made ≡ (end_by l.standing).steps = omega (arith, the_run.steps) in
          subst (λ j. Tied w.solver.found out (length w.stack) l.search.regions.handed (end_by l.standing).work (walk M K l.standing j l.search.regions)) k the_run.tied

      found_after : Decides w.solver.found (l.search.regions.handed ≢ []) → Decides (end_by l.standing).work.found ((ledger_by l.standing).search.regions.handed ≢ [])
      found_after d =
          let t = tied_after in (
            λ f z.
                let e = both_empty l.search.regions.handed _ (sym t.of_out ∙ z) in
                ⊎_elim (λ a. d.0 a e.0) (λ c. c e.1) (t.of_found.0 f),
            λ z. t.of_found.1 (⊎_elim (λ a. inl (d.1 a)) inr (one_filled l.search.regions.handed _ (λ y. z (t.of_out ∙ y)))),
          )

      pub inv_by : Inv M K (ledger_by l.standing) (world_by l.standing)
      inv_by = record {
        passes = inv.passes;
        ties = record {
          of_shape = inv.ties.of_shape;
          of_rules = inv.ties.of_rules;
          of_checkpoints = inv.ties.of_checkpoints;
          of_stack = front_whole _ _ _ deep tied_after.of_stack;
          of_phase = inv.ties.of_phase;
          of_found = λ e. found_after (inv.ties.of_found e);
        };
        nested = inv.nested;
        good = λ e. good_walk L J l.standing l.home.n (InHome l.home) (λ x. one_if (M.holds (shape_of M K l.home l.standing) x)) (end_by l.standing).steps l.search.regions (inv.good e);
        room = λ e. room_walk L J l.standing l.home.n (InHome l.home) (λ x. one_if (M.holds (shape_of M K l.home l.standing) x)) (M.halvings (shape_of M K l.home l.standing)) (end_by l.standing).steps l.search.regions (inv.good e) (inv.room e);
        need = inv.need;
      }

      pub inv_ran : w.solver.rules ≤ length w.rules → Inv M K (ledger_by (take w.solver.rules w.rules)) (world_by (take w.solver.rules w.rules))
      inv_ran h = subst (λ rs. Inv M K (ledger_by rs) (world_by rs)) (sym (rules_stand h)) inv_by

  -- exact cover and sound regions, of any ledger and world where the invariant holds
  module _ (l : Ledger S R) (w : World S R) (inv : Inv M K l w) (searching : l.search.phase ≡ Searching) where
    pub cover : (x : List ℤ) → Fits K l x → how_many M (shapes_of l.search.regions.handed) x + how_many M l.search.regions.waiting x ≡ 1
    cover x fit = (inv.good searching).counts x fit.1 ∙ ap one_if (shape_holds L J l.home inv.passes l.standing x fit.0 fit.1)

    pub sound : AllByRecursion (Sound M K l) l.search.regions.handed
    sound = (inv.good searching).handed_fit

    -- where nothing waits, nothing was found exactly if no point fits
    pub found_truly : l.search.regions.waiting ≡ [] → (w.solver.found ≡ false) ↔ ((x : List ℤ) → Fits K l x → ⊥)
    found_truly gone = (
      λ none x fit.
          let e = cover x fit in
          let h = ap (λ gs. how_many M (shapes_of gs) x) (empty none) in
          let v = ap (λ ss. how_many M ss x) gone in
          omega (arith, e, h, v),
      λ none. is_false w.solver.found (λ f. refuted l.search.regions.handed sound none ((inv.ties.of_found searching).0 f)),
    )
      where
        is_false : (f : Bool) → (f ≡ true → ⊥) → f ≡ false
        is_false true h = absurd (h refl)
        is_false false h = refl

        refuted : (gs : List (Region S)) → AllByRecursion (Sound M K l) gs → ((x : List ℤ) → Fits K l x → ⊥) → gs ≢ [] → ⊥
        refuted [] h none some = some refl
        refuted (g ∷ gs) h none some = none (values_of g.point) (h.0.0 (values_of g.point) h.0.1)

        empty_if : (gs : List (Region S)) → (gs ≢ [] → ⊥) → gs ≡ []
        empty_if [] h = refl
        empty_if (g ∷ gs) h = absurd (h (cons≢[] g gs))

        empty : w.solver.found ≡ false → l.search.regions.handed ≡ []
        empty none = empty_if l.search.regions.handed (λ z. both_ways _ none ((inv.ties.of_found searching).1 z))
