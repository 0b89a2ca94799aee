-- What holds of ledger and world along every history, and that each accepted call but a run keeps it. Assumes nothing.
use Rattle.std.proofs.Common.{◌≡◌, ℕ, ◌+◌, ◌-◌, ◌<◌, ◌≤◌, false, ◌≢◌, List, [], ◌∷◌, ◌++◌, map, reverse, length, take, set, sym, refl, ap, ◌∙◌, subst, arith}
use Rattle.std.specs.List.{slice_get}
use Rattle.std.proofs.lemmas.List.{append_assoc, append-nil, take-take, take_at, length-append}
use Rattle.std.proofs.lemmas.Bool.{false≢true}
use Rattle.interface.specs.declared.home.Home.{Home}
use Rattle.interface.specs.Homes.{Passes, InHome}
use Rattle.interface.specs.Rules.{RuleModel, RuleLaws}
use Rattle.interface.specs.Shapes.{ShapeModel, ShapeLaws, one_if}
use Rattle.search_theory.specs.declared.checkpoint.Checkpoint.{Checkpoint}
use Rattle.search_theory.specs.declared.phase.Phase.TheVariants.{Stating, Searching}
use Rattle.search_theory.specs.declared.reply.Reply.TheVariants.{Accepted}
use Rattle.search_theory.specs.declared.request.Request.TheVariants.{State, Mark, Back, Keep, Begin, Leave}
use Rattle.search_theory.specs.Calls.{stated, marked, restored}
use Rattle.search_theory.specs.Ledgers.{Ledger, heard, opened_ledger, last_note, earlier_notes}
use Rattle.search_theory.specs.Promise.{Front, Ties, checkpoint_of}
use Rattle.search_theory.specs.Regions.{cut_if_any}
use Rattle.search_theory.specs.Requests.{World, whole}
use Rattle.search_theory.specs.RunLaws.{Room}
use Rattle.search_theory.specs.Solving.{Solving, opened}
use Rattle.search_theory.specs.Standing.{shape_of}
use Rattle.search_theory.proofs.Cases.{stating≢searching}
use Rattle.search_theory.proofs.Fronts.{reverse_cons, front_whole, front_lent, front_push, front_pop, front_last}
use Rattle.search_theory.proofs.Standing.{shape_of_push, shape_made, shape_n, shape_inside}
use Rattle.search_theory.proofs.Walking.{Good}

-- each note is a front part of the next and of what stands
abbrev pub Nested : {R : Type 0} → List R → List (List R) → Type 0
Nested rs [] = Unit {0}
Nested {R} rs (m ∷ ns) = ((t : List R) × (rs ≡ m ++ t)) × Nested m ns

nested_push : {R : Type 0} (rs : List R) (r : R) (ns : List (List R)) → Nested rs ns → Nested (rs ++ r ∷ []) ns
nested_push rs r [] n = tt
nested_push rs r (m ∷ ns) n = ((n.0.0 ++ r ∷ [], ap (λ qs. qs ++ r ∷ []) n.0.1 ∙ append_assoc m n.0.0 (r ∷ [])), n.1)

nested_drop : {R : Type 0} (rs m : List R) (ns : List (List R)) → Nested rs (m ∷ ns) → Nested rs ns
nested_drop rs m [] n = tt
nested_drop rs m (k ∷ ns) n = ((n.1.0.0 ++ n.0.0, n.0.1 ∙ ap (λ qs. qs ++ n.0.0) n.1.0.1 ∙ append_assoc k n.1.0.0 n.0.0), n.1.1)

-- the first places hold a front part of what they hold
front_part : {A : Type 0} (k : ℕ) (xs ys m t : List A) → ys ≡ m ++ t → Front k xs ys → Front (length m) xs m
front_part k xs ys m t e f =
    let a = ap length e ∙ length-append m t in
    (refl, sym (take-take (length m) k xs (omega (arith, a, f.0))) ∙ ap (take (length m)) (f.1 ∙ e) ∙ take_at m t (length m) refl)

pub record Inv {S R : Type 0} (M : ShapeModel S) (K : RuleModel R) (l : Ledger S R) (w : World S R) : Type 0 where
  pub passes : Passes l.home
  pub ties : Ties M K l w
  pub nested : Nested l.standing l.notes
  pub good : l.search.phase ≡ Searching → Good M K l.standing l.home.n (InHome l.home) (λ x. one_if (M.holds (shape_of M K l.home l.standing) x)) l.search.regions
  pub room : l.search.phase ≡ Searching → Room M (M.halvings (shape_of M K l.home l.standing)) l.search.regions.waiting
  pub need : l.search.phase ≡ Searching → l.search.need ≡ 1 + M.halvings (shape_of M K l.home l.standing)

-- a world with another solver and other slices
abbrev pub world : {S R : Type 0} → Solving S → List R → List (Checkpoint S) → List S → World S R
world s rules checkpoints stack = record { solver = s; rules = rules; checkpoints = checkpoints; stack = stack }

module _ {S R : Type 0} {M : ShapeModel S} {K : RuleModel R} (L : ShapeLaws M) (J : RuleLaws K) where
  pub inv_start : (h : Home) → Passes h → (rules : List R) (checkpoints : List (Checkpoint S)) (stack : List S) → Inv M K (opened_ledger h) (world (opened M h) rules checkpoints stack)
  inv_start h p rules checkpoints stack = record {
    passes = p;
    ties = record { of_shape = refl; of_rules = (refl, refl); of_checkpoints = (refl, refl); of_stack = (refl, refl); of_phase = refl; of_found = λ e. absurd (stating≢searching e) };
    nested = tt;
    good = λ e. absurd (stating≢searching e);
    room = λ e. absurd (stating≢searching e);
    need = λ e. absurd (stating≢searching e);
  }

  module _ (l : Ledger S R) (w : World S R) (rest : List R) (more : List (Checkpoint S)) (deep : List S) (places : ℕ) (inv : Inv M K l (whole w rest more deep)) where
    not_searching : {A : Type 0} → w.solver.phase ≡ Stating → l.search.phase ≡ Searching → A
    not_searching e f = absurd (stating≢searching (sym e ∙ inv.ties.of_phase ∙ f))

    pub inv_stated : (r : R) → w.solver.phase ≡ Stating → w.solver.rules < length w.rules → Inv M K (heard M K l places (State r) Accepted) (whole (world (stated M K w.solver r) (set w.rules w.solver.rules r) w.checkpoints w.stack) rest more deep)
    inv_stated r e h =
        let t = inv.ties in
        let n = ap M.n t.of_shape ∙ shape_n L J l.home inv.passes l.standing in
        record {
          passes = inv.passes;
          ties = record {
            of_shape = (λ i. cut_if_any M (t.of_shape i) (K.standing (n i) r)) ∙ sym (shape_of_push M K l.home l.standing r);
            of_rules = front_whole _ _ _ rest (front_push w.solver.rules w.rules l.standing r h (front_lent _ _ _ rest (omega (arith, h)) t.of_rules));
            of_checkpoints = t.of_checkpoints;
            of_stack = t.of_stack;
            of_phase = t.of_phase;
            of_found = t.of_found;
          };
          nested = nested_push l.standing r l.notes inv.nested;
          good = λ f. not_searching e f;
          room = λ f. not_searching e f;
          need = λ f. not_searching e f;
        }

    pub inv_marked : w.solver.marks < length w.checkpoints → Inv M K (heard M K l places Mark Accepted) (whole (world (marked w.solver) w.rules (set w.checkpoints w.solver.marks (record { shape = w.solver.shape; rules = w.solver.rules })) w.stack) rest more deep)
    inv_marked h =
        let t = inv.ties in
        let c : Checkpoint S = record { shape = w.solver.shape; rules = w.solver.rules } in
        let same : c ≡ checkpoint_of M K l.home l.standing = λ i. record { shape = t.of_shape i; rules = t.of_rules.0 i } in
        let noted = reverse (map (checkpoint_of M K l.home) l.notes) in
        record {
          passes = inv.passes;
          ties = record {
            of_shape = t.of_shape;
            of_rules = t.of_rules;
            of_checkpoints = front_whole _ _ _ more (subst (Front _ _) (ap (λ d. noted ++ d ∷ []) same ∙ sym (reverse_cons (checkpoint_of M K l.home l.standing) (map (checkpoint_of M K l.home) l.notes))) (front_push w.solver.marks w.checkpoints noted c h (front_lent _ _ _ more (omega (arith, h)) t.of_checkpoints)));
            of_stack = t.of_stack;
            of_phase = t.of_phase;
            of_found = t.of_found;
          };
          nested = (([], sym (append-nil l.standing)), inv.nested);
          good = inv.good;
          room = inv.room;
          need = inv.need;
        }

    -- the ledger after the last of these notes is dropped, with these rules standing
    abbrev with_notes : List R → List (List R) → Ledger S R
    with_notes rs ns = record { home = l.home; standing = rs; notes = ns; search = l.search }

    pub inv_restored : w.solver.phase ≡ Stating → w.solver.marks ≢ 0 → w.solver.marks ≤ length w.checkpoints → Inv M K (heard M K l places Back Accepted) (whole (world (restored w.solver (slice_get w.checkpoints (w.solver.marks - 1))) w.rules w.checkpoints w.stack) rest more deep)
    inv_restored e some h = by l.notes inv.ties.of_checkpoints inv.nested
      where
        s : Solving S
        s = w.solver

        f : List R → Checkpoint S
        f = checkpoint_of M K l.home

        by : (ns : List (List R)) → Front s.marks (w.checkpoints ++ more) (reverse (map f ns)) → Nested l.standing ns → Inv M K (with_notes (last_note ns l.standing) (earlier_notes ns)) (whole (world (restored s (slice_get w.checkpoints (s.marks - 1))) w.rules w.checkpoints w.stack) rest more deep)
        by [] c n = absurd (some c.0)
        by (m ∷ ns) c n =
            let c' = subst (Front s.marks (w.checkpoints ++ more)) (reverse_cons (f m) (map f ns)) c in
            let last = front_last s.marks w.checkpoints (reverse (map f ns)) (f m) (front_lent _ _ _ more h c') in
            subst (λ o. Inv M K (with_notes m ns) (whole (world (restored s o) w.rules w.checkpoints w.stack) rest more deep)) (sym last) record {
              passes = inv.passes;
              ties = record {
                of_shape = refl;
                of_rules = front_part s.rules (w.rules ++ rest) l.standing m n.0.0 n.0.1 inv.ties.of_rules;
                of_checkpoints = front_pop s.marks (w.checkpoints ++ more) (reverse (map f ns)) (f m) c';
                of_stack = inv.ties.of_stack;
                of_phase = inv.ties.of_phase;
                of_found = inv.ties.of_found;
              };
              nested = n.1;
              good = λ d. not_searching e d;
              room = λ d. not_searching e d;
              need = λ d. not_searching e d;
            }

    -- the solver with one checkpoint fewer
    abbrev one_fewer : Solving S
    one_fewer = let s = w.solver in record { shape = s.shape; rules = s.rules; marks = s.marks - 1; waiting = s.waiting; phase = s.phase; found = s.found }

    pub inv_kept : w.solver.marks ≢ 0 → Inv M K (heard M K l places Keep Accepted) (whole (world one_fewer w.rules w.checkpoints w.stack) rest more deep)
    inv_kept some = by l.notes inv.ties.of_checkpoints inv.nested
      where
        f : List R → Checkpoint S
        f = checkpoint_of M K l.home

        by : (ns : List (List R)) → Front w.solver.marks (w.checkpoints ++ more) (reverse (map f ns)) → Nested l.standing ns → Inv M K (with_notes l.standing (earlier_notes ns)) (whole (world one_fewer w.rules w.checkpoints w.stack) rest more deep)
        by [] c n = absurd (some c.0)
        by (m ∷ ns) c n = record {
          passes = inv.passes;
          ties = record {
            of_shape = inv.ties.of_shape;
            of_rules = inv.ties.of_rules;
            of_checkpoints = front_pop w.solver.marks (w.checkpoints ++ more) (reverse (map f ns)) (f m) (subst (Front w.solver.marks (w.checkpoints ++ more)) (reverse_cons (f m) (map f ns)) c);
            of_stack = inv.ties.of_stack;
            of_phase = inv.ties.of_phase;
            of_found = inv.ties.of_found;
          };
          nested = nested_drop l.standing m ns n;
          good = inv.good;
          room = inv.room;
          need = inv.need;
        }

    pub inv_begun : 0 < length w.stack → Inv M K (heard M K l places Begin Accepted) (whole (world (let s = w.solver in record { shape = s.shape; rules = s.rules; marks = s.marks; waiting = 1; phase = Searching; found = false }) w.rules w.checkpoints (set w.stack 0 w.solver.shape)) rest more deep)
    inv_begun h =
        let t = inv.ties in
        let u = shape_of M K l.home l.standing in
        record {
          passes = inv.passes;
          ties = record {
            of_shape = t.of_shape;
            of_rules = t.of_rules;
            of_checkpoints = t.of_checkpoints;
            of_stack = front_whole 1 (set w.stack 0 w.solver.shape) (u ∷ []) deep (subst (λ v. Front 1 (set w.stack 0 w.solver.shape) (v ∷ [])) t.of_shape (front_push 0 w.stack [] w.solver.shape h (refl, refl)));
            of_phase = refl;
            of_found = λ e. (λ f. absurd (false≢true f), λ z. absurd (z refl));
          };
          nested = inv.nested;
          good = λ e. record {
            waiting_made = ((shape_made L J l.home inv.passes l.standing, shape_n L J l.home inv.passes l.standing, shape_inside L J l.home inv.passes l.standing), tt);
            handed_fit = tt;
            counts = λ x met. omega arith;
          };
          room = λ e. (omega arith, tt);
          need = λ e. refl;
        }

    pub inv_left : Inv M K (heard M K l places Leave Accepted) (whole (world (let s = w.solver in record { shape = s.shape; rules = s.rules; marks = s.marks; waiting = 0; phase = Stating; found = s.found }) w.rules w.checkpoints w.stack) rest more deep)
    inv_left = record {
      passes = inv.passes;
      ties = record {
        of_shape = inv.ties.of_shape;
        of_rules = inv.ties.of_rules;
        of_checkpoints = inv.ties.of_checkpoints;
        of_stack = (refl, refl);
        of_phase = refl;
        of_found = λ e. absurd (stating≢searching e);
      };
      nested = inv.nested;
      good = λ e. absurd (stating≢searching e);
      room = λ e. absurd (stating≢searching e);
      need = λ e. absurd (stating≢searching e);
    }
