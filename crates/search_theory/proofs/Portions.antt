-- A run that is taken up again goes on as if it had not stopped, and the same run with another out slice does the same. Assumes nothing.
use Rattle.std.proofs.Common.{◌≡◌, ℕ, zero, suc, ◌+◌, ◌≤◌, Bool, true, false, cond, eqb, ◌≢◌, List, [], ◌∷◌, length, take, Ok, Err, Result, sym, refl, ap, ◌∙◌, subst, arith}
use Rattle.std.proofs.lemmas.List.{length-append, length_push, length-take-le}
use Rattle.std.proofs.lemmas.Bool.{cond-true, eqb-false}
use Rattle.interface.specs.Rules.{RuleModel}
use Rattle.interface.specs.Shapes.{ShapeModel}
use Rattle.search_theory.specs.declared.fate.Fate.{Fate}
use Rattle.search_theory.specs.declared.fate.Fate.TheVariants.{Dropped, HandedOut, Split}
use Rattle.search_theory.specs.declared.outcome.Outcome.{Outcome}
use Rattle.search_theory.specs.declared.outcome.Outcome.TheVariants.{Done, Spent, ListFull, StackFull}
use Rattle.search_theory.specs.declared.region.Region.{Region}
use Rattle.search_theory.specs.Regions.{refine, classify}
use Rattle.search_theory.specs.Runs.{Work, Ended, ended, go_on, step, run_from}
use Rattle.search_theory.specs.Walks.{Held, held, placed, walk_one, walk}
use Rattle.search_theory.proofs.Running.{Tied, Stopped, AfterStep, after_step, run_as}

-- steps only add to what was handed out
module _ {S R : Type 0} (M : ShapeModel S) (K : RuleModel R) (rs : List R) where
  placed_adds : (t : S) (f : Fate) (ws : List S) (hs : List (Region S)) → length hs ≤ length (placed M t f ws hs).handed
  placed_adds t Dropped ws hs = omega arith
  placed_adds t (HandedOut x) ws hs = let e = length_push hs (record { shape = t; point = x }) in omega (arith, e)
  placed_adds t Split ws hs = omega arith

  one_adds : (ws : List S) (hs : List (Region S)) → length hs ≤ length (walk_one M K rs ws hs).handed
  one_adds [] hs = omega arith
  one_adds (s ∷ ws) hs = placed_adds (refine M K rs s) (classify M K rs (refine M K rs s)) ws hs

  walk_adds : (k : ℕ) (h : Held S) → length h.handed ≤ length (walk M K rs k h).handed
  walk_adds zero h = omega arith
  walk_adds (suc k) h = let a = one_adds h.waiting h.handed in let b = walk_adds k (walk_one M K rs h.waiting h.handed) in omega (arith, a, b)

module _ {S R : Type 0} (M : ShapeModel S) (K : RuleModel R) (rs : List R) where
  idle : (b i : ℕ) (w : Work S) → eqb w.waiting 0 ≡ true → run_from M K rs b i w ≡ ended Done i w
  idle zero i w e = cond-true _ _ _ e
  idle (suc b) i w e = cond-true _ _ _ e

  -- what an end leaves goes on with the budget b
  abbrev Resumes : ℕ → Ended S → Ended S → Type 0
  Resumes b e f = e.outcome ≢ ListFull → e.outcome ≢ StackFull → f ≡ run_from M K rs b e.steps e.work

  stops : (b i : ℕ) (w : Work S) (f : Fate) (o : Outcome) → Stopped w f o → Resumes b (ended o i w) (ended o i w)
  stops b i w f Done e = absurd e
  stops b i w f Spent e = absurd e
  stops b i w f ListFull e = λ l s. absurd (l refl)
  stops b i w f StackFull e = λ l s. absurd (s refl)

  resumed_none : (b i : ℕ) (w : Work S) (t : Bool) → eqb w.waiting 0 ≡ t → Resumes b (cond t (ended Done i w) (ended Spent i w)) (run_from M K rs b i w)
  resumed_none b i w true e = λ l s. refl
  resumed_none b i w false e = λ l s. refl

  resumed_more : (a b i : ℕ) (w : Work S) (t : Bool) → eqb w.waiting 0 ≡ t → (e f : Ended S) → (eqb w.waiting 0 ≡ false → Resumes b e f) → Resumes b (cond t (ended Done i w) e) (cond t (ended Done i w) f)
  resumed_more a b i w true z e f more = λ l s. sym (idle b i w z)
  resumed_more a b i w false z e f more = more z

module _ {S R : Type 0} (M : ShapeModel S) (K : RuleModel R) (rs : List R) {found : Bool} {out : List (Region S)} {places : ℕ} {base : List (Region S)} where
  -- so the count only grows
  pub count_grows : (b i : ℕ) (w : Work S) (h : Held S) → Tied found out places base w h → w.count ≤ (run_from M K rs b i w).work.count
  count_grows b i w h d =
      let r = run_as M K rs found out places base b i w h d in
      let more = walk_adds M K rs r.made h in
      let e = (run_from M K rs b i w).work in
      let before = ap length d.of_out ∙ length-append base (take w.count w.out) in
      let after = ap length r.tied.of_out ∙ length-append base (take e.count e.out) in
      let x = length-take-le w.count w.out d.of_count in
      let y = length-take-le e.count e.out r.tied.of_count in
      omega (arith, more, before, after, x, y)

  steps_on : (a b i : ℕ) (w : Work S) (f : Fate) (g : Held S) → ((v : Work S) (h : Held S) → Tied found out places base v h → Resumes M K rs b (run_from M K rs a (i + 1) v) (run_from M K rs (a + b) (i + 1) v)) → (r : Result (Work S) Outcome) → AfterStep M K rs found out places base w f g r → Resumes M K rs b (go_on r (λ o. ended o i w) (run_from M K rs a (i + 1))) (go_on r (λ o. ended o i w) (run_from M K rs (a + b) (i + 1)))
  steps_on a b i w f g more (Ok v) d = more v g d
  steps_on a b i w f g more (Err o) d = stops M K rs b i w f o d

  takes_on : (a b i : ℕ) (w : Work S) → w.waiting ≢ 0 → ((v : Work S) (h : Held S) → Tied found out places base v h → Resumes M K rs b (run_from M K rs a (i + 1) v) (run_from M K rs (a + b) (i + 1) v)) → (ws : List S) (hs : List (Region S)) → Tied found out places base w (held ws hs) → Resumes M K rs b (go_on (step M K rs w) (λ o. ended o i w) (run_from M K rs a (i + 1))) (go_on (step M K rs w) (λ o. ended o i w) (run_from M K rs (a + b) (i + 1)))
  takes_on a b i w some more [] hs d = absurd (some d.of_stack.0)
  takes_on a b i w some more (s ∷ ws) hs d = steps_on a b i w (classify M K rs (refine M K rs s)) (walk_one M K rs (s ∷ ws) hs) more (step M K rs w) (after_step M K rs found out places base w s ws hs d)

  pub resumed : (a b i : ℕ) (w : Work S) (h : Held S) → Tied found out places base w h → Resumes M K rs b (run_from M K rs a i w) (run_from M K rs (a + b) i w)
  resumed zero b i w h d = let e : 0 + b ≡ b = omega arith in subst (λ c. Resumes M K rs b (run_from M K rs 0 i w) (run_from M K rs c i w)) (sym e) (resumed_none M K rs b i w (eqb w.waiting 0) refl)
  resumed (suc a) b i w h d =
      let e : suc a + b ≡ suc (a + b) = omega arith in
      subst (λ c. Resumes M K rs b (run_from M K rs (suc a) i w) (run_from M K rs c i w)) (sym e) (resumed_more M K rs a b i w (eqb w.waiting 0) refl _ _ (λ z. takes_on a b i w (eqb-false _ _ z) (resumed a b (i + 1)) h.waiting h.handed d))
