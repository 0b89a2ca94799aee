-- A run on the slices is a walk of as many steps on lists: slices and lists stay tied from step to step. Assumes nothing.
use Rattle.std.proofs.Common.{◌≡◌, ℕ, zero, suc, ◌+◌, ◌-◌, ◌<◌, ◌≤◌, Bool, true, eqb, ltb, ◌≢◌, ◌⊎◌, ◌↔◌, List, [], ◌∷◌, ◌++◌, reverse, length, take, drop, set, Ok, Err, Result, sym, refl, ap, ◌∙◌, subst, inl, inr, ⊎_elim, arith}
use Rattle.std.proofs.lemmas.List.{append_assoc, append-nil, length-set, length_push, take_more_set, drop-set-lt, drop-drop}
use Rattle.std.proofs.lemmas.Bool.{cond_both, ltb-true, ltb-false, eqb-true, eqb-false}
use Rattle.interface.specs.declared.point.Point.{Point}
use Rattle.interface.specs.Rules.{RuleModel}
use Rattle.interface.specs.Shapes.{ShapeModel}
use Rattle.search_theory.specs.declared.fate.Fate.{Fate}
use Rattle.search_theory.specs.declared.fate.Fate.TheVariants.{Dropped, HandedOut, Split}
use Rattle.search_theory.specs.declared.outcome.Outcome.{Outcome}
use Rattle.search_theory.specs.declared.outcome.Outcome.TheVariants.{Done, Spent, ListFull, StackFull}
use Rattle.search_theory.specs.declared.region.Region.{Region}
use Rattle.search_theory.specs.Calls.{at_hand}
use Rattle.search_theory.specs.Promise.{Front}
use Rattle.search_theory.specs.Regions.{refine, classify}
use Rattle.search_theory.specs.RunLaws.{NextIs}
use Rattle.search_theory.specs.Runs.{Work, Ended, ended, go_on, handed_out, split_in, turn, take_up, step, run_from}
use Rattle.search_theory.specs.Solving.{Solving}
use Rattle.search_theory.specs.Walks.{Held, held, placed, walk_one, walk}
use Rattle.search_theory.proofs.Fronts.{reverse_cons, front_push, front_pop, front_last}

-- the work is what the lists say; base was handed out before; the run started with found, out and so many stack places
pub record Tied {S : Type 0} (found : Bool) (out : List (Region S)) (places : ℕ) (base : List (Region S)) (w : Work S) (h : Held S) : Type 0 where
  pub of_stack : Front w.waiting w.stack (reverse h.waiting)
  pub of_out : h.handed ≡ base ++ take w.count w.out
  pub of_count : w.count ≤ length w.out
  pub of_found : (w.found ≡ true) ↔ ((found ≡ true) ⊎ (take w.count w.out ≢ []))
  pub past_out : drop w.count w.out ≡ drop w.count out
  pub out_places : length w.out ≡ length out
  pub stack_places : length w.stack ≡ places

-- at the start of a run nothing is in the out slice
pub tied_start : {S : Type 0} (s : Solving S) (stack : List S) (out : List (Region S)) (h : Held S) → Front s.waiting stack (reverse h.waiting) → Tied s.found out (length stack) h.handed (at_hand s stack out) h
tied_start s stack out h f = record {
  of_stack = f;
  of_out = sym (append-nil h.handed);
  of_count = omega arith;
  of_found = (inl, ⊎_elim (λ e. e) (λ z. absurd (z refl)));
  past_out = refl;
  out_places = refl;
  stack_places = refl;
}

pushed≢[] : {A : Type 0} (xs : List A) (x : A) → xs ++ x ∷ [] ≢ []
pushed≢[] xs x e = let n = length_push xs x in let d = ap length e in omega (arith, n, d)

-- why a step of this fate cannot be made
abbrev pub Stopped : {S : Type 0} → Work S → Fate → Outcome → Type 0
Stopped w f Done = ⊥
Stopped w f Spent = ⊥
Stopped w f ListFull = ((x : Point) × (f ≡ HandedOut x)) × (length w.out ≤ w.count)
Stopped w f StackFull = (f ≡ Split) × (length w.stack ≤ w.waiting)

module _ {S R : Type 0} (M : ShapeModel S) (K : RuleModel R) (rs : List R) (found : Bool) (out : List (Region S)) (places : ℕ) (base : List (Region S)) where
  -- after the step the work is tied to the lists after it, or the step was not made for a reason
  abbrev pub AfterStep : Work S → Fate → Held S → Result (Work S) Outcome → Type 0
  AfterStep w f h (Ok v) = Tied found out places base v h
  AfterStep w f h (Err o) = Stopped w f o

  pub after_turn : (w : Work S) (s : S) (ws : List S) (hs : List (Region S)) → Tied found out places base w (held (s ∷ ws) hs) → (t : S) (f : Fate) → AfterStep w f (placed M t f ws hs) (turn M K w t f)
  after_turn w s ws hs d t Dropped = record {
    of_stack = front_pop _ _ (reverse ws) s (subst (Front _ _) (reverse_cons s ws) d.of_stack);
    of_out = d.of_out;
    of_count = d.of_count;
    of_found = d.of_found;
    past_out = d.past_out;
    out_places = d.out_places;
    stack_places = d.stack_places;
  }
  after_turn w s ws hs d t (HandedOut x) =
      let g : Region S = record { shape = t; point = x } in
      let made : w.count < length w.out → Tied found out places base (handed_out w g) (held ws (hs ++ g ∷ [])) = λ h.
      let more = take_more_set w.out w.count g h in
      record {
        of_stack = front_pop _ _ (reverse ws) s (subst (Front _ _) (reverse_cons s ws) d.of_stack);
        of_out = ap (λ xs. xs ++ g ∷ []) d.of_out ∙ append_assoc base (take w.count w.out) (g ∷ []) ∙ ap (λ xs. base ++ xs) (sym more);
        of_count = let e = length-set w.out w.count g in omega (arith, e, h);
        of_found = (λ e. inr (λ z. pushed≢[] (take w.count w.out) g (sym more ∙ z)), λ e. refl);
        past_out = drop-set-lt (w.count + 1) w.out w.count g (omega arith) ∙ sym (drop-drop 1 w.count w.out) ∙ ap (drop 1) d.past_out ∙ drop-drop 1 w.count out;
        out_places = length-set w.out w.count g ∙ d.out_places;
        stack_places = d.stack_places;
      } in
      cond_both (ltb w.count (length w.out)) _ _ (AfterStep w (HandedOut x) (held ws (hs ++ g ∷ []))) (λ e. made (ltb-true _ _ e)) (λ e. ((x, refl), ltb-false _ _ e))
  after_turn w s ws hs d t Split =
      let low = M.lower t in
      let up = M.upper t in
      let made : w.waiting < length w.stack → Tied found out places base (split_in w low up) (held (low ∷ up ∷ ws) hs) = λ h.
      let popped = front_pop w.waiting w.stack (reverse ws) s (subst (Front _ _) (reverse_cons s ws) d.of_stack) in
      let one = length_push (reverse ws) s in
      let there = ap length (reverse_cons s ws) in
      let full : w.waiting - 1 + 1 ≡ w.waiting = omega (arith, one, there, d.of_stack.0) in
      let upper = front_push (w.waiting - 1) w.stack (reverse ws) up (omega (arith, h)) popped in
      let upper' = subst (λ k. Front k (set w.stack (w.waiting - 1) up) (reverse ws ++ up ∷ [])) full upper in
      let same = length-set w.stack (w.waiting - 1) up in
      let both = front_push w.waiting (set w.stack (w.waiting - 1) up) (reverse ws ++ up ∷ []) low (omega (arith, h, same)) upper' in
      record {
        of_stack = subst (Front _ _) (ap (λ xs. xs ++ low ∷ []) (sym (reverse_cons up ws)) ∙ sym (reverse_cons low (up ∷ ws))) both;
        of_out = d.of_out;
        of_count = d.of_count;
        of_found = d.of_found;
        past_out = d.past_out;
        out_places = d.out_places;
        stack_places = length-set (set w.stack (w.waiting - 1) up) w.waiting low ∙ same ∙ d.stack_places;
      } in
      cond_both (ltb w.waiting (length w.stack)) _ _ (AfterStep w Split (held (low ∷ up ∷ ws) hs)) (λ e. made (ltb-true _ _ e)) (λ e. (refl, ltb-false _ _ e))

  pub after_step : (w : Work S) (s : S) (ws : List S) (hs : List (Region S)) → Tied found out places base w (held (s ∷ ws) hs) → AfterStep w (classify M K rs (refine M K rs s)) (walk_one M K rs (s ∷ ws) hs) (step M K rs w)
  after_step w s ws hs d =
      let top = front_last w.waiting w.stack (reverse ws) s (subst (Front _ _) (reverse_cons s ws) d.of_stack) in
      subst (λ o. AfterStep w (classify M K rs (refine M K rs s)) (walk_one M K rs (s ∷ ws) hs) (take_up M K rs w o)) (sym top) (after_turn w s ws hs d (refine M K rs s) (classify M K rs (refine M K rs s)))

module _ {S R : Type 0} (M : ShapeModel S) (K : RuleModel R) (rs : List R) where
  -- why a run ends, with so many steps left of its budget
  abbrev pub Ending : ℕ → Outcome → Work S → Type 0
  Ending left Done w = w.waiting ≡ 0
  Ending left Spent w = (w.waiting ≢ 0) × (left ≡ 0)
  Ending left ListFull w = (w.waiting ≢ 0) × (0 < left) × ((x : Point) × NextIs M K rs (take w.waiting w.stack) (HandedOut x)) × (length w.out ≤ w.count)
  Ending left StackFull w = (w.waiting ≢ 0) × (0 < left) × NextIs M K rs (take w.waiting w.stack) Split × (length w.stack ≤ w.waiting)

-- a run with budget b after i steps, from the lists h: how many steps it made and has left, and why it ended
pub record RunAs {S R : Type 0} (M : ShapeModel S) (K : RuleModel R) (rs : List R) (found : Bool) (out : List (Region S)) (places : ℕ) (base : List (Region S)) (b i : ℕ) (h : Held S) (e : Ended S) : Type 0 where
  pub made : ℕ
  pub left : ℕ
  pub budget : made + left ≡ b
  pub steps : e.steps ≡ i + made
  pub tied : Tied found out places base e.work (walk M K rs made h)
  pub ending : Ending M K rs left e.outcome e.work

module _ {S R : Type 0} (M : ShapeModel S) (K : RuleModel R) (rs : List R) (found : Bool) (out : List (Region S)) (places : ℕ) (base : List (Region S)) where
  -- a run that makes no step
  ends_here : (b i : ℕ) (w : Work S) (h : Held S) → Tied found out places base w h → (o : Outcome) → Ending M K rs b o w → RunAs M K rs found out places base b i h (ended o i w)
  ends_here b i w h d o e = record { made = 0; left = b; budget = omega arith; steps = omega arith; tied = d; ending = e }

  ends_stopped : (b i : ℕ) (w : Work S) (s : S) (ws : List S) (hs : List (Region S)) → Tied found out places base w (held (s ∷ ws) hs) → w.waiting ≢ 0 → (o : Outcome) → Stopped w (classify M K rs (refine M K rs s)) o → Ending M K rs (suc b) o w
  ends_stopped b i w s ws hs d some Done e = absurd e
  ends_stopped b i w s ws hs d some Spent e = absurd e
  ends_stopped b i w s ws hs d some ListFull e = (some, omega arith, (e.0.0, (s, (reverse ws, d.of_stack.1 ∙ reverse_cons s ws), e.0.1)), e.1)
  ends_stopped b i w s ws hs d some StackFull e = (some, omega arith, (s, (reverse ws, d.of_stack.1 ∙ reverse_cons s ws), e.0), e.1)

  goes_on : (b i : ℕ) (w : Work S) (s : S) (ws : List S) (hs : List (Region S)) → Tied found out places base w (held (s ∷ ws) hs) → w.waiting ≢ 0 → ((v : Work S) (h : Held S) → Tied found out places base v h → RunAs M K rs found out places base b (i + 1) h (run_from M K rs b (i + 1) v)) → (r : Result (Work S) Outcome) → AfterStep M K rs found out places base w (classify M K rs (refine M K rs s)) (walk_one M K rs (s ∷ ws) hs) r → RunAs M K rs found out places base (suc b) i (held (s ∷ ws) hs) (go_on r (λ o. ended o i w) (run_from M K rs b (i + 1)))
  goes_on b i w s ws hs d some more (Ok v) a =
      let r = more v (walk_one M K rs (s ∷ ws) hs) a in
      record { made = suc r.made; left = r.left; budget = omega (arith, r.budget); steps = omega (arith, r.steps); tied = r.tied; ending = r.ending }
  goes_on b i w s ws hs d some more (Err o) a = ends_here (suc b) i w (held (s ∷ ws) hs) d o (ends_stopped b i w s ws hs d some o a)

  -- something waits, and a step is left
  takes_one : (b i : ℕ) (w : Work S) (h : Held S) → Tied found out places base w h → w.waiting ≢ 0 → ((v : Work S) (g : Held S) → Tied found out places base v g → RunAs M K rs found out places base b (i + 1) g (run_from M K rs b (i + 1) v)) → RunAs M K rs found out places base (suc b) i h (go_on (step M K rs w) (λ o. ended o i w) (run_from M K rs b (i + 1)))
  takes_one b i w h d some more = by h.waiting h.handed d
    where
      by : (ws : List S) (hs : List (Region S)) → Tied found out places base w (held ws hs) → RunAs M K rs found out places base (suc b) i (held ws hs) (go_on (step M K rs w) (λ o. ended o i w) (run_from M K rs b (i + 1)))
      by [] hs d = absurd (some d.of_stack.0)
      by (s ∷ ws) hs d = goes_on b i w s ws hs d some more (step M K rs w) (after_step M K rs found out places base w s ws hs d)

  pub run_as : (b i : ℕ) (w : Work S) (h : Held S) → Tied found out places base w h → RunAs M K rs found out places base b i h (run_from M K rs b i w)
  run_as zero i w h d = cond_both (eqb w.waiting 0) _ _ (RunAs M K rs found out places base 0 i h) (λ e. ends_here 0 i w h d Done (eqb-true _ _ e)) (λ e. ends_here 0 i w h d Spent (eqb-false _ _ e, refl))
  run_as (suc b) i w h d = cond_both (eqb w.waiting 0) _ _ (RunAs M K rs found out places base (suc b) i h) (λ e. ends_here (suc b) i w h d Done (eqb-true _ _ e)) (λ e. takes_one b i w h d (eqb-false _ _ e) (λ v g t. run_as b (i + 1) v g t))
