-- The same run with another out slice, one that has room: it ends alike, and what it hands out stands after what stood there. Assumes nothing.
use Rattle.std.proofs.Common.{◌≡◌, ℕ, zero, suc, ◌+◌, ◌<◌, ◌≤◌, Bool, true, false, cond, eqb, ltb, ◌≢◌, List, [], ◌∷◌, ◌++◌, reverse, length, take, set, Ok, Err, Result, sym, refl, ap, ◌∙◌, subst, arith}
use Rattle.std.proofs.lemmas.List.{append_assoc, length-set, take_more_set}
use Rattle.std.proofs.lemmas.Bool.{ltb-true, ltb-false, lt-ltb, eqb-false, true≢false}
use Rattle.interface.specs.Rules.{RuleModel}
use Rattle.interface.specs.Shapes.{ShapeModel}
use Rattle.search_theory.specs.declared.fate.Fate.{Fate}
use Rattle.search_theory.specs.declared.fate.Fate.TheVariants.{Dropped, HandedOut, Split}
use Rattle.search_theory.specs.declared.outcome.Outcome.{Outcome}
use Rattle.search_theory.specs.declared.outcome.Outcome.TheVariants.{Done, Spent, ListFull, StackFull}
use Rattle.search_theory.specs.declared.region.Region.{Region}
use Rattle.search_theory.specs.Promise.{Front}
use Rattle.search_theory.specs.Regions.{refine, classify}
use Rattle.search_theory.specs.Runs.{Work, Ended, ended, go_on, dropped, handed_out, split_in, turn, take_up, step, run_from}
use Rattle.search_theory.specs.Walks.{Held, held}
use Rattle.search_theory.proofs.Fronts.{reverse_cons, front_last}
use Rattle.search_theory.proofs.Portions.{count_grows}
use Rattle.search_theory.proofs.Running.{Tied, AfterStep, after_turn}

-- the same work with another out slice
abbrev pub with_out : {S : Type 0} → Work S → List (Region S) → ℕ → Work S
with_out w o c = record { stack = w.stack; waiting = w.waiting; out = o; count = c; found = w.found }

-- in the other slice the regions stand after others
pub record After {S : Type 0} (others : List (Region S)) (w : Work S) (o : List (Region S)) (c : ℕ) : Type 0 where
  pub count : c ≡ length others + w.count
  pub front : take c o ≡ others ++ take w.count w.out

-- both ended alike, begun after i and j steps
pub record Alike {S : Type 0} (others : List (Region S)) (i j places : ℕ) (e f : Ended S) : Type 0 where
  pub out : List (Region S)
  pub count : ℕ
  pub same_outcome : f.outcome ≡ e.outcome
  pub same_steps : f.steps + i ≡ e.steps + j
  pub same_work : f.work ≡ with_out e.work out count
  pub same_places : length out ≡ places
  pub after : After others e.work out count

module _ {S R : Type 0} (M : ShapeModel S) (K : RuleModel R) (rs : List R) (others : List (Region S)) where
  -- both end alike, if the first does not lack a place for a region and the other slice has places for all
  abbrev EndsAlike : ℕ → ℕ → ℕ → Ended S → Ended S → Type 0
  EndsAlike i j places e f = e.outcome ≢ ListFull → length others + e.work.count ≤ places → Alike others i j places e f

  ends : (i j : ℕ) (w : Work S) (o : List (Region S)) (c : ℕ) (x : Outcome) → After others w o c → EndsAlike i j (length o) (ended x i w) (ended x j (with_out w o c))
  ends i j w o c x a l r = record { out = o; count = c; same_outcome = refl; same_steps = omega arith; same_work = refl; same_places = refl; after = a }

  -- the step that both have made is one of both counts
  stepped : (i j places : ℕ) (e f : Ended S) → EndsAlike (i + 1) (j + 1) places e f → EndsAlike i j places e f
  stepped i j places e f more l r = let a = more l r in record { out = a.out; count = a.count; same_outcome = a.same_outcome; same_steps = omega (arith, a.same_steps); same_work = a.same_work; same_places = a.same_places; after = a.after }

  module _ (found : Bool) (out : List (Region S)) (places : ℕ) (base : List (Region S)) where
    -- the same run from the same work with another out slice
    abbrev More : ℕ → ℕ → ℕ → Type 0
    More b i j = (v : Work S) (h : Held S) → Tied found out places base v h → (o : List (Region S)) (c : ℕ) → After others v o c → EndsAlike i j (length o) (run_from M K rs b i v) (run_from M K rs b j (with_out v o c))

    -- two tries of one step
    abbrev Tried : ℕ → ℕ → ℕ → Work S → List (Region S) → ℕ → Result (Work S) Outcome → Result (Work S) Outcome → Type 0
    Tried b i j w o c r q = EndsAlike i j (length o) (go_on r (λ x. ended x i w) (run_from M K rs b (i + 1))) (go_on q (λ x. ended x j (with_out w o c)) (run_from M K rs b (j + 1)))

    -- a region handed out, with or without a place in each slice
    hands : (b i j : ℕ) (w : Work S) (g : Region S) (h : Held S) (o : List (Region S)) (c : ℕ) → After others w o c → More b (i + 1) (j + 1) → (s t : Bool) → ltb w.count (length w.out) ≡ s → ltb c (length o) ≡ t → (w.count < length w.out → Tied found out places base (handed_out w g) h) → Tried b i j w o c (cond s (Ok (handed_out w g)) (Err ListFull)) (cond t (Ok (handed_out (with_out w o c) g)) (Err ListFull))
    hands b i j w g h o c a more false t es et d l r = absurd (l refl)
    hands b i j w g h o c a more true false es et d l r =
        let grown = count_grows M K rs b (i + 1) (handed_out w g) h (d (ltb-true _ _ es)) in
        let full = ltb-false _ _ et in
        absurd (omega (arith, grown, full, r, a.count))
    hands b i j w g h o c a more true true es et d l r =
        let wide = length-set o c g in
        let e = run_from M K rs b (i + 1) (handed_out w g) in
        let put : After others (handed_out w g) (set o c g) (c + 1) = record {
          count = omega (arith, a.count);
          front = take_more_set o c g (ltb-true _ _ et) ∙ ap (λ xs. xs ++ g ∷ []) a.front ∙ append_assoc others (take w.count w.out) (g ∷ []) ∙ ap (λ xs. others ++ xs) (sym (take_more_set w.out w.count g (ltb-true _ _ es)));
        } in
        let both = stepped i j (length (set o c g)) e _ (more (handed_out w g) h (d (ltb-true _ _ es)) (set o c g) (c + 1) put) in
        subst (λ n. EndsAlike i j n e (run_from M K rs b (j + 1) (with_out (handed_out w g) (set o c g) (c + 1)))) wide both l r

    splits : (b i j : ℕ) (w v : Work S) (h : Held S) (o : List (Region S)) (c : ℕ) → After others w o c → After others v o c → More b (i + 1) (j + 1) → (s : Bool) → (s ≡ true → Tied found out places base v h) → Tried b i j w o c (cond s (Ok v) (Err StackFull)) (cond s (Ok (with_out v o c)) (Err StackFull))
    splits b i j w v h o c a a' more true d = stepped i j (length o) _ _ (more v h (d refl) o c a')
    splits b i j w v h o c a a' more false d = ends i j w o c StackFull a

    made_at : (w : Work S) (f : Fate) (h : Held S) (s : Bool) (v : Work S) (x : Outcome) → s ≡ true → AfterStep M K rs found out places base w f h (cond s (Ok v) (Err x)) → Tied found out places base v h
    made_at w f h true v x e d = d
    made_at w f h false v x e d = absurd (true≢false (sym e))

    turns : (b i j : ℕ) (w : Work S) (s : S) (ws : List S) (hs : List (Region S)) → Tied found out places base w (held (s ∷ ws) hs) → (o : List (Region S)) (c : ℕ) → After others w o c → More b (i + 1) (j + 1) → (t : S) (f : Fate) → Tried b i j w o c (turn M K w t f) (turn M K (with_out w o c) t f)
    turns b i j w s ws hs d o c a more t Dropped = stepped i j (length o) _ _ (more (dropped w) (held ws hs) (after_turn M K rs found out places base w s ws hs d t Dropped) o c (record { count = a.count; front = a.front }))
    turns b i j w s ws hs d o c a more t (HandedOut x) =
        let g : Region S = record { shape = t; point = x } in
        hands b i j w g (held ws (hs ++ g ∷ [])) o c a more (ltb w.count (length w.out)) (ltb c (length o)) refl refl (λ h. made_at w (HandedOut x) (held ws (hs ++ g ∷ [])) (ltb w.count (length w.out)) (handed_out w g) ListFull (lt-ltb _ _ h) (after_turn M K rs found out places base w s ws hs d t (HandedOut x)))
    turns b i j w s ws hs d o c a more t Split =
        let v = split_in w (M.lower t) (M.upper t) in
        let h = held (M.lower t ∷ M.upper t ∷ ws) hs in
        splits b i j w v h o c a (record { count = a.count; front = a.front }) more (ltb w.waiting (length w.stack)) (λ e. made_at w Split h (ltb w.waiting (length w.stack)) v StackFull e (after_turn M K rs found out places base w s ws hs d t Split))

    takes : (b i j : ℕ) (w : Work S) → w.waiting ≢ 0 → (o : List (Region S)) (c : ℕ) → After others w o c → More b (i + 1) (j + 1) → (ws : List S) (hs : List (Region S)) → Tied found out places base w (held ws hs) → Tried b i j w o c (step M K rs w) (step M K rs (with_out w o c))
    takes b i j w some o c a more [] hs d = absurd (some d.of_stack.0)
    takes b i j w some o c a more (s ∷ ws) hs d =
        let top = front_last w.waiting w.stack (reverse ws) s (subst (Front _ _) (reverse_cons s ws) d.of_stack) in
        subst (λ x. Tried b i j w o c (take_up M K rs w x) (take_up M K rs (with_out w o c) x)) (sym top) (turns b i j w s ws hs d o c a more (refine M K rs s) (classify M K rs (refine M K rs s)))

    ends_none : (i j : ℕ) (w : Work S) (o : List (Region S)) (c : ℕ) → After others w o c → (t : Bool) → EndsAlike i j (length o) (cond t (ended Done i w) (ended Spent i w)) (cond t (ended Done j (with_out w o c)) (ended Spent j (with_out w o c)))
    ends_none i j w o c a true = ends i j w o c Done a
    ends_none i j w o c a false = ends i j w o c Spent a

    ends_more : (i j : ℕ) (w : Work S) (o : List (Region S)) (c : ℕ) → After others w o c → (t : Bool) → eqb w.waiting 0 ≡ t → (e f : Ended S) → (eqb w.waiting 0 ≡ false → EndsAlike i j (length o) e f) → EndsAlike i j (length o) (cond t (ended Done i w) e) (cond t (ended Done j (with_out w o c)) f)
    ends_more i j w o c a true z e f more = ends i j w o c Done a
    ends_more i j w o c a false z e f more = more z

    pub beside : (b i j : ℕ) → More b i j
    beside zero i j w h d o c a = ends_none i j w o c a (eqb w.waiting 0)
    beside (suc b) i j w h d o c a = ends_more i j w o c a (eqb w.waiting 0) refl _ _ (λ z. takes b i j w (eqb-false _ _ z) o c a (beside b (i + 1) (j + 1)) h.waiting h.handed d)
