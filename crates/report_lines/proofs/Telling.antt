-- Place k of a reading is the pair of nodes k / 16 and k % 16, so the places in their order are the pairs in theirs. Assumes nothing.
use Rattle.std.proofs.Common.{◌≡◌, ℕ, zero, suc, ◌+◌, ◌*◌, ◌/◌, ◌%◌, ◌<◌, ◌≤◌, Bool, true, false, cond, not, ◌&&◌, eqb, ltb, ◌⊎◌, List, [], ◌∷◌, ◌++◌, ℤ, ◌+ℤ◌, ◌<ℤ◌, sym, refl, ap, ◌∙◌, subst, inl, inr, arith}
use lib.Signed.{lt_z}
use Rattle.std.specs.List.{range_with_len, flat_map, Contains, All}
use Rattle.std.proofs.lemmas.List.Elements.{All-nil, All-cons, All-append, All-weaker, Contains-get_or, Contains-append_left, Contains-append_right}
use Rattle.std.proofs.lemmas.Int.{ints}
use Rattle.std.proofs.lemmas.Bool.{and_from, and_parts, cases_lt, cond-true, eqb-false, lt-ltb, ltb-true, ne_eqb, not-true}
use Rattle.interface.specs.declared.reading.Reading.{Reading}
use Rattle.interface.specs.Nodes.{opp}
use Rattle.interface.specs.Numbers.{half}
use Rattle.interface.specs.Readings.{limit_at}
use Rattle.report_lines.specs.PairLaws.{Told, PairsTold, Ascending, rank}
use Rattle.report_lines.specs.RegionFrames.{ordered, tells_more, pair_written, pair_frame, pair_at, pair_frames}

below_true : (a b : ℤ) → a <ℤ b → lt_z a b ≡ true
below_true a b h = grind (arith, ints)

below_from : (a b : ℤ) → lt_z a b ≡ true → a <ℤ b
below_from a b h = grind (arith, ints)

module _ (g : Reading) where
  told_written : (p q : ℕ) → Told g p q → pair_written g p q ≡ true
  told_written p q t =
      let other : not (eqb q (opp p)) ≡ true = ap not (ne_eqb q (opp p) t.not_opposite) in
      and_from (ordered p q) (ltb q (2 * g.n) && tells_more g p q)
      (and_from (ltb p q) (not (eqb q (opp p))) (lt-ltb p q t.order) other)
      (and_from (ltb q (2 * g.n)) (tells_more g p q) (lt-ltb q (2 * g.n) t.on_line) (below_true (limit_at g p q) (half (limit_at g p p +ℤ limit_at g q q)) t.below))

  written_told : (p q : ℕ) → pair_written g p q ≡ true → Told g p q
  written_told p q e =
      let parts = and_parts (ordered p q) (ltb q (2 * g.n) && tells_more g p q) e in
      let order = and_parts (ltb p q) (not (eqb q (opp p))) parts.0 in
      let more = and_parts (ltb q (2 * g.n)) (tells_more g p q) parts.1 in
      record {
        order = ltb-true p q order.0;
        on_line = ltb-true q (2 * g.n) more.0;
        not_opposite = eqb-false q (opp p) (not-true (eqb q (opp p)) order.1);
        below = below_from (limit_at g p q) (half (limit_at g p p +ℤ limit_at g q q)) more.1;
      }

  abbrev frame : ℕ → List ℕ
  frame k = pair_frame g (k / 16) (k % 16)

  abbrev from : ℕ → ℕ → List (List ℕ)
  from a m = flat_map (pair_at g) (range_with_len a m)

  has_frame : (m a k : ℕ) → a ≤ k → k < a + m → pair_written g (k / 16) (k % 16) ≡ true → Contains (from a m) (frame k)
  has_frame zero a k low high e = absurd (omega arith)
  has_frame (suc m) a k low high e = way (λ lt. has_frame m (a + 1) k (omega arith) (omega arith) e) (cases_lt a k)
    where
      way : (a < k → Contains (from (a + 1) m) (frame k)) → (a < k) ⊎ (k ≤ a) → Contains (from a (suc m)) (frame k)
      way more (inl lt) = Contains-append_right (pair_at g a) (from (a + 1) m) (frame k) (more lt)
      way more (inr le) =
          let here : k ≡ a = omega arith in
          let one : frame k ∷ [] ≡ pair_at g a = sym (cond-true (pair_written g (k / 16) (k % 16)) (frame k ∷ []) [] e) ∙ ap (pair_at g) here in
          Contains-append_left (pair_at g a) (from (a + 1) m) (frame k) (subst (λ fs. Contains fs (frame k)) one (Contains-get_or (frame k ∷ []) 0 [] (omega arith)))

  abbrev IsTold : List ℕ → Type 0
  IsTold f = (p : ℕ) × (q : ℕ) × Told g p q × (f ≡ pair_frame g p q)

  one_told : (k : ℕ) (b : Bool) → pair_written g (k / 16) (k % 16) ≡ b → All IsTold (cond b (frame k ∷ []) [])
  one_told k true e = All-cons IsTold (frame k) [] (k / 16, k % 16, written_told (k / 16) (k % 16) e, refl) (All-nil IsTold)
  one_told k false e = All-nil IsTold

  all_told : (ks : List ℕ) → All IsTold (flat_map (pair_at g) ks)
  all_told [] = All-nil IsTold
  all_told (k ∷ ks) = All-append IsTold (pair_at g k) (flat_map (pair_at g) ks) (one_told k (pair_written g (k / 16) (k % 16)) refl) (all_told ks)

  -- from place a on each frame ranks at least a
  ranked : (m a : ℕ) → All (λ e. a ≤ rank e) (from a m) × Ascending (from a m)
  ranked zero a = (All-nil (λ e. a ≤ rank e), tt)
  ranked (suc m) a = by (pair_written g (a / 16) (a % 16)) (ranked m (a + 1))
    where
      here : rank (frame a) ≡ a
      here = omega arith

      by : (b : Bool) → All (λ e. a + 1 ≤ rank e) (from (a + 1) m) × Ascending (from (a + 1) m) → All (λ e. a ≤ rank e) (cond b (frame a ∷ []) [] ++ from (a + 1) m) × Ascending (cond b (frame a ∷ []) [] ++ from (a + 1) m)
      by true h = (
        All-cons (λ e. a ≤ rank e) (frame a) (from (a + 1) m) (omega (arith, here)) (All-weaker (λ e. a + 1 ≤ rank e) (λ e. a ≤ rank e) (λ e lt. omega arith) (from (a + 1) m) h.0),
        (All-weaker (λ e. a + 1 ≤ rank e) (λ e. rank (frame a) < rank e) (λ e lt. omega (arith, here)) (from (a + 1) m) h.0, h.1),
      )
      by false h = (All-weaker (λ e. a + 1 ≤ rank e) (λ e. a ≤ rank e) (λ e lt. omega arith) (from (a + 1) m) h.0, h.1)

  place_of : (p q : ℕ) → q < 16 → Told g p q → Contains (from 0 256) (pair_frame g p q)
  place_of p q small t =
      let first : (16 * p + q) / 16 ≡ p = omega arith in
      let second : (16 * p + q) % 16 ≡ q = omega arith in
      let low : p < 16 = omega (arith, t.order) in
      let e : pair_written g ((16 * p + q) / 16) ((16 * p + q) % 16) ≡ true = (λ i. pair_written g (first i) (second i)) ∙ told_written p q t in
      subst (λ f. Contains (from 0 256) f) (λ i. pair_frame g (first i) (second i)) (has_frame 256 0 (16 * p + q) (omega arith) (omega arith) e)

  pub pairs_told : PairsTold g (pair_frames g)
  unfolding pair_frames
  pairs_told = record { each = place_of; only = all_told (range_with_len 0 256); ascending = (ranked 256 0).1 }
