-- Bounding a value keeps exactly the held points within the bound: once for a range, and from there for each node. Assumes nothing.
use Rattle.std.specs.Prelude.{◌≡◌, ℕ, ◌*◌, ◌/◌, ◌%◌, ◌<◌, ◌≤◌, Bool, true, false, cond, List, ℤ, neg_ℤ, ◌≤ℤ◌, ◌==◌, refl}
use Rattle.std.proofs.Common.{sym, subst, ◌∙◌, le_trans, arith}
use Rattle.std.proofs.lemmas.Int.{ints, clamps}
use Rattle.std.proofs.lemmas.Bool.{both_ways, true≢false}
use Rattle.std.specs.Int.{int_min, int_max}
use Rattle.interface.specs.Nodes.{value}
use Rattle.intervals.specs.declared.interval_box.IntervalBox.{IntervalBox}
use Rattle.intervals.specs.Boxes.{low_at, high_at, with_range, narrowed, at_most, at_least, bounded}
use Rattle.intervals.specs.Answers.{halvings_box}
use Rattle.intervals.specs.Holding.{In, coord}
use Rattle.intervals.specs.Sound.{Sound, narrowed_cases, range_cases, narrowed_sound}
use Rattle.intervals.specs.Widths.{narrowed_fewer}

-- r holds exactly the points of s with Q
pub record Restricts (s r : IntervalBox) (Q : List ℤ → Type 0) : Type 0 where
  pub same_n : r.n ≡ s.n
  pub sound : Sound r
  pub keeps : (x : List ℤ) → In s x → Q x → In r x
  pub adds_none : (x : List ℤ) → In r x → In s x × Q x
  pub fewer : halvings_box r ≤ halvings_box s

-- Q may be put in other words
pub restricts_like : {s r : IntervalBox} {Q R : List ℤ → Type 0} → Restricts s r Q → ((x : List ℤ) → In s x → R x → Q x) → ((x : List ℤ) → In s x → Q x → R x) → Restricts s r R
restricts_like h to from = record { same_n = h.same_n; sound = h.sound; keeps = λ x i q. h.keeps x i (to x i q); adds_none = λ x i. ((h.adds_none x i).0, from x (h.adds_none x i).0 (h.adds_none x i).1); fewer = h.fewer }

pub restricts_both : {s r u : IntervalBox} {Q R : List ℤ → Type 0} → Restricts s r Q → Restricts r u R → Restricts s u (λ x. Q x × R x)
restricts_both h g = record { same_n = g.same_n ∙ h.same_n; sound = g.sound; keeps = λ x i q. g.keeps x (h.keeps x i q.0) q.1; adds_none = λ x i. ((h.adds_none x (g.adds_none x i).0).0, ((h.adds_none x (g.adds_none x i).0).1, (g.adds_none x i).1)); fewer = le_trans g.fewer h.fewer }

module _ (s : IntervalBox) (sd : Sound s) (k : ℕ) (on : k < s.n) (lo hi : ℤ) (above : low_at s k ≤ℤ lo) (below : hi ≤ℤ high_at s k) where
  abbrev Between : List ℤ → Type 0
  Between x = (lo ≤ℤ coord x k) × (coord x k ≤ℤ hi)

  range_keeps : (x : List ℤ) → In s x → Between x → In (with_range s k lo hi) x
  range_keeps x i b = record { full = i.full; sized = i.sized; inside = λ j l. range_cases s k lo hi j (λ low high. (low ≤ℤ coord x j) × (coord x j ≤ℤ high)) sd (omega (arith, sd.most)) (λ e. subst (λ m. (lo ≤ℤ coord x m) × (coord x m ≤ℤ hi)) (sym e) b) (λ _. i.inside j l) }

  range_adds_none : (x : List ℤ) → In (with_range s k lo hi) x → In s x × Between x
  range_adds_none x i =
      let k<8 : k < 8 = omega (arith, sd.most) in
      let here : Between x = range_cases s k lo hi k (λ low high. (low ≤ℤ coord x k) × (coord x k ≤ℤ high) → Between x) sd k<8 (λ _ b. b) (λ ne. absurd (ne refl)) (i.inside k on) in
      let wide : (low_at s k ≤ℤ coord x k) × (coord x k ≤ℤ high_at s k) = (omega (arith, ints, here.0, above), omega (arith, ints, here.1, below)) in
      let inside : (j : ℕ) → j < s.n → (low_at s j ≤ℤ coord x j) × (coord x j ≤ℤ high_at s j) = λ j l. range_cases s k lo hi j (λ low high. (low ≤ℤ coord x j) × (coord x j ≤ℤ high) → (low_at s j ≤ℤ coord x j) × (coord x j ≤ℤ high_at s j)) sd k<8 (λ e _. subst (λ m. (low_at s m ≤ℤ coord x m) × (coord x m ≤ℤ high_at s m)) (sym e) wide) (λ _ b. b) (i.inside j l) in (record { full = i.full; sized = i.sized; inside = inside }, here)

  pub narrowed_restricts : Restricts s (narrowed s k lo hi) Between
  narrowed_restricts = record {
    same_n = narrowed_cases s k lo hi (λ r. r.n ≡ s.n) (λ _. refl) (λ _ _. refl) (λ _ _. refl);
    sound = narrowed_sound s sd k on lo hi above below;
    keeps = λ x i b. narrowed_cases s k lo hi (λ r. In r x) (λ e. absurd (both_ways s.void i.full e)) (λ _ l. absurd (omega (arith, ints, l, b.0, b.1))) (λ _ _. range_keeps x i b);
    adds_none = λ x. narrowed_cases s k lo hi (λ r. In r x → In s x × Between x) (λ e i. absurd (both_ways s.void i.full e)) (λ _ _ i. absurd (true≢false i.full)) (λ _ _ i. range_adds_none x i);
    fewer = narrowed_fewer s sd k on lo hi above below;
  }

module _ (s : IntervalBox) (sd : Sound s) (k : ℕ) (on : k < s.n) (b : ℤ) where
  pub at_most_restricts : Restricts s (at_most s k b) (λ x. coord x k ≤ℤ b)
  at_most_restricts = restricts_like (narrowed_restricts s sd k on (low_at s k) (int_min b (high_at s k)) (omega (arith, ints)) (omega (arith, ints, clamps))) (λ x i q. ((i.inside k on).0, omega (arith, ints, clamps, q, (i.inside k on).1))) (λ x i q. omega (arith, ints, clamps, q.1))

  pub at_least_restricts : Restricts s (at_least s k b) (λ x. b ≤ℤ coord x k)
  at_least_restricts = restricts_like (narrowed_restricts s sd k on (int_max b (low_at s k)) (high_at s k) (omega (arith, ints, clamps)) (omega (arith, ints))) (λ x i q. (omega (arith, ints, clamps, q, (i.inside k on).0), (i.inside k on).1)) (λ x i q. omega (arith, ints, clamps, q.0))

pub bounded_restricts : (s : IntervalBox) → Sound s → (p : ℕ) → p < 2 * s.n → (b : ℤ) → Restricts s (bounded s p b) (λ x. value x p ≤ℤ b)
unfolding bounded value
bounded_restricts s sd p on b = by (p % 2 == 0)
  where
    by : (v : Bool) → Restricts s (cond v (at_most s (p / 2) b) (at_least s (p / 2) (neg_ℤ b))) (λ x. cond v (coord x (p / 2)) (neg_ℤ (coord x (p / 2))) ≤ℤ b)
    by true = at_most_restricts s sd (p / 2) (omega arith) b
    by false = restricts_like (at_least_restricts s sd (p / 2) (omega arith) (neg_ℤ b)) (λ x i q. omega (arith, ints, q)) (λ x i q. omega (arith, ints, q))
