-- Limits: at most two million, reached by no held point from above, and 0 where the box has none. Assumes nothing.
use Rattle.std.specs.Prelude.{◌≡◌, ℕ, ◌*◌, ◌/◌, ◌%◌, ◌<◌, ◌≤◌, Bool, true, false, cond, not, List, ℤ, pos, ◌+ℤ◌, neg_ℤ, ◌≤ℤ◌, ◌==◌, ◌≢◌, int_le, refl}
use Rattle.std.proofs.Common.{⊎_elim, sym, ap, subst, ◌∙◌, arith}
use Rattle.std.proofs.lemmas.Int.{ints, clamps}
use Rattle.std.proofs.lemmas.Bool.{and_left, and_right, and_from, not_from_true, not_from_false, eq-eqb, ne_eqb, le-ltb, lt-ltb, cond-true, cond-false, cases_eq}
use Rattle.interface.specs.Nodes.{opp, value}
use Rattle.interface.specs.Numbers.{within}
use Rattle.intervals.specs.declared.interval_box.IntervalBox.{IntervalBox}
use Rattle.intervals.specs.Boxes.{low_at, high_at, greatest, on_line}
use Rattle.intervals.specs.Answers.{clipped, limited, limit_box}
use Rattle.intervals.specs.Extents.{Lonely}
use Rattle.intervals.specs.Holding.{In, coord, passes, between}
use Rattle.intervals.specs.Sound.{Sound}

-- the opposite node stands for the negative
pub value_opp : (x : List ℤ) (p : ℕ) → (value x p +ℤ value x (opp p)) ≡ pos 0
unfolding value
value_opp x p = ⊎_elim even odd (cases_eq (p % 2) 0)
  where
    at : ℕ → ℕ → ℤ
    at r k = cond (r == 0) (coord x k) (neg_ℤ (coord x k))

    even : p % 2 ≡ 0 → (cond (p % 2 == 0) (coord x (p / 2)) (neg_ℤ (coord x (p / 2))) +ℤ cond (opp p % 2 == 0) (coord x (opp p / 2)) (neg_ℤ (coord x (opp p / 2)))) ≡ pos 0
    even e =
        let a : at (p % 2) (p / 2) ≡ coord x (p / 2) = cond-true (p % 2 == 0) _ _ (eq-eqb (p % 2) 0 e) in
        let b : at (opp p % 2) (opp p / 2) ≡ neg_ℤ (coord x (opp p / 2)) = cond-false (opp p % 2 == 0) _ _ (ne_eqb (opp p % 2) 0 (λ q. omega arith)) in
        let same : coord x (opp p / 2) ≡ coord x (p / 2) = ap (coord x) (omega arith) in
        omega (arith, ints, a, b, same)

    odd : (p % 2 ≢ 0) → (cond (p % 2 == 0) (coord x (p / 2)) (neg_ℤ (coord x (p / 2))) +ℤ cond (opp p % 2 == 0) (coord x (opp p / 2)) (neg_ℤ (coord x (opp p / 2)))) ≡ pos 0
    odd ne =
        let a : at (p % 2) (p / 2) ≡ neg_ℤ (coord x (p / 2)) = cond-false (p % 2 == 0) _ _ (ne_eqb (p % 2) 0 ne) in
        let b : at (opp p % 2) (opp p / 2) ≡ coord x (opp p / 2) = cond-true (opp p % 2 == 0) _ _ (eq-eqb (opp p % 2) 0 (omega (arith, ne))) in
        let same : coord x (opp p / 2) ≡ coord x (p / 2) = ap (coord x) (omega (arith, ne)) in
        omega (arith, ints, a, b, same)

greatest_within : (s : IntervalBox) → Sound s → (p : ℕ) → (neg_ℤ (pos 1000000) ≤ℤ greatest s p) × (greatest s p ≤ℤ pos 1000000)
greatest_within s sd p = by (p % 2 == 0)
  where
    by : (b : Bool) → (neg_ℤ (pos 1000000) ≤ℤ cond b (high_at s (p / 2)) (neg_ℤ (low_at s (p / 2)))) × (cond b (high_at s (p / 2)) (neg_ℤ (low_at s (p / 2))) ≤ℤ pos 1000000)
    by true = let g = sd.good (p / 2) in (omega (arith, ints, g.ordered, g.bottom), g.top)
    by false = let g = sd.good (p / 2) in (omega (arith, ints, g.ordered, g.top), omega (arith, ints, g.bottom))

-- a sum of a made box is not clipped
pub sum_unclipped : (s : IntervalBox) → Sound s → (p q : ℕ) → clipped (greatest s p +ℤ greatest s q) ≡ greatest s p +ℤ greatest s q
sum_unclipped s sd p q = let a = greatest_within s sd p in let b = greatest_within s sd q in omega (arith, ints, clamps, a, b)

-- the two kinds of limits: a sum, or 0
pub limit_cases : (s : IntervalBox) → Sound s → (p q : ℕ) (P : ℤ → Type 0) → (limited s p q ≡ true → P (greatest s p +ℤ greatest s q)) → (limited s p q ≡ false → P (pos 0)) → P (limit_box s p q)
limit_cases s sd p q P sum none = by (limited s p q) refl
  where
    by : (b : Bool) → limited s p q ≡ b → P (cond b (clipped (greatest s p +ℤ greatest s q)) (pos 0))
    by true e = subst P (sym (sum_unclipped s sd p q)) (sum e)
    by false e = none e

-- where it is 0
pub off_limited : (s : IntervalBox) (p q : ℕ) → 2 * s.n ≤ p → (limited s p q ≡ false) × (limited s q p ≡ false)
off_limited s p q h =
    let e = le-ltb p (2 * s.n) h in (and_right (not s.void) _ (and_left (on_line s p) _ e), and_right (not s.void) _ (and_right (on_line s q) _ (and_left (on_line s p) _ e)))

pub opposite_limited : (s : IntervalBox) (p : ℕ) → limited s p (opp p) ≡ false
opposite_limited s p = and_right (not s.void) _ (and_right (on_line s p) _ (and_right (on_line s (opp p)) _ (not_from_true (opp p == opp p) (eq-eqb (opp p) (opp p) refl))))

pub void_limited : (s : IntervalBox) (p q : ℕ) → s.void ≡ true → limited s p q ≡ false
void_limited s p q e = and_left (not s.void) _ (not_from_true s.void e)

-- nodes on the line of a full box have a limit unless they are opposite
pub full_limited : (s : IntervalBox) (p q : ℕ) → s.void ≡ false → p < 2 * s.n → q < 2 * s.n → limited s p q ≡ false → q ≡ opp p
full_limited s p q full on-p on-q e = ⊎_elim (λ (h : q ≡ opp p). h) (λ ne. absurd (omega (arith, ap bit (sym (all ne) ∙ e)))) (cases_eq q (opp p))
  where
    bit : Bool → ℕ
    bit b = cond b 1 0

    all : (q ≢ opp p) → limited s p q ≡ true
    all ne = and_from (not s.void) _ (not_from_false s.void full) (and_from (on_line s p) _ (lt-ltb p (2 * s.n) on-p) (and_from (on_line s q) _ (lt-ltb q (2 * s.n) on-q) (not_from_false (q == opp p) (ne_eqb q (opp p) ne))))

pub limit_is_within : (s : IntervalBox) → Sound s → (p q : ℕ) → within 2000000 (limit_box s p q) ≡ true
limit_is_within s sd p q = limit_cases s sd p q (λ z. within 2000000 z ≡ true) (λ _. sum) (λ _. refl)
  where
    m : ℤ
    m = greatest s p +ℤ greatest s q

    sum : within 2000000 (greatest s p +ℤ greatest s q) ≡ true
    sum =
        let a = greatest_within s sd p in
        let b = greatest_within s sd q in
        and_from (int_le (neg_ℤ (pos 2000000)) m) (int_le m (pos 2000000)) (passes (neg_ℤ (pos 2000000)) m (omega (arith, ints, a, b))) (passes m (pos 2000000) (omega (arith, ints, a, b)))

pub limit_is_even : (s : IntervalBox) → Sound s → (p : ℕ) → (z : ℤ) × (limit_box s p p ≡ z +ℤ z)
limit_is_even s sd p = limit_cases s sd p p (λ m. (z : ℤ) × (m ≡ z +ℤ z)) (λ _. (greatest s p, refl)) (λ _. (pos 0, refl))

module _ (s : IntervalBox) (sd : Sound s) (x : List ℤ) (i : In s x) (p q : ℕ) (on-p : p < 2 * s.n) (on-q : q < 2 * s.n) where
  opposite_sum : limited s p q ≡ false → (value x p +ℤ value x q) ≡ pos 0
  opposite_sum e = subst (λ r. (value x p +ℤ value x r) ≡ pos 0) (sym (full_limited s p q i.full on-p on-q e)) (value_opp x p)

  pub sum_below : (value x p +ℤ value x q) ≤ℤ limit_box s p q
  sum_below = limit_cases s sd p q (λ z. (value x p +ℤ value x q) ≤ℤ z) (λ _. omega (arith, ints, (between s x i p on-p).1, (between s x i q on-q).1)) (λ e. omega (arith, ints, opposite_sum e))

  -- one point's values are the greatest
  lone_value : Lonely s → (r : ℕ) → r < 2 * s.n → greatest s r ≡ value x r
  lone_value l r on = let b = between s x i r on in omega (arith, ints, b, meet (r % 2 == 0))
    where
      meet : (v : Bool) → cond v (low_at s (r / 2)) (neg_ℤ (high_at s (r / 2))) ≡ cond v (high_at s (r / 2)) (neg_ℤ (low_at s (r / 2)))
      meet true = l.level (r / 2)
      meet false = ap neg_ℤ (sym (l.level (r / 2)))

  pub lone_sum : Lonely s → limit_box s p q ≡ value x p +ℤ value x q
  lone_sum l = limit_cases s sd p q (λ z. z ≡ value x p +ℤ value x q) (λ _. omega (arith, ints, lone_value l p on-p, lone_value l q on-q)) (λ e. sym (opposite_sum e))
