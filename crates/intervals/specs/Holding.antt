-- What it means that a box holds a point, and that the test of it says so. Assumes nothing.
use Rattle.std.specs.Prelude.{◌≡◌, ℕ, ◌*◌, ◌/◌, ◌%◌, ◌<◌, Bool, true, false, cond, not, ◌&&◌, List, length, ℤ, pos, neg_ℤ, ◌≤ℤ◌, Decides, ◌==◌, int_le, slice_index_or}
use Rattle.std.proofs.Common.{arith}
use Rattle.std.proofs.lemmas.Int.{ints}
use Rattle.std.proofs.lemmas.Bool.{and_parts, and_from, not-true, not_from_false, eqb-true, eq-eqb}
use Rattle.interface.specs.Nodes.{value}
use Rattle.halving.specs.First.{every}
use Rattle.halving.proofs.First.{every_decides}
use Rattle.intervals.specs.declared.interval_box.IntervalBox.{IntervalBox}
use Rattle.intervals.specs.Boxes.{low_at, high_at, least, greatest}
use Rattle.intervals.specs.Answers.{in_range, holds_box}

abbrev pub coord : List ℤ → ℕ → ℤ
coord x k = slice_index_or x k (pos 0)

pub record In (s : IntervalBox) (x : List ℤ) : Type 0 where
  pub full : s.void ≡ false
  pub sized : length x ≡ s.n
  pub inside : (k : ℕ) → k < s.n → (low_at s k ≤ℤ coord x k) × (coord x k ≤ℤ high_at s k)

pub passes : (a b : ℤ) → a ≤ℤ b → int_le a b ≡ true
passes a b h = grind (arith, ints)

range_decides : (s : IntervalBox) (k : ℕ) (z : ℤ) → Decides (in_range s k z) ((low_at s k ≤ℤ z) × (z ≤ℤ high_at s k))
range_decides s k z =
    ((λ e. let p = and_parts (int_le (low_at s k) z) (int_le z (high_at s k)) e in (omega (arith, ints, p.0), omega (arith, ints, p.1))), (λ h. and_from (int_le (low_at s k) z) (int_le z (high_at s k)) (passes (low_at s k) z h.0) (passes z (high_at s k) h.1)))

pub holds_decides : (s : IntervalBox) (x : List ℤ) → Decides (holds_box s x) (In s x)
holds_decides s x = (to, from)
  where
    to : holds_box s x ≡ true → In s x
    to e =
        let p = and_parts (not s.void) (length x == s.n && every (λ k. in_range s k (coord x k)) s.n) e in
        let q = and_parts (length x == s.n) (every (λ k. in_range s k (coord x k)) s.n) p.1 in
        record { full = not-true s.void p.0; sized = eqb-true (length x) s.n q.0; inside = λ k h. (range_decides s k (coord x k)).0 ((every_decides (λ k. in_range s k (coord x k)) s.n).0 q.1 k h) }

    from : In s x → holds_box s x ≡ true
    from h = and_from (not s.void) _ (not_from_false s.void h.full) (and_from (length x == s.n) _ (eq-eqb (length x) s.n h.sized) ((every_decides (λ k. in_range s k (coord x k)) s.n).1 (λ k l. (range_decides s k (coord x k)).1 (h.inside k l))))

-- a held point's value at a node lies between the least and the greatest
pub between : (s : IntervalBox) (x : List ℤ) → In s x → (p : ℕ) → p < 2 * s.n → (least s p ≤ℤ value x p) × (value x p ≤ℤ greatest s p)
unfolding value
between s x h p l = by (p % 2 == 0) (h.inside (p / 2) (omega arith))
  where
    by : (b : Bool) → (low_at s (p / 2) ≤ℤ coord x (p / 2)) × (coord x (p / 2) ≤ℤ high_at s (p / 2)) → (cond b (low_at s (p / 2)) (neg_ℤ (high_at s (p / 2))) ≤ℤ cond b (coord x (p / 2)) (neg_ℤ (coord x (p / 2)))) × (cond b (coord x (p / 2)) (neg_ℤ (coord x (p / 2))) ≤ℤ cond b (high_at s (p / 2)) (neg_ℤ (low_at s (p / 2))))
    by true i = i
    by false i = (omega (arith, ints, i.0, i.1), omega (arith, ints, i.0, i.1))
