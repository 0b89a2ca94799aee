-- A setting's value lies in the range that the reading leaves it, and is both its ends on one point's sums. Assumes nothing.
use Rattle.std.proofs.Common.{◌≡◌, ℕ, ◌+◌, ◌*◌, ◌<◌, List, get_or, ℤ, pos, ◌≤ℤ◌, arith}
use borrow.Author.Differences.{ints}
use Rattle.interface.specs.declared.reading.Reading.{Reading}
use Rattle.interface.specs.Readings.{limit_at, low_in, high_in, Within, SumsOf}
use Rattle.interface.proofs.Halves.{half_is}
use Rattle.interface.proofs.Values.{value_even, value_odd}

module _ (g : Reading) (x : List ℤ) (a : ℕ) (on : a < g.n) where
  pub range_from : Within g x → low_in g a ≤ℤ get_or x a (pos 0)
  range_from w =
      let kept = w.1 (2 * a + 1) (2 * a + 1) (omega arith) (omega arith) in
      let h = half_is (limit_at g (2 * a + 1) (2 * a + 1)) in
      omega (arith, ints, kept, h.0, h.1, value_odd x a)

  pub range_to : Within g x → get_or x a (pos 0) ≤ℤ high_in g a
  range_to w =
      let kept = w.1 (2 * a) (2 * a) (omega arith) (omega arith) in
      let h = half_is (limit_at g (2 * a) (2 * a)) in
      omega (arith, ints, kept, h.0, h.1, value_even x a)

  pub range_low : SumsOf g x → low_in g a ≡ get_or x a (pos 0)
  range_low s =
      let same = s.1 (2 * a + 1) (2 * a + 1) (omega arith) (omega arith) in
      let h = half_is (limit_at g (2 * a + 1) (2 * a + 1)) in
      omega (arith, ints, same, h.0, h.1, value_odd x a)

  pub range_high : SumsOf g x → high_in g a ≡ get_or x a (pos 0)
  range_high s =
      let same = s.1 (2 * a) (2 * a) (omega arith) (omega arith) in
      let h = half_is (limit_at g (2 * a) (2 * a)) in
      omega (arith, ints, same, h.0, h.1, value_even x a)
