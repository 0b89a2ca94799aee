-- What omega must know of a half that is rounded down.
use Rattle.std.proofs.Common.{◌≡◌, ◌+◌, ◌*◌, ◌≤◌, ℤ, pos, negsuc, ◌+ℤ◌, arith}
use Rattle.interface.specs.Numbers.{half}
use borrow.Author.Differences.{up, down, ints}

pub half_is : (z : ℤ) → (2 * up (half z) + down z ≤ 2 * down (half z) + up z) × (2 * down (half z) + up z ≤ 2 * up (half z) + down z + 1)
half_is (pos n) = omega arith
half_is (negsuc n) = omega arith

pub half_sum : (a b : ℤ) → half ((a +ℤ a) +ℤ (b +ℤ b)) ≡ (a +ℤ b)
half_sum a b = omega (arith, ints, half_is)
