-- Half of a number, rounded down, in the two parts of a number that `omega` reads: twice the half is the number or one less. Assumes nothing.
use Rattle.std.proofs.Common.{◌+◌, ◌*◌, ◌≤◌, ℤ, pos, negsuc, arith}
use borrow.Author.Differences.{up, down}
use Rattle.interface.specs.Numbers.{half}

pub half_is : (z : ℤ) → (2 * up (half z) + down z ≤ 2 * down (half z) + up z) × (2 * down (half z) + up z ≤ 2 * up (half z) + down z + 1)
half_is (pos a) = (omega arith, omega arith)
half_is (negsuc a) = (omega arith, omega arith)
