-- The negative of a number with room in 64 bits, through the casts of the code. Assumes nothing.
use Rattle.std.proofs.Common.{◌≡◌, ◌^◌, ◌≤◌, ℤ, pos, ◌-ℤ◌, neg_ℤ, nat_abs, arith, w64, to_z, of_z}
use borrow.Author.Differences.{ints}

pub negative_back : (z : ℤ) → nat_abs z ≤ 2 ^ 33 → to_z w64 (of_z w64 (pos 0 -ℤ to_z w64 (of_z w64 z))) ≡ neg_ℤ z
negative_back z h = omega (arith, ints)
