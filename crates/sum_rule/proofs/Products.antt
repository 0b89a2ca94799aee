-- The product of a coefficient and a value has room in 64 bits. Assumes nothing.
use Rattle.std.proofs.Common.{◌^◌, ◌≤◌, ℤ, ◌*ℤ◌, nat_abs, mul-le-mul}
use Rattle.std.proofs.lemmas.Int.{unsigned_abs-mul}

pub product_small : (k z : ℤ) → nat_abs k ≤ 2 ^ 7 → nat_abs z ≤ 2 ^ 31 → nat_abs (k *ℤ z) ≤ 2 ^ 38
product_small k z h l = rw (unsigned_abs-mul k z) (mul-le-mul h l)
