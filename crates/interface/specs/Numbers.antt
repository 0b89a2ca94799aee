-- Bounds and halves of whole numbers. Assumes nothing.
use Rattle.std.specs.Prelude.{ℕ, Bool, ◌&&◌, ℤ, pos, neg_ℤ, int_le}
use Rattle.std.specs.Int.{int_div_euclid}

-- z lies from -b to b
abbrev pub within : ℕ → ℤ → Bool
within b z = int_le (neg_ℤ (pos b)) z && int_le z (pos b)

-- half of z, rounded down: -7 halved is -4
abbrev pub half : ℤ → ℤ
half z = int_div_euclid z (pos 2)
