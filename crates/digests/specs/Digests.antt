-- The digest of a list of numbers. Assumes nothing.
use Rattle.std.specs.Prelude.{ℕ, ◌+◌, ◌*◌, ◌%◌, List, ℤ, pos, ◌+ℤ◌, unsigned_abs, fold}

-- the digest d with one more number z; z plus three thousand million is above 0, as z has 32 bits
abbrev pub mixed : ℕ → ℤ → ℕ
mixed d z = (d % 1000003 * 31 + unsigned_abs (z +ℤ pos 3000000000)) % 1000003

-- the digest d with the numbers of a list, the first first
abbrev pub mixed_all : ℕ → List ℤ → ℕ
mixed_all d zs = fold mixed d zs
