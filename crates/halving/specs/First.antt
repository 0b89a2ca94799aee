-- Tests of numbers, and the first number that passes one. Assumes nothing.
use Rattle.std.specs.Prelude.{ℕ, Bool}
use Rattle.std.specs.List.{list_all, position_or_len, range_with_len}

-- every number below n passes
abbrev pub every : (ℕ → Bool) → ℕ → Bool
every t n = list_all t (range_with_len 0 n)

-- the first number below n that passes, and where none does n
abbrev pub first_below : (ℕ → Bool) → ℕ → ℕ
first_below t n = position_or_len t (range_with_len 0 n)
