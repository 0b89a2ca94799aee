-- Hexadecimal digits and big-endian numbers, over lists. Assumes nothing.
use Rattle.std.specs.Prelude.{ℕ, zero, suc, ◌+◌, ◌-◌, ◌*◌, ◌/◌, ◌%◌, ◌^◌, Bool, cond, ◌&&◌, ◌||◌, List, [], ◌∷◌, length, nat_le, nat_lt, slice_index}

-- the byte is one of the digits 0-9 and A-F
abbrev pub is_digit : ℕ → Bool
is_digit b = (nat_le 48 b && nat_lt b 58) || (nat_le 65 b && nat_lt b 71)

-- what a digit is worth, 0 for any other byte
abbrev pub digit_value : ℕ → ℕ
digit_value b = cond (nat_lt b 48) 0 (cond (nat_lt b 58) (b - 48) (cond (nat_lt b 65) 0 (cond (nat_lt b 71) (b - 55) 0)))

-- the digit that is worth v
abbrev pub digit_of : ℕ → ℕ
digit_of v = cond (nat_lt v 10) (48 + v) (55 + v)

-- two digits, the higher first
abbrev pub byte_of : ℕ → ℕ → ℕ
byte_of high low = 16 * digit_value high + digit_value low

-- bytes as digits
abbrev pub hex : List ℕ → List ℕ
hex [] = []
hex (b ∷ bs) = digit_of (b / 16) ∷ digit_of (b % 16) ∷ hex bs

-- digits as bytes; a last digit without a partner is dropped
abbrev pub unhex : List ℕ → List ℕ
unhex [] = []
unhex (h ∷ []) = []
unhex (h ∷ (l ∷ ds)) = byte_of h l ∷ unhex ds

-- the w bytes of n, the highest first
abbrev pub be : ℕ → ℕ → List ℕ
be zero n = []
be (suc zero) n = n ∷ []
be (suc (suc w)) n = (n / 256 ^ suc w) ∷ be (suc w) (n % 256 ^ suc w)

-- the number that bytes write, the highest first
abbrev pub val : List ℕ → ℕ
val [] = 0
val (b ∷ []) = b
val (b ∷ (c ∷ bs)) = b * 256 ^ length (c ∷ bs) + val (c ∷ bs)

-- w bytes from place i on, 0 where there are none
abbrev pub part : ℕ → ℕ → List ℕ → List ℕ
part zero i bs = []
part (suc w) i bs = slice_index bs i ∷ part w (i + 1) bs
