-- Digits go two by two, so byte i is digits 2i and 2i + 1. Assumes nothing.
use Rattle.std.proofs.Common.{◌≡◌, ℕ, zero, suc, ◌+◌, ◌*◌, ◌/◌, ◌%◌, ◌<◌, ◌≤◌, true, List, [], ◌∷◌, ◌++◌, length, get_or, refl, ap, ◌∙◌, arith}
use Rattle.std.specs.List.{All}
use Rattle.std.proofs.lemmas.List.Elements.{All-head, All-tail}
use Rattle.std.proofs.lemmas.List.{get_or_past}
use Rattle.std.proofs.lemmas.Bool.Decides.{nat_tests}
use Rattle.wire.specs.Bytes.{hex, unhex, byte_of, digit_of, digit_value, is_digit}

pub length_unhex : (ds : List ℕ) → length (unhex ds) ≡ length ds / 2
length_unhex [] = refl
length_unhex (h ∷ []) = refl
length_unhex (h ∷ (l ∷ ds)) = omega (arith, length_unhex ds)

pub unhex_at : (ds : List ℕ) (i : ℕ) → i < length ds / 2 → get_or (unhex ds) i 0 ≡ byte_of (get_or ds (2 * i) 0) (get_or ds (2 * i + 1) 0)
unhex_at [] i h = absurd (omega arith)
unhex_at (d ∷ []) i h = absurd (omega arith)
unhex_at (d ∷ (l ∷ ds)) zero h = refl
unhex_at (d ∷ (l ∷ ds)) (suc i) h =
    let a : 2 * suc i ≡ suc (suc (2 * i)) = omega arith in
    let b : 2 * suc i + 1 ≡ suc (suc (2 * i + 1)) = omega arith in
    rw (b, a) (unhex_at ds i (omega arith))

pub unhex_past : (ds : List ℕ) (i : ℕ) → length ds / 2 ≤ i → get_or (unhex ds) i 0 ≡ 0
unhex_past ds i h = get_or_past (unhex ds) i 0 (omega (arith, length_unhex ds))

pub length_hex : (bs : List ℕ) → length (hex bs) ≡ 2 * length bs
length_hex [] = refl
length_hex (b ∷ bs) = omega (arith, length_hex bs)

pub hex_append : (bs cs : List ℕ) → hex (bs ++ cs) ≡ hex bs ++ hex cs
hex_append [] cs = refl
hex_append (b ∷ bs) cs = rw (hex_append bs cs)

-- a digit and what it is worth, both ways
value_digit : (v : ℕ) → v < 16 → digit_value (digit_of v) ≡ v
value_digit v h = grind (arith, nat_tests)

digit_back : (d : ℕ) → is_digit d ≡ true → digit_of (digit_value d) ≡ d
digit_back d h = grind (arith, nat_tests)

value_small : (d : ℕ) → digit_value d < 16
value_small d = grind (arith, nat_tests)

pub digit_is : (v : ℕ) → v < 16 → is_digit (digit_of v) ≡ true
digit_is v h = grind (arith, nat_tests)

pub unhex_hex : (bs : List ℕ) → All (λ b. b < 256) bs → unhex (hex bs) ≡ bs
unhex_hex [] a = refl
unhex_hex (b ∷ bs) a =
    let high = value_digit (b / 16) (omega (arith, All-head (λ b. b < 256) b bs a)) in
    let low = value_digit (b % 16) (omega arith) in
    let here : byte_of (digit_of (b / 16)) (digit_of (b % 16)) ≡ b = (λ i. 16 * high i + low i) ∙ omega arith in
    let there = unhex_hex bs (All-tail (λ b. b < 256) b bs a) in
    λ i. here i ∷ there i

pub hex_unhex : (ds : List ℕ) → ((i : ℕ) → i < length ds → is_digit (get_or ds i 0) ≡ true) → length ds % 2 ≡ 0 → hex (unhex ds) ≡ ds
hex_unhex [] a e = refl
hex_unhex (d ∷ []) a e = absurd (omega arith)
hex_unhex (d ∷ (l ∷ ds)) a e =
    let h : byte_of d l / 16 ≡ digit_value d = omega (arith, value_small l) in
    let r : byte_of d l % 16 ≡ digit_value l = omega (arith, value_small l) in
    let first : digit_of (byte_of d l / 16) ≡ d = ap digit_of h ∙ digit_back d (a 0 (omega arith)) in
    let second : digit_of (byte_of d l % 16) ≡ l = ap digit_of r ∙ digit_back l (a 1 (omega arith)) in
    let more = hex_unhex ds (λ i lt. a (suc (suc i)) (omega arith)) (omega arith) in
    λ i. first i ∷ second i ∷ more i
