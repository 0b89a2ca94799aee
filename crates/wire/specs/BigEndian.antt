-- Both directions of big-endian numbers, by induction on the width: the first byte is the quotient, the rest the remainder. Assumes nothing.
use Rattle.std.specs.Prelude.{◌≡◌, ℕ, zero, suc, ◌+◌, ◌*◌, ◌/◌, ◌%◌, ◌^◌, ◌<◌, List, [], ◌∷◌, length, refl}
use Rattle.std.proofs.Common.{ap, ◌∙◌, pow-suc, arith}
use Rattle.std.specs.List.{All}
use Rattle.std.proofs.lemmas.List.Elements.{All-nil, All-cons, All-head, All-tail}
use Rattle.std.proofs.lemmas.Nat.{div-add-mod', div-mul-add, mod-mul-add, div_below, mod_below, mul-add-lt}
use Rattle.wire.specs.Bytes.{be, val}

pub pow_above : (w : ℕ) → 0 < 256 ^ w
pow_above zero = omega arith
pow_above (suc w) = rw pow-suc (omega (arith, pow_above w))

pub length_be : (w n : ℕ) → length (be w n) ≡ w
length_be zero n = refl
length_be (suc zero) n = refl
length_be (suc (suc w)) n = ap suc (length_be (suc w) (n % 256 ^ suc w))

pub small_be : (w n : ℕ) → n < 256 ^ w → All (λ b. b < 256) (be w n)
small_be zero n h = All-nil (λ b. b < 256)
small_be (suc zero) n h = All-cons (λ b. b < 256) n [] h (All-nil (λ b. b < 256))
small_be (suc (suc w)) n h = All-cons (λ b. b < 256) (n / 256 ^ suc w) (be (suc w) (n % 256 ^ suc w)) (div_below n (256 ^ suc w) 256 (pow_above (suc w)) (omega (arith, pow-suc 256 (suc w)))) (small_be (suc w) (n % 256 ^ suc w) (mod_below n (256 ^ suc w) (pow_above (suc w))))

val_cons : (b : ℕ) (bs : List ℕ) → 0 < length bs → val (b ∷ bs) ≡ b * 256 ^ length bs + val bs
val_cons b [] h = absurd (omega arith)
val_cons b (c ∷ bs) h = refl

-- reading what was written
pub val_be : (w n : ℕ) → n < 256 ^ suc w → val (be (suc w) n) ≡ n
val_be zero n h = refl
val_be (suc w) n h =
    let rest = be (suc w) (n % 256 ^ suc w) in
    let long : length rest ≡ suc w = length_be (suc w) (n % 256 ^ suc w) in
    val_cons (n / 256 ^ suc w) rest (omega arith) ∙ ap (λ k. n / 256 ^ suc w * 256 ^ k + val rest) long ∙ ap (λ v. n / 256 ^ suc w * 256 ^ suc w + v) (val_be w (n % 256 ^ suc w) (mod_below n (256 ^ suc w) (pow_above (suc w)))) ∙ div-add-mod' n (256 ^ suc w)

pub val_below : (bs : List ℕ) → All (λ b. b < 256) bs → val bs < 256 ^ length bs
val_below [] a = omega arith
val_below (b ∷ []) a = All-head (λ b. b < 256) b [] a
val_below (b ∷ (c ∷ bs)) a =
    let first = All-head (λ b. b < 256) b (c ∷ bs) a in
    let more = val_below (c ∷ bs) (All-tail (λ b. b < 256) b (c ∷ bs) a) in
    omega (arith, mul-add-lt b (256 ^ length (c ∷ bs)) (val (c ∷ bs)) 256 first more, pow-suc 256 (length (c ∷ bs)))

-- writing what was read
pub be_val : (bs : List ℕ) → All (λ b. b < 256) bs → be (length bs) (val bs) ≡ bs
be_val [] a = refl
be_val (b ∷ []) a = refl
be_val (b ∷ (c ∷ bs)) a =
    let rest = All-tail (λ b. b < 256) b (c ∷ bs) a in
    let more = val_below (c ∷ bs) rest in
    let first = div-mul-add b (256 ^ length (c ∷ bs)) (val (c ∷ bs)) more in
    let left = mod-mul-add b (256 ^ length (c ∷ bs)) (val (c ∷ bs)) more in
    λ i. first i ∷ (ap (be (length (c ∷ bs))) left ∙ be_val (c ∷ bs) rest) i
