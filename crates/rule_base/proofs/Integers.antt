-- Division rounded down, and multiples of a number in a range: a multiple of k moves in steps of k. Assumes nothing.
use Rattle.std.proofs.Common.{◌≡◌, ℕ, zero, suc, ◌+◌, ◌/◌, ◌<◌, ◌≤◌, cond, ℤ, pos, negsuc, ◌+ℤ◌, ◌-ℤ◌, ◌*ℤ◌, neg_ℤ, ◌≤ℤ◌, ◌<ℤ◌, ap, mod-lt, mul-le-mul_left, mul-suc, mul-add, arith}
use native.Mathlib.Nat.{div-add-mod}
use borrow.Author.Differences.{up, down, ints}
use lib.Signed.{lt_z}
use Rattle.std.specs.Int.{int_div_euclid, int_rem_euclid}
use Rattle.std.proofs.lemmas.Int.{by_lt_z}
use Rattle.std.proofs.lemmas.Bool.{cond-false, le-ltb}

-- z is k times its quotient and the rest, and the rest is below k
pub quotient_rest : (k : ℕ) → 0 < k → (z : ℤ) → (z ≡ (pos k *ℤ int_div_euclid z (pos k)) +ℤ int_rem_euclid z (pos k)) × (pos 0 ≤ℤ int_rem_euclid z (pos k)) × (int_rem_euclid z (pos k) <ℤ pos k)
quotient_rest k h (pos a) = (omega (arith, ints, div-add-mod a k), omega (arith, ints), omega (arith, ints, mod-lt a h))
quotient_rest k h (negsuc a) = (omega (arith, ints, div-add-mod a k, mul-suc k (a / k), mod-lt a h), omega (arith, ints), omega (arith, ints, mod-lt a h))

pub times_mono : (k : ℕ) (x y : ℤ) → x ≤ℤ y → (pos k *ℤ x) ≤ℤ (pos k *ℤ y)
times_mono k x y h =
    let flat : up x + down y ≤ up y + down x = omega (arith, ints) in
    omega (arith, ints, mul-le-mul_left k flat, mul-add k (up x) (down y), mul-add k (up y) (down x))

-- a larger multiple is larger by k at least
pub times_step : (k : ℕ) (x y : ℤ) → x <ℤ y → ((pos k *ℤ x) +ℤ pos k) ≤ℤ (pos k *ℤ y)
times_step k x y h =
    let flat : suc (up x + down y) ≤ up y + down x = omega (arith, ints) in
    omega (arith, ints, mul-le-mul_left k flat, mul-suc k (up x + down y), mul-add k (up x) (down y), mul-add k (up y) (down x))

-- a multiple of k that is at most z has at most the quotient of z
pub floor_most : (k : ℕ) → 0 < k → (x z : ℤ) → (pos k *ℤ x) ≤ℤ z → x ≤ℤ int_div_euclid z (pos k)
floor_most k h x z m =
    let e = quotient_rest k h z in
    by_lt_z (int_div_euclid z (pos k)) x (λ below. let step = times_step k (int_div_euclid z (pos k)) x below in absurd (omega (arith, ints, e.0, e.2))) (λ le. le)

-- the greatest multiple of k up to z is z without its rest
pub multiple_most : (k : ℕ) → 0 < k → (x z : ℤ) → (pos k *ℤ x) ≤ℤ z → (pos k *ℤ x) ≤ℤ (z -ℤ int_rem_euclid z (pos k))
multiple_most k h x z m =
    let e = quotient_rest k h z in
    let up = times_mono k x (int_div_euclid z (pos k)) (floor_most k h x z m) in
    omega (arith, ints, e.0)

-- there is one rest
pub rest_one : (k : ℕ) → 0 < k → (z q r : ℤ) → z ≡ (pos k *ℤ q) +ℤ r → pos 0 ≤ℤ r → r <ℤ pos k → int_rem_euclid z (pos k) ≡ r
rest_one k h z q r e low high =
    let d = quotient_rest k h z in
    let most = floor_most k h q z (omega (arith, ints, e)) in
    by_lt_z q (int_div_euclid z (pos k)) (λ below. let step = times_step k q (int_div_euclid z (pos k)) below in absurd (omega (arith, ints, d.0, d.1, e))) (λ le.
    let same : int_div_euclid z (pos k) ≡ q = omega (arith, ints) in
    omega (arith, ints, d.0, e, ap (λ j. pos k *ℤ j) same))

pub times_neg : (m q : ℤ) → m *ℤ neg_ℤ q ≡ neg_ℤ (m *ℤ q)
times_neg m (pos zero) = omega (arith, ints)
times_neg m (pos (suc n)) = omega (arith, ints)
times_neg m (negsuc n) = omega (arith, ints)

-- a multiple of a number in a range is least and greatest at its ends, the other way round where the factor is below 0
pub least_at : (k low high v : ℤ) → low ≤ℤ v → v ≤ℤ high → (k *ℤ cond (lt_z k (pos 0)) high low) ≤ℤ (k *ℤ v)
least_at (pos a) low high v l u = rw (cond-false (lt_z (pos a) (pos 0)) high low (le-ltb a 0 (omega arith))) (times_mono a low v l)
least_at (negsuc a) low high v l u = omega (arith, ints, times_mono (suc a) v high u)

pub greatest_at : (k low high v : ℤ) → low ≤ℤ v → v ≤ℤ high → (k *ℤ v) ≤ℤ (k *ℤ cond (lt_z k (pos 0)) low high)
greatest_at (pos a) low high v l u = rw (cond-false (lt_z (pos a) (pos 0)) low high (le-ltb a 0 (omega arith))) (times_mono a v high u)
greatest_at (negsuc a) low high v l u = omega (arith, ints, times_mono (suc a) low v l)
