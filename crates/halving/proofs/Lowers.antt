-- Half of at most 2 ^ (b + 1) values is at most 2 ^ b, so a halved direction needs one bit less; sums over the list follow. Assumes nothing.
use Rattle.std.proofs.Common.{◌≡◌, ℕ, zero, suc, ◌+◌, ◌-◌, ◌*◌, ◌^◌, ◌<◌, ◌≤◌, Bool, leb, List, [], ◌∷◌, length, get_or, sym, subst, ⊎_elim, le_trans, le_antisymm, pow-suc, arith, pow_mono}
use lib.Count.{count_leading_zeros, leading_length}
use Rattle.std.proofs.lemmas.List.Elements.{All-from_get_or}
use Rattle.std.proofs.lemmas.List.Sums.{sum_by-cons, sum_by-le}
use Rattle.std.proofs.lemmas.Bool.{both_ways, leb-true, le-leb, cases_lt}
use Rattle.halving.specs.First.{first_below}
use Rattle.halving.specs.Halvings.{bits_for, LeastPower, halvings_of, Narrower, HalvedAt, HalvingLowers}
use Rattle.halving.proofs.First.{first_is}

below_pow : (n : ℕ) → n < 2 ^ n
below_pow zero = omega arith
below_pow (suc n) = omega (arith, below_pow n, pow-suc 2 n)

-- the definition of the bits finds what it says
pub bits_least : (m : ℕ) → LeastPower m (bits_for m)
unfolding bits_for
bits_least m =
    let t : ℕ → Bool = λ b. leb m (2 ^ b) in
    let f = first_is t m in
    let b : ℕ = first_below t m in (
      ⊎_elim (λ (h : b < m). leb-true m (2 ^ b) (f.passes (omega arith))) (λ (h : m ≤ b). le_trans (omega (arith, below_pow m)) (pow_mono h)) (cases_lt b m),
      λ a h. ⊎_elim (λ (l : a < b). absurd (both_ways (t a) (f.none_before a l) (le-leb m (2 ^ a) h))) (λ (l : b ≤ a). l) (cases_lt a b),
    )

pub bits_unique : (m b : ℕ) → LeastPower m b → b ≡ bits_for m
bits_unique m b h = le_antisymm (h.1 (bits_for m) (bits_least m).0) ((bits_least m).1 b h.0)

-- the binary digits of a width are the bits for its number of values
pub digits_least : (w : ℕ) → w < 2 ^ 32 → LeastPower (w + 1) (32 - count_leading_zeros 32 w)
digits_least w h =
    let s = leading_length 32 w h in
    let e : 32 - count_leading_zeros 32 w ≡ s.0 = omega (arith, s.1) in
    subst (LeastPower (w + 1)) (sym e) (omega (arith, s.2), λ a g. ⊎_elim (λ (l : a < s.0). absurd (omega (arith, s.3, pow-suc 2 a, pow_mono {i = suc a} {j = s.0} l))) (λ l. l) (cases_lt a s.0))

-- fewer values want no more bits
pub bits_mono : (m n : ℕ) → m ≤ n → bits_for m ≤ bits_for n
bits_mono m n h = (bits_least m).1 (bits_for n) (le_trans h (bits_least n).0)

-- the sum of eight counts of at most 32 bits
pub halvings_fit : (ws : List ℕ) → length ws ≡ 8 → ((k : ℕ) → get_or ws k 0 < 2 ^ 32) → halvings_of ws < 2 ^ 32
halvings_fit ws l h =
    let f : ℕ → ℕ = λ w. bits_for (w + 1) in
    let most = sum_by-le f 32 ws (All-from_get_or (λ w. f w ≤ 32) ws 0 (λ k _. (bits_least (get_or ws k 0 + 1)).1 32 (omega (arith, h k)))) in
    omega arith

-- at least two values, halved, want fewer
pub bits_half : (v w : ℕ) → 0 < w → 2 * v ≤ w → bits_for (v + 1) < bits_for (w + 1)
bits_half v w some h = by (bits_for (w + 1)) (bits_least (w + 1)).0
  where
    by : (b : ℕ) → w + 1 ≤ 2 ^ b → bits_for (v + 1) < b
    by zero le = absurd (omega arith)
    by (suc b) le = let k = (bits_least (v + 1)).1 b (omega (arith, pow-suc 2 b)) in omega arith

abbrev bits_at : ℕ → ℕ
bits_at w = bits_for (w + 1)

halvings_le : (vs ws : List ℕ) → Narrower vs ws → halvings_of vs ≤ halvings_of ws
halvings_le [] [] h = omega arith
halvings_le [] (w ∷ ws) h = absurd (omega (arith, h.0))
halvings_le (v ∷ vs) [] h = absurd (omega (arith, h.0))
halvings_le (v ∷ vs) (w ∷ ws) h = let ih = halvings_le vs ws (omega (arith, h.0), λ k. h.1 (suc k)) in omega (arith, ih, bits_mono (v + 1) (w + 1) (omega (arith, h.1 0)), sum_by-cons bits_at v vs, sum_by-cons bits_at w ws)

halvings_lt : (vs ws : List ℕ) → Narrower vs ws → (k : ℕ) → HalvedAt vs ws k → halvings_of vs < halvings_of ws
halvings_lt [] [] h k a = absurd (omega (arith, a.0))
halvings_lt [] (w ∷ ws) h k a = absurd (omega (arith, h.0))
halvings_lt (v ∷ vs) [] h k a = absurd (omega (arith, h.0))
halvings_lt (v ∷ vs) (w ∷ ws) h zero a = let le = halvings_le vs ws (omega (arith, h.0), λ k. h.1 (suc k)) in omega (arith, le, bits_half v w a.1 a.2, sum_by-cons bits_at v vs, sum_by-cons bits_at w ws)
halvings_lt (v ∷ vs) (w ∷ ws) h (suc k) a = let ih = halvings_lt vs ws (omega (arith, h.0), λ k. h.1 (suc k)) k (omega (arith, a.0), a.1, a.2) in omega (arith, ih, bits_mono (v + 1) (w + 1) (omega (arith, h.1 0)), sum_by-cons bits_at v vs, sum_by-cons bits_at w ws)

pub halving_lowers : HalvingLowers
halving_lowers vs ws h = (halvings_le vs ws h, halvings_lt vs ws h)

-- some range is halved as long as one has two values
pub halvings_some : (ws : List ℕ) (k : ℕ) → k < length ws → 0 < get_or ws k 0 → 1 ≤ halvings_of ws
halvings_some [] k h p = absurd (omega arith)
halvings_some (w ∷ ws) zero h p = omega (arith, bits_half 0 w p (omega arith), sum_by-cons bits_at w ws)
halvings_some (w ∷ ws) (suc k) h p = let ih = halvings_some ws k (omega arith) p in omega (arith, ih, sum_by-cons bits_at w ws)
