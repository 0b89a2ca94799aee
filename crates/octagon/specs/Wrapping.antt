-- Sums that stay far below 32 bits do not wrap, so a cut on bounded entries is the least of the five ways, rounded and joined.
use Rattle.std.specs.Prelude.{◌≡◌, ℕ, ◌<◌, List, ℤ, pos, negsuc, ◌+ℤ◌, neg_ℤ, ◌≤ℤ◌, FitsSigned}
use Rattle.std.proofs.Math.Path.{ap, ap₂}
use Rattle.std.proofs.Common.{◌∙◌, arith}
use borrow.Author.Differences.{ints}
use Rattle.std.specs.Int.{int_min, int_wrap, w32}
use Rattle.std.proofs.lemmas.Int.{clamps, int_wrap_fits}
use Rattle.interface.specs.Numbers.{half}
use Rattle.octagon_theory.specs.Matrices.{shortest, rounded}
use Rattle.octagon_theory.proofs.Halves.{half_is}
use Rattle.octagon.specs.Entries.{plus, at, way, over_cut, crossed, lowered_entry}

-- z lies from -b to b
abbrev pub Small : ℕ → ℤ → Type 0
Small b z = (neg_ℤ (pos b) ≤ℤ z) × (z ≤ℤ pos b)

fits_small : (z : ℤ) → Small 1000000000 z → FitsSigned w32 z
fits_small (pos n) h = record { sfits = let k = h.1 in omega (arith, ints) }
fits_small (negsuc n) h = record { sfits = let k = h.0 in omega (arith, ints) }

pub wrapped_small : (z : ℤ) → Small 1000000000 z → int_wrap w32 z ≡ z
wrapped_small z h = int_wrap_fits w32 z (fits_small z h)

pub plus_small : (a b : ℤ) → Small 1000000000 (a +ℤ b) → plus a b ≡ a +ℤ b
unfolding plus
plus_small a b h = wrapped_small (a +ℤ b) h

min_plus : (a b c : ℤ) → (int_min a b +ℤ c) ≡ int_min (a +ℤ c) (b +ℤ c)
min_plus a b c = omega (arith, ints, clamps)

min_regroup : (a b c d : ℤ) → int_min (int_min a b) (int_min c d) ≡ int_min (int_min a c) (int_min d b)
min_regroup a b c d = omega (arith, ints, clamps)

module _ (l : List ℤ) (L : ℕ → ℕ → ℤ) (same : (p q : ℕ) → p < 16 → q < 16 → at l p q ≡ L p q) (small : (p q : ℕ) → Small 2000000 (L p q)) (symmetric : (p q : ℕ) → L p q ≡ L q p) (c : ℤ) (bound : Small 2000000 c) where
  -- the shorter way over the cut that starts at a
  first_way : ℕ → ℕ → ℕ → ℤ
  first_way a b i = L i a +ℤ c

  second_way : ℕ → ℕ → ℕ → ℤ
  second_way a b i = ((L i b +ℤ c) +ℤ L a a) +ℤ c

  way_is : (a b i : ℕ) → a < 16 → b < 16 → i < 16 → way l a b c i ≡ int_min (first_way a b i) (second_way a b i)
  unfolding first_way second_way
  way_is a b i ha hb hi =
      let e₁ : at l a i ≡ L i a = same a i ha hi ∙ symmetric a i in
      let e₂ : at l b i ≡ L i b = same b i hb hi ∙ symmetric b i in
      let s₁ = small i a in
      let s₂ = small i b in
      let s₃ = small a a in
      let p₁ : plus (at l a i) c ≡ (L i a +ℤ c) = ap (λ z. plus z c) e₁ ∙ plus_small (L i a) c (omega (arith, ints), omega (arith, ints)) in
      let p₂ : plus (at l b i) c ≡ (L i b +ℤ c) = ap (λ z. plus z c) e₂ ∙ plus_small (L i b) c (omega (arith, ints), omega (arith, ints)) in
      let p₃ : plus (at l a a) c ≡ (L a a +ℤ c) = ap (λ z. plus z c) (same a a ha ha) ∙ plus_small (L a a) c (omega (arith, ints), omega (arith, ints)) in
      let p₄ : plus (plus (at l b i) c) (plus (at l a a) c) ≡ (((L i b +ℤ c) +ℤ L a a) +ℤ c) = ap₂ plus p₂ p₃ ∙ plus_small (L i b +ℤ c) (L a a +ℤ c) (omega (arith, ints), omega (arith, ints)) ∙ (let z : ((L i b +ℤ c) +ℤ (L a a +ℤ c)) ≡ (((L i b +ℤ c) +ℤ L a a) +ℤ c) = omega (arith, ints) in z) in
      ap₂ int_min p₁ p₄

  way_small : (a b i : ℕ) → a < 16 → b < 16 → i < 16 → Small 8000000 (way l a b c i)
  unfolding first_way second_way
  way_small a b i ha hb hi =
      let e = way_is a b i ha hb hi in
      let s₁ = small i a in
      let s₂ = small i b in
      let s₃ = small a a in
      (omega (arith, ints, clamps), omega (arith, ints, clamps))

  -- from i by way of a's side to b and on to j
  side_is : (a b i j : ℕ) → a < 16 → b < 16 → i < 16 → j < 16 → plus (way l a b c i) (at l b j) ≡ int_min (first_way a b i +ℤ L b j) (second_way a b i +ℤ L b j)
  side_is a b i j ha hb hi hj =
      let s = way_small a b i ha hb hi in
      let t = small b j in
      ap (plus (way l a b c i)) (same b j hb hj) ∙ plus_small (way l a b c i) (L b j) (omega (arith, ints), omega (arith, ints)) ∙ ap (λ z. z +ℤ L b j) (way_is a b i ha hb hi) ∙ min_plus (first_way a b i) (second_way a b i) (L b j)

  pub crossed_is : (a b i j : ℕ) → a < 16 → b < 16 → i < 16 → j < 16 → crossed l a b c i j ≡ shortest L a b c i j
  unfolding over_cut shortest first_way second_way
  crossed_is a b i j ha hb hi hj = ap₂ int_min (same i j hi hj) (ap₂ int_min (side_is a b i j ha hb hi hj) (side_is b a i j hb ha hi hj) ∙ min_regroup (first_way a b i +ℤ L b j) (second_way a b i +ℤ L b j) (first_way b a i +ℤ L a j) (second_way b a i +ℤ L a j))

  crossed_small : (a b i j : ℕ) → a < 16 → b < 16 → i < 16 → j < 16 → Small 10000000 (crossed l a b c i j)
  unfolding over_cut
  crossed_small a b i j ha hb hi hj =
      let e = same i j hi hj in
      let s = small i j in
      let x = way_small a b i ha hb hi in
      let y = way_small b a i hb ha hi in
      let t = small b j in
      let u = small a j in
      let p : plus (way l a b c i) (at l b j) ≡ (way l a b c i +ℤ L b j) = ap (plus (way l a b c i)) (same b j hb hj) ∙ plus_small (way l a b c i) (L b j) (omega (arith, ints), omega (arith, ints)) in
      let q : plus (way l b a c i) (at l a j) ≡ (way l b a c i +ℤ L a j) = ap (plus (way l b a c i)) (same a j ha hj) ∙ plus_small (way l b a c i) (L a j) (omega (arith, ints), omega (arith, ints)) in
      bounds (at l i j) (plus (way l a b c i) (at l b j)) (plus (way l b a c i) (at l a j)) (omega (arith, ints), omega (arith, ints)) (omega (arith, ints), omega (arith, ints)) (omega (arith, ints), omega (arith, ints))
    where
      bounds : (x y z : ℤ) → Small 10000000 x → Small 10000000 y → Small 10000000 z → Small 10000000 (int_min x (int_min y z))
      bounds x y z f g h = (omega (arith, ints, clamps), omega (arith, ints, clamps))

  -- the entry that a cut leaves is the rounded and joined least of the five ways
  pub lowered_is : (a b i j : ℕ) → a < 16 → b < 16 → i < 16 → j < 16 → lowered_entry l a b c i j ≡ rounded (shortest L a b c) i j
  unfolding lowered_entry
  lowered_is a b i j ha hb hi hj =
      let s = crossed_small a b i i ha hb hi hi in
      let t = crossed_small a b j j ha hb hj hj in
      ap₂ int_min (crossed_is a b i j ha hb hi hj) (halves (crossed l a b c i i) (crossed l a b c j j) s t ∙ ap₂ (λ x y. half x +ℤ half y) (crossed_is a b i i ha hb hi hi) (crossed_is a b j j ha hb hj hj))
    where
      halves : (x y : ℤ) → Small 10000000 x → Small 10000000 y → plus (half x) (half y) ≡ (half x +ℤ half y)
      halves x y f g = plus_small (half x) (half y) (omega (arith, ints, half_is), omega (arith, ints, half_is))
