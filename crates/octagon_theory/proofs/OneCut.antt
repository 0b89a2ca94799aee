-- One cut on a tight matrix: an entry becomes the least of five ways, none, one or two steps over the cut. The 25 pairs of ways give the triangle; rounding and joining then make the matrix tight again.
use Rattle.std.proofs.Common.{◌≡◌, Bool, true, false, cond, ◌⊎◌, ℤ, pos, ◌+ℤ◌, ◌≤ℤ◌, refl, ap, inl, inr, arith}
use lib.Signed.{lt_z}
use Rattle.std.specs.Int.{int_min}
use Rattle.std.proofs.lemmas.Int.{clamps}
use Rattle.interface.specs.Numbers.{half}
use borrow.Author.Differences.{ints}
use Rattle.octagon_theory.proofs.Tight.{Closed, Tight}
use Rattle.octagon_theory.proofs.Halves.{half_is}
use Rattle.octagon_theory.specs.Matrices.{rounded, shortest}
use Rattle.octagon_theory.proofs.Rounding.{rounded_tight}

-- the ways from i to j: past the cut, once over it in either direction, twice over it in either order
pub data Way : Type 0 where
  past there back there_back back-there : Way

-- a and b are the opposites of the cut's nodes
abbrev pub length_of : {N : Type 0} → (N → N → ℤ) → N → N → ℤ → Way → N → N → ℤ
length_of L a b c past i j = L i j
length_of L a b c there i j = (L i a +ℤ c) +ℤ L b j
length_of L a b c back i j = (L i b +ℤ c) +ℤ L a j
length_of L a b c there_back i j = (((L i a +ℤ c) +ℤ L b b) +ℤ c) +ℤ L a j
length_of L a b c back-there i j = (((L i b +ℤ c) +ℤ L a a) +ℤ c) +ℤ L b j

pick : (P : ℤ → Type 0) (t : Bool) (x y : ℤ) → P x → P y → P (cond t y x)
pick P true x y h k = k
pick P false x y h k = h

-- what holds of both holds of the smaller
pub by_min : (P : ℤ → Type 0) (x y : ℤ) → P x → P y → P (int_min x y)
by_min P x y h k = pick P (lt_z y x) x y h k

least_of_five : (t u v w x : ℤ) → let m = int_min t (int_min (int_min u v) (int_min w x)) in (m ≤ℤ t) × (m ≤ℤ u) × (m ≤ℤ v) × (m ≤ℤ w) × (m ≤ℤ x)
least_of_five t u v w x = (omega (arith, ints, clamps), omega (arith, ints, clamps), omega (arith, ints, clamps), omega (arith, ints, clamps), omega (arith, ints, clamps))

module _ {N : Type 0} (L : N → N → ℤ) (a b : N) (c : ℤ) where
  five : (i j : N) → let m = shortest L a b c i j in (m ≤ℤ length_of L a b c past i j) × (m ≤ℤ length_of L a b c there i j) × (m ≤ℤ length_of L a b c back i j) × (m ≤ℤ length_of L a b c there_back i j) × (m ≤ℤ length_of L a b c back-there i j)
  unfolding shortest
  five i j = least_of_five _ _ _ _ _

  -- the shortest is no longer than each way
  pub at_most : (w : Way) (i j : N) → shortest L a b c i j ≤ℤ length_of L a b c w i j
  at_most past i j = (five i j).0
  at_most there i j = (five i j).1
  at_most back i j = (five i j).2
  at_most there_back i j = (five i j).3
  at_most back-there i j = (five i j).4

  -- what holds of each way's length holds of the shortest's
  pub by_way : (P : ℤ → Type 0) (i j : N) → ((w : Way) → P (length_of L a b c w i j)) → P (shortest L a b c i j)
  unfolding shortest
  by_way P i j h = by_min P _ _ (h past) (by_min P _ _ (by_min P _ _ (h there) (h back)) (by_min P _ _ (h there_back) (h back-there)))

-- two opposite entries of the diagonal that go once over the cut: an odd one is below the even way twice over it
both_odd : (d d' x y x' y' bb h c ab : ℤ) → d ≡ ((x +ℤ c) +ℤ y) → d' ≡ ((x' +ℤ c) +ℤ y') → bb ≡ (h +ℤ h) → pos 0 ≤ℤ (c +ℤ ab) → ab ≤ℤ (x' +ℤ y) → ab ≤ℤ (x +ℤ y') → bb ≤ℤ (y +ℤ y') → d ≤ℤ ((((x +ℤ c) +ℤ bb) +ℤ c) +ℤ x) → pos 0 ≤ℤ (half d +ℤ half d')
both_odd d d' x y x' y' bb h c ab e₁ e₂ e₃ h₁ h₂ h₃ h₄ h₅ = omega (arith, ints, half_is)

module _ {N : Type 0} (opp : N → N) (twice : (p : N) → opp (opp p) ≡ p) (L : N → N → ℤ) (T : Tight opp L) (a b : N) (c : ℤ) (meets : pos 0 ≤ℤ (c +ℤ L a b)) where
  C : Closed opp L
  C = T.closed

  D : N → N → ℤ
  D = shortest L a b c

  len : Way → N → N → ℤ
  len = length_of L a b c

  both_meet : pos 0 ≤ℤ ((c +ℤ c) +ℤ (L a a +ℤ L b b))
  both_meet = let e = T.even a in let f = T.even b in let j = T.joined a b in omega (arith, ints)

  ab : L a b ≡ L b a
  ab = C.symmetric a b

  -- two ways that meet at r are together no shorter than some way
  meeting : (v w : Way) (i j r : N) → D i j ≤ℤ (len v i r +ℤ len w (opp r) j)
  unfolding D len
  meeting past past i j r = let t = C.triangle i j r in let m = at_most L a b c past i j in omega (arith, ints)
  meeting past there i j r = let t = C.triangle i a r in let m = at_most L a b c there i j in omega (arith, ints, meets, both_meet, ab)
  meeting past back i j r = let t = C.triangle i b r in let m = at_most L a b c back i j in omega (arith, ints, meets, both_meet, ab)
  meeting past there_back i j r = let t = C.triangle i a r in let m = at_most L a b c there_back i j in omega (arith, ints, meets, both_meet, ab)
  meeting past back-there i j r = let t = C.triangle i b r in let m = at_most L a b c back-there i j in omega (arith, ints, meets, both_meet, ab)
  meeting there past i j r = let t = C.triangle b j r in let m = at_most L a b c there i j in omega (arith, ints, meets, both_meet, ab)
  meeting there there i j r = let t = C.triangle b a r in let m = at_most L a b c there i j in omega (arith, ints, meets, both_meet, ab)
  meeting there back i j r = let t = C.triangle b b r in let m = at_most L a b c there_back i j in omega (arith, ints, meets, both_meet, ab)
  meeting there there_back i j r = let t = C.triangle b a r in let m = at_most L a b c there_back i j in omega (arith, ints, meets, both_meet, ab)
  meeting there back-there i j r = let t = C.triangle b b r in let m = at_most L a b c there i j in omega (arith, ints, meets, both_meet, ab)
  meeting back past i j r = let t = C.triangle a j r in let m = at_most L a b c back i j in omega (arith, ints, meets, both_meet, ab)
  meeting back there i j r = let t = C.triangle a a r in let m = at_most L a b c back-there i j in omega (arith, ints, meets, both_meet, ab)
  meeting back back i j r = let t = C.triangle a b r in let m = at_most L a b c back i j in omega (arith, ints, meets, both_meet, ab)
  meeting back there_back i j r = let t = C.triangle a a r in let m = at_most L a b c back i j in omega (arith, ints, meets, both_meet, ab)
  meeting back back-there i j r = let t = C.triangle a b r in let m = at_most L a b c back-there i j in omega (arith, ints, meets, both_meet, ab)
  meeting there_back past i j r = let t = C.triangle a j r in let m = at_most L a b c there_back i j in omega (arith, ints, meets, both_meet, ab)
  meeting there_back there i j r = let t = C.triangle a a r in let m = at_most L a b c there i j in omega (arith, ints, meets, both_meet, ab)
  meeting there_back back i j r = let t = C.triangle a b r in let m = at_most L a b c there_back i j in omega (arith, ints, meets, both_meet, ab)
  meeting there_back there_back i j r = let t = C.triangle a a r in let m = at_most L a b c there_back i j in omega (arith, ints, meets, both_meet, ab)
  meeting there_back back-there i j r = let t = C.triangle a b r in let m = at_most L a b c there i j in omega (arith, ints, meets, both_meet, ab)
  meeting back-there past i j r = let t = C.triangle b j r in let m = at_most L a b c back-there i j in omega (arith, ints, meets, both_meet, ab)
  meeting back-there there i j r = let t = C.triangle b a r in let m = at_most L a b c back-there i j in omega (arith, ints, meets, both_meet, ab)
  meeting back-there back i j r = let t = C.triangle b b r in let m = at_most L a b c back i j in omega (arith, ints, meets, both_meet, ab)
  meeting back-there there_back i j r = let t = C.triangle b a r in let m = at_most L a b c back i j in omega (arith, ints, meets, both_meet, ab)
  meeting back-there back-there i j r = let t = C.triangle b b r in let m = at_most L a b c back-there i j in omega (arith, ints, meets, both_meet, ab)

  mirrored : (w : Way) (i j : N) → D j i ≤ℤ len w i j
  unfolding D len
  mirrored past i j = let m = at_most L a b c past j i in let s = C.symmetric i j in omega (arith, ints)
  mirrored there i j = let m = at_most L a b c back j i in let s = C.symmetric i a in let t = C.symmetric b j in omega (arith, ints)
  mirrored back i j = let m = at_most L a b c there j i in let s = C.symmetric i b in let t = C.symmetric a j in omega (arith, ints)
  mirrored there_back i j = let m = at_most L a b c there_back j i in let s = C.symmetric i a in let t = C.symmetric a j in omega (arith, ints)
  mirrored back-there i j = let m = at_most L a b c back-there j i in let s = C.symmetric i b in let t = C.symmetric b j in omega (arith, ints)

  no_shorter : (i j : N) → D j i ≤ℤ D i j
  unfolding D len
  no_shorter i j = by_way L a b c (λ z. D j i ≤ℤ z) i j (λ w. mirrored w i j)

  -- no way leads to the opposite node below 0
  home_again : (w : Way) (i : N) → pos 0 ≤ℤ len w i (opp i)
  unfolding len
  home_again past i = let o = C.opposite i in omega (arith, ints)
  home_again there i = let t = C.triangle b a (opp i) in let e = ap (λ x. L x a) (twice i) in let s = C.symmetric b a in omega (arith, ints, meets)
  home_again back i = let t = C.triangle a b (opp i) in let e = ap (λ x. L x b) (twice i) in omega (arith, ints, meets)
  home_again there_back i = let t = C.triangle a a (opp i) in let e = ap (λ x. L x a) (twice i) in omega (arith, ints, both_meet)
  home_again back-there i = let t = C.triangle b b (opp i) in let e = ap (λ x. L x b) (twice i) in omega (arith, ints, both_meet)

  pub shortest_closed : Closed opp (shortest L a b c)
  unfolding D len
  shortest_closed = record {
    symmetric = λ i j. let m = no_shorter i j in let k = no_shorter j i in omega (arith, ints);
    opposite = λ i. let m = at_most L a b c past i (opp i) in let o = C.opposite i in let k = by_way L a b c (λ z. pos 0 ≤ℤ z) i (opp i) (λ w. home_again w i) in omega (arith, ints);
    triangle = λ i j r. by_way L a b c (λ z. D i j ≤ℤ (z +ℤ D (opp r) j)) i r (λ v. by_way L a b c (λ z. D i j ≤ℤ (len v i r +ℤ z)) (opp r) j (λ w. meeting v w i j r));
  }

  -- an entry of the diagonal is even, or it is the way once over the cut
  even_or_once : (i : N) → (D i i ≡ (half (D i i) +ℤ half (D i i))) ⊎ (D i i ≡ len there i i)
  unfolding D len
  even_or_once i = by_way L a b c (λ z. (z ≡ (half z +ℤ half z)) ⊎ (z ≡ len there i i)) i i
      (elim [
        | past ↦ inl (T.even i)
        | there ↦ inr refl
        | back ↦ inr (let s = C.symmetric i a in let t = C.symmetric i b in omega (arith, ints))
        | there_back ↦ inl (let s = C.symmetric i a in let e = T.even b in omega (arith, ints, half_is))
        | back-there ↦ inl (let s = C.symmetric i b in let e = T.even a in omega (arith, ints, half_is))
      ])

  around : (i : N) → pos 0 ≤ℤ (D i i +ℤ D (opp i) (opp i))
  unfolding D
  around i = let t = shortest_closed.triangle i (opp i) i in let o = shortest_closed.opposite i in omega (arith, ints)

  apart_by : (i : N) → (D i i ≡ (half (D i i) +ℤ half (D i i))) ⊎ (D i i ≡ len there i i) → (D (opp i) (opp i) ≡ (half (D (opp i) (opp i)) +ℤ half (D (opp i) (opp i)))) ⊎ (D (opp i) (opp i) ≡ len there (opp i) (opp i)) → pos 0 ≤ℤ (half (D i i) +ℤ half (D (opp i) (opp i)))
  unfolding D len
  apart_by i (inl h) k = let s = around i in omega (arith, ints, half_is)
  apart_by i (inr h) (inl k) = let s = around i in omega (arith, ints, half_is)
  apart_by i (inr h) (inr k) =
      let u : L a b ≤ℤ (L (opp i) a +ℤ L b i) = let t = C.triangle a b (opp i) in let e = ap (λ x. L x b) (twice i) in let f = C.symmetric a (opp i) in let g = C.symmetric i b in omega (arith, ints) in
      let w : L a b ≤ℤ (L i a +ℤ L b (opp i)) = let t = C.triangle a b i in let f = C.symmetric a i in let g = C.symmetric (opp i) b in omega (arith, ints) in
      let t : L b b ≤ℤ (L b i +ℤ L b (opp i)) = let t = C.triangle b b i in let g = C.symmetric (opp i) b in omega (arith, ints) in
      let m : D i i ≤ℤ ((((L i a +ℤ c) +ℤ L b b) +ℤ c) +ℤ L i a) = let m = at_most L a b c there_back i i in let e = C.symmetric a i in omega (arith, ints) in
      both_odd (D i i) (D (opp i) (opp i)) (L i a) (L b i) (L (opp i) a) (L b (opp i)) (L b b) (half (L b b)) c (L a b) h k (T.even b) meets u w t m

  -- the rounded diagonal is not contradictory
  apart : (i : N) → pos 0 ≤ℤ (half (D i i) +ℤ half (D (opp i) (opp i)))
  apart i = apart_by i (even_or_once i) (even_or_once (opp i))

  pub cut_tight : Tight opp (rounded (shortest L a b c))
  unfolding D
  cut_tight = rounded_tight opp twice (shortest L a b c) shortest_closed apart
