-- The points of a matrix. Rounding and joining keeps them; a cut keeps those that meet it.
use Rattle.std.proofs.Common.{◌≡◌, ℤ, ◌+ℤ◌, neg_ℤ, ◌≤ℤ◌, arith}
use Rattle.std.proofs.lemmas.Int.{clamps}
use borrow.Author.Differences.{ints}
use Rattle.octagon_theory.proofs.Tight.{Closed, Under}
use Rattle.octagon_theory.proofs.Halves.{half_is}
use Rattle.octagon_theory.specs.Matrices.{rounded, shortest}
use Rattle.octagon_theory.proofs.OneCut.{Way, past, there, back, there_back, back-there, length_of, at_most, by_way}

module _ {N : Type 0} (opp : N → N) (v : N → ℤ) (odd : (p : N) → v (opp p) ≡ neg_ℤ (v p)) where
  pub under_rounded : (D : N → N → ℤ) → Under D v → Under (rounded D) v
  under_rounded D h p q = let a = h p q in let b = h p p in let d = h q q in omega (arith, ints, clamps, half_is)

  pub under_unrounded : (D : N → N → ℤ) → Under (rounded D) v → Under D v
  under_unrounded D h p q = let a = h p q in omega (arith, ints, clamps)

  module _ (L : N → N → ℤ) (p q : N) (c : ℤ) where
    way_over : Under L v → (v p +ℤ v q) ≤ℤ c → (w : Way) (i j : N) → (v i +ℤ v j) ≤ℤ length_of L (opp p) (opp q) c w i j
    way_over h m past i j = h i j
    way_over h m there i j = let e = h i (opp p) in let f = h (opp q) j in omega (arith, ints, odd p, odd q)
    way_over h m back i j = let e = h i (opp q) in let f = h (opp p) j in omega (arith, ints, odd p, odd q)
    way_over h m there_back i j = let e = h i (opp p) in let f = h (opp q) (opp q) in let g = h (opp p) j in omega (arith, ints, odd p, odd q)
    way_over h m back-there i j = let e = h i (opp q) in let f = h (opp p) (opp p) in let g = h (opp q) j in omega (arith, ints, odd p, odd q)

    pub under_cut : Under L v → (v p +ℤ v q) ≤ℤ c → Under (rounded (shortest L (opp p) (opp q) c)) v
    under_cut h m = under_rounded (shortest L (opp p) (opp q) c) (λ i j. by_way L (opp p) (opp q) c (λ z. (v i +ℤ v j) ≤ℤ z) i j (λ w. way_over h m w i j))

    pub under_uncut : Under (rounded (shortest L (opp p) (opp q) c)) v → Under L v
    under_uncut h i j = let e = under_unrounded (shortest L (opp p) (opp q) c) h i j in let f = at_most L (opp p) (opp q) c past i j in omega (arith, ints)

    pub meets_from_cut : Closed opp L → Under (rounded (shortest L (opp p) (opp q) c)) v → (v p +ℤ v q) ≤ℤ c
    meets_from_cut C h =
        let e = under_unrounded (shortest L (opp p) (opp q) c) h p q in
        let f = at_most L (opp p) (opp q) c there p q in
        let o = C.opposite p in
        let k = C.opposite q in
        let s = C.symmetric q (opp q) in
        omega (arith, ints)
