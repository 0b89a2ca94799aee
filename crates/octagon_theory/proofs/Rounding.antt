-- Round and join: a closed matrix whose rounded diagonal is not contradictory becomes tight by taking, at each entry, the smaller of it and the sum of the two rounded halves.
use Rattle.std.proofs.Common.{◌≡◌, ℤ, pos, ◌+ℤ◌, ◌≤ℤ◌, ap, ◌∙◌, subst, arith}
use Rattle.std.proofs.lemmas.Int.{clamps}
use Rattle.interface.specs.Numbers.{half}
use borrow.Author.Differences.{ints}
use Rattle.octagon_theory.proofs.Tight.{Closed, Tight}
use Rattle.octagon_theory.specs.Matrices.{rounded}
use Rattle.octagon_theory.proofs.Halves.{half_is}

module _ {N : Type 0} (opp : N → N) (twice : (p : N) → opp (opp p) ≡ p) (D : N → N → ℤ) (C : Closed opp D) (apart : (p : N) → pos 0 ≤ℤ (half (D p p) +ℤ half (D (opp p) (opp p)))) where
  rounded_diagonal : (p : N) → rounded D p p ≡ (half (D p p) +ℤ half (D p p))
  rounded_diagonal p = omega (arith, ints, clamps, half_is)

  half_diagonal : (p : N) → half (rounded D p p) ≡ half (D p p)
  half_diagonal p = omega (arith, ints, half_is, rounded_diagonal p)

  -- half the diagonal is at most an entry and half the diagonal over there
  over : (p r : N) → half (D p p) ≤ℤ (D p r +ℤ half (D (opp r) (opp r)))
  over p r =
      let t = C.triangle p p r in
      let u = C.triangle (opp r) p (opp r) in
      let s = C.symmetric (opp r) p in
      let e : D (opp (opp r)) p ≡ D p r = ap (λ x. D x p) (twice r) ∙ C.symmetric r p in
      omega (arith, ints, half_is)

  pub rounded_closed : Closed opp (rounded D)
  rounded_closed = record {
    symmetric = λ p q. let s = C.symmetric p q in omega (arith, ints, clamps);
    opposite = λ p. let s = C.opposite p in let a = apart p in omega (arith, ints, clamps);
    triangle = λ p q r.
        let t = C.triangle p q r in
        let a = apart r in
        let o = over p r in
        let s = C.symmetric q (opp r) in
        let o' : half (D q q) ≤ℤ (D q (opp r) +ℤ half (D r r)) = subst (λ x. half (D q q) ≤ℤ (D q (opp r) +ℤ half (D x x))) (twice r) (over q (opp r)) in
        omega (arith, ints, clamps);
  }

  pub rounded_tight : Tight opp (rounded D)
  rounded_tight = record {
    closed = rounded_closed;
    even = λ p. omega (arith, ints, half_is, rounded_diagonal p);
    joined = λ p q. let a = half_diagonal p in let b = half_diagonal q in omega (arith, ints, clamps);
  }
