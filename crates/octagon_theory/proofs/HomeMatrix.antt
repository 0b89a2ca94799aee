-- The matrix of a home alone is tight as it stands: a way over a third node adds that node's range, which is not negative.
use Rattle.std.proofs.Common.{◌≡◌, ℕ, ◌*◌, ◌<◌, ◌⊎◌, ◌+ℤ◌, ◌≤ℤ◌, refl, ap, ◌∙◌, inl, inr, arith}
use Rattle.std.proofs.lemmas.Bool.{cases_eq}
use borrow.Author.Differences.{ints}
use Rattle.interface.specs.declared.home.Home.{Home}
use Rattle.interface.specs.Homes.{Passes}
use Rattle.interface.specs.Nodes.{opp}
use Rattle.octagon_theory.specs.Limits.{top_of, home_entry}
use Rattle.octagon_theory.specs.Matrices.{TightlyClosed}
use Rattle.octagon_theory.proofs.Entries.{home_opposite, home_other, home_symmetric}
use Rattle.octagon_theory.proofs.Halves.{half_is}
use Rattle.octagon_theory.proofs.Nodes.{opp_opp}
use Rattle.octagon_theory.proofs.Passing.{top_apart}

module _ (h : Home) (passes : Passes h) where
  home_diagonal : (p : ℕ) → home_entry h p p ≡ (top_of h p +ℤ top_of h p)
  home_diagonal p = home_other h p p (λ e. omega arith)

  home_joined : (p q : ℕ) → p < 2 * h.n → home_entry h p q ≤ℤ (top_of h p +ℤ top_of h q)
  home_joined p q a = by (cases_eq q (opp p))
    where
      by : (q ≡ opp p) ⊎ (q ≡ opp p → ⊥) → home_entry h p q ≤ℤ (top_of h p +ℤ top_of h q)
      by (inl e) = let f = home_opposite h p q e in let g = top_apart h passes p a in let i = ap (top_of h) e in omega (arith, ints)
      by (inr d) = let f = home_other h p q d in omega (arith, ints)

  home_triangle : (p q r : ℕ) → p < 2 * h.n → r < 2 * h.n → home_entry h p q ≤ℤ (home_entry h p r +ℤ home_entry h (opp r) q)
  home_triangle p q r a c = by (cases_eq r (opp p)) (cases_eq q (opp (opp r)))
    where
      by : (r ≡ opp p) ⊎ (r ≡ opp p → ⊥) → (q ≡ opp (opp r)) ⊎ (q ≡ opp (opp r) → ⊥) → home_entry h p q ≤ℤ (home_entry h p r +ℤ home_entry h (opp r) q)
      by (inl e) f = let g = home_opposite h p r e in let i = ap (λ s. home_entry h s q) (ap opp e ∙ opp_opp p) in omega (arith, ints)
      by (inr d) (inl f) = let g = home_opposite h (opp r) q f in let i = ap (home_entry h p) (f ∙ opp_opp r) in omega (arith, ints)
      by (inr d) (inr f) = let g = home_other h p r d in let i = home_other h (opp r) q f in let j = home_joined p q a in let k = top_apart h passes r c in omega (arith, ints)

  pub home_tight : TightlyClosed h.n (home_entry h)
  home_tight = record {
    symmetric = λ p q a b. home_symmetric h p q;
    opposite = λ p a. home_opposite h p (opp p) refl;
    triangle = λ p q r a b c. home_triangle p q r a c;
    even = λ p a. let e = home_diagonal p in omega (arith, ints, half_is);
    joined = λ p q a b. let e = home_diagonal p in let f = home_diagonal q in let g = home_joined p q a in omega (arith, ints, half_is);
  }
