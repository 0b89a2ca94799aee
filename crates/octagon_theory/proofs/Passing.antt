-- What a home that passes its check has: no ground of any setting holds.
use Rattle.std.proofs.Common.{◌≡◌, ℕ, ◌+◌, ◌*◌, ◌<◌, Bool, true, false, cond, ◌&&◌, ltb, List, [], ◌∷◌, ℤ, pos, ◌+ℤ◌, neg_ℤ, ◌≤ℤ◌, Ok, Err, Result, sym, refl, ap, ◌∙◌, arith}
use lib.Signed.{le_z, lt_z}
use Rattle.std.specs.List.{range_with_len, flat_map, AllByRecursion}
use Rattle.std.proofs.lemmas.Bool.{not-false, and_parts, and_from, ltb-true}
use borrow.Author.Differences.{ints}
use Rattle.interface.specs.declared.home.Home.{Home}
use Rattle.interface.specs.Grounds.{first_fault, next}
use Rattle.interface.specs.Homes.{low_of, high_of, range_grounds, crossed_grounds, settings_grounds, Passes}
use Rattle.interface.specs.Nodes.{opp}
use Rattle.interface.specs.Numbers.{within}
use Rattle.interface.proofs.Grounds.{first_fault_append}
use Rattle.octagon_theory.specs.Limits.{top_of}
use Rattle.octagon_theory.proofs.Entries.{by_node, top_even, top_odd}
use Rattle.octagon_theory.proofs.Exact.{at_each}

next_both : {F : Type 0} (a b : Result (Unit {0}) F) → next a b ≡ Ok tt → (a ≡ Ok tt) × (b ≡ Ok tt)
next_both (Ok u) b e = (refl, e)
next_both (Err f) b e = absurd (let z : ◌≡◌ {A = ℕ} 0 1 = cc in omega arith)

none_holds : {F : Type 0} (gs : List (Bool × F)) → first_fault gs ≡ Ok tt → AllByRecursion (λ g. g.0 ≡ false) gs
none_holds [] e = tt
none_holds (g ∷ gs) e = by g.0 refl e (none_holds gs)
  where
    by : (b : Bool) → g.0 ≡ b → cond b (Err g.1) (first_fault gs) ≡ Ok tt → (first_fault gs ≡ Ok tt → AllByRecursion (λ g. g.0 ≡ false) gs) → AllByRecursion (λ g. g.0 ≡ false) (g ∷ gs)
    by true d f r = absurd (let z : ◌≡◌ {A = ℕ} 0 1 = cc in omega arith)
    by false d f r = (d, r f)

each_passes : {F : Type 0} (g : ℕ → List (Bool × F)) (ks : List ℕ) → first_fault (flat_map g ks) ≡ Ok tt → AllByRecursion (λ k. first_fault (g k) ≡ Ok tt) ks
each_passes g [] e = tt
each_passes g (k ∷ ks) e = let b = next_both (first_fault (g k)) (first_fault (flat_map g ks)) (sym (first_fault_append (g k) (flat_map g ks)) ∙ e) in (b.0, each_passes g ks b.1)

within_both : (b : ℕ) (z : ℤ) → within b z ≡ true → (neg_ℤ (pos b) ≤ℤ z) × (z ≤ℤ pos b)
within_both b z e = let p = and_parts (le_z (neg_ℤ (pos b)) z) (le_z z (pos b)) e in let l = p.0 in let r = p.1 in (omega (arith, ints), omega (arith, ints))

pub both_within : (b : ℕ) (z : ℤ) → neg_ℤ (pos b) ≤ℤ z → z ≤ℤ pos b → within b z ≡ true
both_within b z h k = and_from (le_z (neg_ℤ (pos b)) z) (le_z z (pos b)) (let e : true ≡ le_z (neg_ℤ (pos b)) z = omega (arith, ints) in sym e) (let e : true ≡ le_z z (pos b) = omega (arith, ints) in sym e)

module _ (h : Home) (passes : Passes h) where
  settings_part : first_fault (settings_grounds h) ≡ Ok tt
  settings_part = (next_both (first_fault (settings_grounds h)) _ passes).0

  rest : (first_fault (flat_map (range_grounds h) (range_with_len 0 h.n)) ≡ Ok tt) × (first_fault (flat_map (crossed_grounds h) (range_with_len 0 h.n)) ≡ Ok tt)
  rest = next_both (first_fault (flat_map (range_grounds h) (range_with_len 0 h.n))) (first_fault (flat_map (crossed_grounds h) (range_with_len 0 h.n))) (next_both (first_fault (settings_grounds h)) (next (first_fault (flat_map (range_grounds h) (range_with_len 0 h.n))) (first_fault (flat_map (crossed_grounds h) (range_with_len 0 h.n)))) passes).1

  -- from 1 to 8 settings
  pub settings_bounds : (0 < h.n) × (h.n < 9)
  settings_bounds =
      let e = not-false (ltb 0 h.n && ltb h.n 9) (none_holds (settings_grounds h) settings_part).0 in
      let p = and_parts (ltb 0 h.n) (ltb h.n 9) e in
      (ltb-true 0 h.n p.0, ltb-true h.n 9 p.1)

  pub range_bounds : (k : ℕ) → k < h.n → (neg_ℤ (pos 1000000) ≤ℤ low_of h k) × (low_of h k ≤ℤ high_of h k) × (high_of h k ≤ℤ pos 1000000)
  range_bounds k b =
      let r = none_holds (range_grounds h k) (at_each (λ k. first_fault (range_grounds h k) ≡ Ok tt) h.n (each_passes (range_grounds h) (range_with_len 0 h.n) rest.0) k b) in
      let c = none_holds (crossed_grounds h k) (at_each (λ k. first_fault (crossed_grounds h k) ≡ Ok tt) h.n (each_passes (crossed_grounds h) (range_with_len 0 h.n) rest.1) k b) in
      let l = within_both 1000000 (low_of h k) (not-false (within 1000000 (low_of h k)) r.0) in
      let u = within_both 1000000 (high_of h k) (not-false (within 1000000 (high_of h k)) r.1.0) in
      let o : lt_z (high_of h k) (low_of h k) ≡ false = c.0 in
      (l.0, omega (arith, ints), u.1)

  pub top_bounded : (p : ℕ) → p < 2 * h.n → top_of h p ≤ℤ pos 1000000
  top_bounded p b = by_node (λ p. top_of h p ≤ℤ pos 1000000) h.n
      (λ k l. let e = top_even k h in let r = (range_bounds k l).2 in omega (arith, ints))
      (λ k l. let e = top_odd k h in let r = (range_bounds k l).0 in omega (arith, ints)) p b

  -- a setting's highest and its negative's highest leave it a value
  pub top_apart : (p : ℕ) → p < 2 * h.n → pos 0 ≤ℤ (top_of h p +ℤ top_of h (opp p))
  top_apart p b = by_node (λ p. pos 0 ≤ℤ (top_of h p +ℤ top_of h (opp p))) h.n
      (λ k l. let e = top_even k h in let f = ap (top_of h) (let z : opp (2 * k) ≡ 2 * k + 1 = omega arith in z) in let g = top_odd k h in let r = (range_bounds k l).1 in omega (arith, ints))
      (λ k l. let e = top_even k h in let f = ap (top_of h) (let z : opp (2 * k + 1) ≡ 2 * k = omega arith in z) in let g = top_odd k h in let r = (range_bounds k l).1 in omega (arith, ints)) p b
