-- A home that passes its check: none of its grounds holds, so its numbers are within their bounds. Assumes nothing.
use Rattle.std.proofs.Common.{◌≡◌, ℕ, zero, suc, ◌<◌, ◌≤◌, Bool, true, false, cond, ◌&&◌, ltb, nat_lt, slice_index_or, ⊎_elim, List, [], ◌∷◌, length, get_or, ℤ, pos, neg_ℤ, ◌≤ℤ◌, Ok, Err, Result, sym, refl, ◌∙◌, subst, arith}
use lib.Signed.{le_z}
use Rattle.std.specs.List.{range_with_len, flat_map}
use Rattle.std.proofs.lemmas.List.FromFn.{length-range_with_len, get_or-range_with_len, get_or-map-range_with_len, length-map-range_with_len}
use Rattle.std.proofs.lemmas.Int.{ints}
use Rattle.std.proofs.lemmas.Bool.{and_parts, ltb-true, not-false, cases_lt, cond-true, cond-false, lt-ltb, le-ltb}
use Rattle.std.proofs.lemmas.List.{get_or_past}
use Rattle.interface.specs.declared.home.Home.{Home}
use Rattle.interface.specs.Grounds.{first_fault, next}
use Rattle.interface.specs.Homes.{zero_span, low_of, high_of, span_or_0, eight_spans, range_grounds, crossed_grounds, settings_grounds, Passes}
use Rattle.interface.specs.Numbers.{within}
use Rattle.interface.proofs.Grounds.{first_fault_append}

next_parts : {F : Type 0} (r q : Result (Unit {0}) F) → next r q ≡ Ok tt → (r ≡ Ok tt) × (q ≡ Ok tt)
next_parts (Ok u) q e = (refl, e)
next_parts (Err f) q e = let z : ◌≡◌ {A = ℕ} 0 1 = cc in absurd (omega arith)

-- the first ground of an accepted list does not hold, and the rest is accepted
ground_fails : {F : Type 0} (b : Bool) (f : F) (r : Result (Unit {0}) F) → cond b (Err f) r ≡ Ok tt → (b ≡ false) × (r ≡ Ok tt)
ground_fails true f r e = let z : ◌≡◌ {A = ℕ} 0 1 = cc in absurd (omega arith)
ground_fails false f r e = (refl, e)

module _ {F : Type 0} (g : ℕ → List (Bool × F)) where
  -- every setting's grounds are accepted
  each_passes : (ks : List ℕ) → first_fault (flat_map g ks) ≡ Ok tt → (i : ℕ) → i < length ks → first_fault (g (get_or ks i 0)) ≡ Ok tt
  each_passes [] e i h = absurd (omega arith)
  each_passes (k ∷ ks) e zero h = (next_parts (first_fault (g k)) (first_fault (flat_map g ks)) (sym (first_fault_append (g k) (flat_map g ks)) ∙ e)).0
  each_passes (k ∷ ks) e (suc i) h = each_passes ks (next_parts (first_fault (g k)) (first_fault (flat_map g ks)) (sym (first_fault_append (g k) (flat_map g ks)) ∙ e)).1 i (omega arith)

  each_below : (n : ℕ) → first_fault (flat_map g (range_with_len 0 n)) ≡ Ok tt → (k : ℕ) → k < n → first_fault (g k) ≡ Ok tt
  each_below n e k h = subst (λ i. first_fault (g i) ≡ Ok tt) (get_or-range_with_len 0 n k 0 h ∙ omega arith) (each_passes (range_with_len 0 n) e k (omega (arith, length-range_with_len 0 n)))

-- the first n of eight spans are as stated, and what lies past them is 0
module _ (n : ℕ) (low high : ℕ → ℤ) where
  pub length_spans : length (eight_spans n low high) ≡ 8
  length_spans = length-map-range_with_len (span_or_0 n low high) 0 8

  span_at : (k : ℕ) → k < 8 → slice_index_or (eight_spans n low high) k zero_span ≡ span_or_0 n low high k
  span_at k l = get_or-map-range_with_len (span_or_0 n low high) 0 8 k k zero_span l (omega arith)

  pub span_before : (k : ℕ) → n ≤ 8 → k < n → slice_index_or (eight_spans n low high) k zero_span ≡ record { low = low k; high = high k }
  span_before k most l = span_at k (omega arith) ∙ cond-true (nat_lt k n) _ zero_span (lt-ltb k n l)

  pub span_past : (k : ℕ) → n ≤ k → slice_index_or (eight_spans n low high) k zero_span ≡ zero_span
  span_past k l = ⊎_elim (λ (b : k < 8). span_at k b ∙ cond-false (nat_lt k n) _ zero_span (le-ltb k n l)) (λ (b : 8 ≤ k). get_or_past (eight_spans n low high) k zero_span (omega (arith, length_spans))) (cases_lt k 8)

pub within_parts : (b : ℕ) (z : ℤ) → within b z ≡ true → (neg_ℤ (pos b) ≤ℤ z) × (z ≤ℤ pos b)
within_parts b z e = let p = and_parts (le_z (neg_ℤ (pos b)) z) (le_z z (pos b)) e in (omega (arith, ints, p.0), omega (arith, ints, p.1))

-- what the check shows of setting k
pub record Passed (h : Home) (k : ℕ) : Type 0 where
  pub low_within : (neg_ℤ (pos 1000000) ≤ℤ low_of h k) × (low_of h k ≤ℤ pos 1000000)
  pub high_within : (neg_ℤ (pos 1000000) ≤ℤ high_of h k) × (high_of h k ≤ℤ pos 1000000)
  pub ordered : low_of h k ≤ℤ high_of h k

module _ (h : Home) (ok : Passes h) where
  abbrev passed_settings : first_fault (settings_grounds h) ≡ Ok tt
  passed_settings = (next_parts (first_fault (settings_grounds h)) _ ok).0

  abbrev passed_rest : next (first_fault (flat_map (range_grounds h) (range_with_len 0 h.n))) (first_fault (flat_map (crossed_grounds h) (range_with_len 0 h.n))) ≡ Ok tt
  passed_rest = (next_parts (first_fault (settings_grounds h)) _ ok).1

  pub passed_n : (1 ≤ h.n) × (h.n ≤ 8)
  passed_n =
      let e = not-false (ltb 0 h.n && ltb h.n 9) (ground_fails _ _ (Ok tt) passed_settings).0 in
      let p = and_parts (ltb 0 h.n) (ltb h.n 9) e in (omega (arith, ltb-true 0 h.n p.0), omega (arith, ltb-true h.n 9 p.1))

  pub passed_at : (k : ℕ) → k < h.n → Passed h k
  passed_at k l =
      let ranges = next_parts (first_fault (flat_map (range_grounds h) (range_with_len 0 h.n))) _ passed_rest in
      let r = ground_fails _ _ _ (each_below (range_grounds h) h.n ranges.0 k l) in
      let c = ground_fails _ _ (Ok tt) (each_below (crossed_grounds h) h.n ranges.1 k l) in
      record {
        low_within = within_parts 1000000 (low_of h k) (not-false _ r.0);
        high_within = within_parts 1000000 (high_of h k) (not-false _ (ground_fails _ _ (Ok tt) r.1).0);
        ordered = omega (arith, ints, c.0);
      }
