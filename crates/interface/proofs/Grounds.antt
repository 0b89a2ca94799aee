-- A loop over settings tries the grounds of setting k and then those that are left. Assumes nothing.
use Rattle.std.proofs.Common.{◌≡◌, ℕ, suc, ◌+◌, ◌-◌, ◌<◌, Bool, true, false, List, [], ◌∷◌, ◌++◌, Result, refl, ap, ◌∙◌, arith}
use Rattle.std.specs.List.{range_with_len, flat_map}
use Rattle.interface.specs.Grounds.{first_fault, next}

counting_more : (k n : ℕ) → k < n → range_with_len k (n - k) ≡ k ∷ range_with_len (k + 1) (n - (k + 1))
counting_more k n h = let e : n - k ≡ suc (n - (k + 1)) = omega arith in ap (range_with_len k) e

-- grounds in front of others decide first
pub first_fault_append : {F : Type 0} (gs hs : List (Bool × F)) → first_fault (gs ++ hs) ≡ next (first_fault gs) (first_fault hs)
first_fault_append [] hs = refl
first_fault_append (g ∷ gs) hs = by g.0 (first_fault_append gs hs)
  where
    by : (b : Bool) → first_fault (gs ++ hs) ≡ next (first_fault gs) (first_fault hs) → first_fault ((b, g.1) ∷ (gs ++ hs)) ≡ next (first_fault ((b, g.1) ∷ gs)) (first_fault hs)
    by true e = refl
    by false e = e

module _ {F : Type 0} (g : ℕ → List (Bool × F)) (k n : ℕ) where
  abbrev left : ℕ → Result (Unit {0}) F
  left i = first_fault (flat_map g (range_with_len i (n - i)))

  pub grounds_more : k < n → (r : Result (Unit {0}) F) → first_fault (g k) ≡ r → left k ≡ next r (left (k + 1))
  grounds_more h r e = ap (λ ks. first_fault (flat_map g ks)) (counting_more k n h) ∙ first_fault_append (g k) _ ∙ ap (λ q. next q (left (k + 1))) e
