-- What a check that passes says: none of its grounds holds. Assumes nothing.
use Rattle.std.specs.Prelude.{◌≡◌, ℕ, zero, suc, ◌+◌, ◌*◌, ◌^◌, ◌<◌, ◌≤◌, Bool, true, false, not, ◌&&◌, List, [], ◌∷◌, ◌++◌, ℤ, pos, negsuc, Ok, Err, Result, FitsSigned, nat_lt, refl}
use Rattle.std.proofs.Math.Path.{ap}
use Rattle.std.proofs.Common.{sym, ◌∙◌, arith}
use Rattle.std.specs.Int.{w32}
use Rattle.std.specs.List.{range_with_len, flat_map}
use Rattle.std.proofs.lemmas.Bool.{not-false, ltb-true, and_parts}
use Rattle.std.proofs.lemmas.Int.{ints}
use Rattle.interface.specs.declared.fault.RecordFault.{RecordFault}
use Rattle.interface.specs.declared.fault.RecordFault.TheVariants.{Settings, Range}
use Rattle.interface.specs.declared.home.Home.{Home}
use Rattle.interface.specs.Grounds.{first_fault, next}
use Rattle.interface.specs.Homes.{Passes, low_of, high_of, settings_grounds, range_grounds, crossed_grounds}
use Rattle.interface.specs.Numbers.{within}
use Rattle.interface.proofs.Grounds.{first_fault_append}

err_not_ok : {F A : Type 0} (f : F) → ◌≡◌ {A = Result (Unit {0}) F} (Err f) (Ok tt) → A
err_not_ok f e = cc

pub next_ok : {F : Type 0} (a b : Result (Unit {0}) F) → next a b ≡ Ok tt → (a ≡ Ok tt) × (b ≡ Ok tt)
next_ok (Ok u) b e = (refl, e)
next_ok (Err f) b e = err_not_ok f e

pub first_ok : {F : Type 0} (g : Bool) (f : F) (gs : List (Bool × F)) → first_fault ((g, f) ∷ gs) ≡ Ok tt → (g ≡ false) × (first_fault gs ≡ Ok tt)
first_ok true f gs e = err_not_ok f e
first_ok false f gs e = (refl, e)

-- grounds tried on each number hold of none
pub joined_ok : {F : Type 0} (g : ℕ → List (Bool × F)) (a n : ℕ) → first_fault (flat_map g (range_with_len a n)) ≡ Ok tt → (k : ℕ) → k < n → first_fault (g (a + k)) ≡ Ok tt
joined_ok g a zero e k h = absurd (omega arith)
joined_ok g a (suc n) e zero h = ap (λ k. first_fault (g k)) (omega arith) ∙ (next_ok (first_fault (g a)) _ (sym (first_fault_append (g a) _) ∙ e)).0
joined_ok g a (suc n) e (suc k) h = ap (λ k. first_fault (g k)) (omega arith) ∙ joined_ok g (a + 1) n (next_ok (first_fault (g a)) _ (sym (first_fault_append (g a) _) ∙ e)).1 k (omega arith)

pub joined_same : {X : Type 0} (f g : ℕ → List X) (a n : ℕ) → ((k : ℕ) → a ≤ k → k < a + n → f k ≡ g k) → flat_map f (range_with_len a n) ≡ flat_map g (range_with_len a n)
joined_same f g a zero e = refl
joined_same f g a (suc n) e =
    let here = e a (omega arith) (omega arith) in
    let there = joined_same f g (a + 1) n (λ k low high. e k (omega arith) (omega arith)) in
    λ i. here i ++ there i

-- a number of at most 31 bits fits
pub within_fits : (b : ℕ) (z : ℤ) → b < 2 ^ 31 → within b z ≡ true → FitsSigned w32 z
within_fits b (pos n) small e = record { sfits = grind (arith, ints) }
within_fits zero (negsuc n) small e = absurd (grind (arith, ints))
within_fits (suc b) (negsuc n) small e = record { sfits = grind (arith, ints) }

-- a home that passes has one to eight settings, and its numbers fit
module _ (h : Home) (ok : Passes h) where
  ranges : Result (Unit {0}) RecordFault
  ranges = first_fault (flat_map (range_grounds h) (range_with_len 0 h.n))

  orders : Result (Unit {0}) RecordFault
  orders = first_fault (flat_map (crossed_grounds h) (range_with_len 0 h.n))

  pub settings_ok : (0 < h.n) × (h.n ≤ 8)
  unfolding ranges orders
  settings_ok =
      let none = (first_ok (not (nat_lt 0 h.n && nat_lt h.n 9)) (Settings 2) [] (next_ok (first_fault (settings_grounds h)) (next ranges orders) ok).0).0 in
      let both = and_parts (nat_lt 0 h.n) (nat_lt h.n 9) (not-false (nat_lt 0 h.n && nat_lt h.n 9) none) in
      (ltb-true 0 h.n both.0, omega (arith, ltb-true h.n 9 both.1))

  range_ok : (k : ℕ) → k < h.n → (within 1000000 (low_of h k) ≡ true) × (within 1000000 (high_of h k) ≡ true)
  unfolding ranges orders
  range_ok k lt =
      let all = (next_ok ranges orders (next_ok (first_fault (settings_grounds h)) (next ranges orders) ok).1).0 in
      let here : first_fault (range_grounds h k) ≡ Ok tt = ap (λ j. first_fault (range_grounds h j)) (omega arith) ∙ joined_ok (range_grounds h) 0 h.n all k lt in
      let low = first_ok (not (within 1000000 (low_of h k))) (Range (3 + 8 * k)) ((not (within 1000000 (high_of h k)), Range (7 + 8 * k)) ∷ []) here in
      let high = first_ok (not (within 1000000 (high_of h k))) (Range (7 + 8 * k)) [] low.1 in
      (not-false (within 1000000 (low_of h k)) low.0, not-false (within 1000000 (high_of h k)) high.0)

  pub low_fits : (k : ℕ) → k < h.n → FitsSigned w32 (low_of h k)
  low_fits k lt = within_fits 1000000 (low_of h k) (omega arith) (range_ok k lt).0

  pub high_fits : (k : ℕ) → k < h.n → FitsSigned w32 (high_of h k)
  high_fits k lt = within_fits 1000000 (high_of h k) (omega arith) (range_ok k lt).1
