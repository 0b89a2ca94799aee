-- An array that is filled by a function of the place.
use Rattle.std.proofs.Common.{◌≡◌, ℕ, ◌+◌, ◌<◌, ◌≤◌, zero, suc, List, map, get_or, ◌⊎◌, inl, inr, ◌∙◌, subst, arith}
use Rattle.std.specs.List.{range_with_len}
use Rattle.std.specs.Array.{IsFromFnResult, IsFromFnResultFrom}
use Rattle.std.specs.Fn.{Called}
use Rattle.std.proofs.lemmas.Bool.{cases_lt}
use Rattle.std.proofs.lemmas.List.FromFn.{fill_by_all}
use denote.Param.Members.{Mut}

module _ {F B : Type 0} (g : Mut F (ℕ × Unit {0}) B) (h : ℕ → B) (d : B) (f : F) (gives : (k : ℕ) (y : B) (q : F) → Called g f (k, tt) y q → (q ≡ f) × (y ≡ h k)) where
  -- the places from i on hold what h gives
  filled_from : (ys : List B) (i n : ℕ) → IsFromFnResultFrom g f ys i n → (k : ℕ) → i ≤ k → k < i + n → get_or ys k d ≡ h k
  filled_from ys i zero m k from below = absurd (omega arith)
  filled_from ys i (suc n) m k from below = by (λ later. filled_from ys (i + 1) n (subst (λ p. IsFromFnResultFrom g p ys (i + 1) n) (gives i m.1 m.0 m.3).0 m.4) k later (omega arith)) (cases_lt i k)
    where
      by : (i + 1 ≤ k → get_or ys k d ≡ h k) → (i < k) ⊎ (k ≤ i) → get_or ys k d ≡ h k
      by more (inl later) = more (omega arith)
      by more (inr here) = subst (λ j. get_or ys j d ≡ h j) (omega arith) (m.2.1 d ∙ (gives i m.1 m.0 m.3).1)

  -- a function that stays as it was and gives h k at each place k makes the list of h
  pub filled : {ys : List B} {n : ℕ} → IsFromFnResult g f ys n → ys ≡ map h (range_with_len 0 n)
  filled {ys} {n} made = fill_by_all h ys n d made.long (λ k below. filled_from ys 0 n made.each k (omega arith) (omega arith))
