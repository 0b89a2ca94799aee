-- The first places of a slice: written and taken back at their end, and seen in a longer slice. Assumes nothing.
use Rattle.std.proofs.Common.{◌≡◌, ℕ, ◌+◌, ◌-◌, ◌<◌, ◌≤◌, List, [], ◌∷◌, ◌++◌, reverse, length, get_or, take, set, Some, sym, refl, ap, ◌∙◌, subst, arith}
use Rattle.std.specs.List.{slice_get}
use Rattle.std.proofs.lemmas.List.{length-take, length-take-le, reverse-reverse, length_push, reverse-append, take_at, take-take, take-append-le, take_more_set, get_or-take, get_or_push}
use Rattle.std.proofs.lemmas.Option.{slice_get-get_or}
use Rattle.search_theory.specs.Promise.{Front}

pub reverse_cons : {A : Type 0} (x : A) (xs : List A) → reverse (x ∷ xs) ≡ reverse xs ++ x ∷ []
reverse_cons x xs = reverse-append (x ∷ []) xs

module _ {A : Type 0} where
  -- the slice has those places
  pub front_fits : (k : ℕ) (xs ys : List A) → Front k xs ys → k ≤ length xs
  front_fits k xs ys f = let e = length-take k xs in let d = ap length f.1 in omega (arith, e, d, f.0)

  -- the first places hold what they hold
  pub front_of : (k : ℕ) (xs : List A) → k ≤ length xs → Front k xs (reverse (reverse (take k xs)))
  front_of k xs h = subst (Front k xs) (sym (reverse-reverse (take k xs))) (sym (length-take-le k xs h), refl)

  pub front_whole : (k : ℕ) (xs ys rest : List A) → Front k xs ys → Front k (xs ++ rest) ys
  front_whole k xs ys rest f = (f.0, take-append-le k xs rest (front_fits k xs ys f) ∙ f.1)

  pub front_lent : (k : ℕ) (xs ys rest : List A) → k ≤ length xs → Front k (xs ++ rest) ys → Front k xs ys
  front_lent k xs ys rest h f = (f.0, sym (take-append-le k xs rest h) ∙ f.1)

  -- one more place written
  pub front_push : (k : ℕ) (xs ys : List A) (y : A) → k < length xs → Front k xs ys → Front (k + 1) (set xs k y) (ys ++ y ∷ [])
  front_push k xs ys y h f = (let e = length_push ys y in omega (arith, e, f.0), take_more_set xs k y h ∙ ap (λ zs. zs ++ y ∷ []) f.1)

  -- the last place given up
  pub front_pop : (k : ℕ) (xs ys : List A) (y : A) → Front k xs (ys ++ y ∷ []) → Front (k - 1) xs ys
  front_pop k xs ys y f =
      let n = length_push ys y in
      let e : length ys ≡ k - 1 = omega (arith, n, f.0) in
      (sym e, sym (take-take (k - 1) k xs (omega arith)) ∙ ap (take (k - 1)) f.1 ∙ take_at ys (y ∷ []) (k - 1) e)

  -- and what it holds
  pub front_last : (k : ℕ) (xs ys : List A) (y : A) → Front k xs (ys ++ y ∷ []) → slice_get xs (k - 1) ≡ Some y
  front_last k xs ys y f =
      let n = length_push ys y in
      let e : length ys ≡ k - 1 = omega (arith, n, f.0) in
      let h = front_fits k xs (ys ++ y ∷ []) f in
      slice_get-get_or xs (k - 1) y (omega (arith, n, f.0, h)) ∙ ap Some (sym (get_or-take k xs (k - 1) y (omega (arith, n, f.0))) ∙ ap (λ zs. get_or zs (k - 1) y) f.1 ∙ get_or_push ys y y (k - 1) e)
