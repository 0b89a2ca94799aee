-- A list of more than m numbers below m holds some number twice: a list without repeats loses at most one number with each step down of the bound.
use Rattle.std.proofs.Common.{◌≡◌, ℕ, zero, suc, ◌<◌, ◌≤◌, ◌≢◌, ◌⊎◌, List, [], ◌∷◌, ◌++◌, length, ap, subst, inl, inr, arith}
use native.Mathlib.Decide.{ℕ_discrete}
use Rattle.std.specs.List.{AllByRecursion}

-- the list holds `again` at two places
pub record Repeat (xs : List ℕ) : Type 0 where
  pub before : List ℕ
  pub again : ℕ
  pub inner : List ℕ
  pub after : List ℕ
  pub whole : xs ≡ before ++ (again ∷ (inner ++ (again ∷ after)))

abbrev Without : ℕ → List ℕ → Type 0
Without a xs = AllByRecursion (λ y. y ≢ a) xs

abbrev Distinct : List ℕ → Type 0
Distinct [] = Unit {0}
Distinct (x ∷ xs) = Without x xs × Distinct xs

abbrev Place : ℕ → List ℕ → Type 0
Place a xs = (bs : List ℕ) × (cs : List ℕ) × (xs ≡ bs ++ (a ∷ cs))

find_step : (a x : ℕ) (xs : List ℕ) → Dec (x ≡ a) → Place a xs ⊎ Without a xs → Place a (x ∷ xs) ⊎ Without a (x ∷ xs)
find_step a x xs (yes e) f = inl ([], xs, ap (λ y. y ∷ xs) e)
find_step a x xs (no d) (inl f) = inl (x ∷ f.0, f.1, ap (λ ys. x ∷ ys) f.2)
find_step a x xs (no d) (inr f) = inr (d, f)

find : (a : ℕ) (xs : List ℕ) → Place a xs ⊎ Without a xs
find a [] = inr tt
find a (x ∷ xs) = find_step a x xs (ℕ_discrete x a) (find a xs)

repeat_step : (x : ℕ) (xs : List ℕ) → Place x xs ⊎ Without x xs → Repeat xs ⊎ Distinct xs → Repeat (x ∷ xs) ⊎ Distinct (x ∷ xs)
repeat_step x xs (inl f) r = inl (record { before = []; again = x; inner = f.0; after = f.1; whole = ap (λ ys. x ∷ ys) f.2 })
repeat_step x xs (inr f) (inl r) = inl (record { before = x ∷ r.before; again = r.again; inner = r.inner; after = r.after; whole = ap (λ ys. x ∷ ys) r.whole })
repeat_step x xs (inr f) (inr d) = inr (f, d)

repeat_or_distinct : (xs : List ℕ) → Repeat xs ⊎ Distinct xs
repeat_or_distinct [] = inr tt
repeat_or_distinct (x ∷ xs) = repeat_step x xs (find x xs) (repeat_or_distinct xs)

-- xs without the number m, the greatest that it may hold
record Lower (m : ℕ) (xs : List ℕ) : Type 0 where
  rest : List ℕ
  below : AllByRecursion (λ x. x < m) rest
  distinct : Distinct rest
  size : length xs ≤ suc (length rest)
  fewer : (z : ℕ) → Without z xs → Without z rest

all_below : (m : ℕ) (xs : List ℕ) → AllByRecursion (λ x. x < suc m) xs → Without m xs → AllByRecursion (λ x. x < m) xs
all_below m [] h k = tt
all_below m (x ∷ xs) h k = (let a = h.0 in let b = k.0 in omega arith, all_below m xs h.1 k.1)

lower_step : (m x : ℕ) (xs : List ℕ) → x < suc m → AllByRecursion (λ x. x < suc m) xs → Distinct (x ∷ xs) → Dec (x ≡ m) → Lower m xs → Lower m (x ∷ xs)
lower_step m x xs h k d (yes e) r = record { rest = xs; below = all_below m xs k (subst (λ y. Without y xs) e d.0); distinct = d.1; size = omega arith; fewer = λ z w. w.1 }
lower_step m x xs h k d (no e) r = record { rest = x ∷ r.rest; below = (omega arith, r.below); distinct = (r.fewer x d.0, r.distinct); size = let s = r.size in omega arith; fewer = λ z w. (w.0, r.fewer z w.1) }

lower : (m : ℕ) (xs : List ℕ) → AllByRecursion (λ x. x < suc m) xs → Distinct xs → Lower m xs
lower m [] h d = record { rest = []; below = tt; distinct = tt; size = omega arith; fewer = λ z w. tt }
lower m (x ∷ xs) h d = lower_step m x xs h.0 h.1 d (ℕ_discrete x m) (lower m xs h.1 d.1)

distinct_short : (m : ℕ) (xs : List ℕ) → AllByRecursion (λ x. x < m) xs → Distinct xs → length xs ≤ m
distinct_short zero [] h d = omega arith
distinct_short zero (x ∷ xs) h d = absurd (let k = h.0 in omega arith)
distinct_short (suc m) xs h d = let r = lower m xs h d in let s = distinct_short m r.rest r.below r.distinct in let t = r.size in omega arith

pub pigeonhole : (m : ℕ) (xs : List ℕ) → AllByRecursion (λ x. x < m) xs → m < length xs → Repeat xs
pigeonhole m xs h k = go (repeat_or_distinct xs)
  where
    go : Repeat xs ⊎ Distinct xs → Repeat xs
    go (inl r) = r
    go (inr d) = absurd (let s = distinct_short m xs h d in omega arith)
