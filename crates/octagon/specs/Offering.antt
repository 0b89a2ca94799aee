-- The least point built value by value: the greatest of the bounds so far, and the values so far. Assumes nothing.
use Rattle.std.specs.Prelude.{◌≡◌, ℕ, zero, suc, ◌+◌, ◌-◌, ◌*◌, ◌/◌, ◌%◌, ◌<◌, ◌≤◌, Bool, List, [], ◌∷◌, ◌++◌, map, length, take, drop, replicate, ℤ, pos, ◌+ℤ◌, ◌-ℤ◌, neg_ℤ, fold, int_le, slice_set, refl, FitsSigned, Result, Ok, Err}
use Rattle.std.proofs.Common.{append_assoc, sym, ap, ◌∙◌, arith, length-set}
use Rattle.std.specs.List.{range_with_len}
use Rattle.std.specs.Int.{int_max, w32}
use Rattle.std.specs.Result.{OkIff, result_unwrap_or}
use borrow.Author.Differences.{ints}
use Rattle.std.proofs.lemmas.Bool.Decides.{same_from_decides}
use Rattle.std.proofs.lemmas.List.FromFn.{map-range_with_len_more}
use Rattle.std.proofs.lemmas.List.{get_or-take, take_more_set, drop-set-lt, drop-drop, drop-replicate, length-take-le, take-append-drop, append-nil}
use Rattle.std.proofs.lemmas.List.Sums.{fold_push}
use Rattle.halving.specs.First.{every}
use Rattle.halving.proofs.First.{every_decides}
use Rattle.interface.specs.Nodes.{value}
use Rattle.interface.specs.Numbers.{half}
use Rattle.octagon_theory.specs.Matrices.{next_value}
use Rattle.octagon_theory.proofs.Nodes.{signed}
use Rattle.octagon.specs.Entries.{at}
use Rattle.octagon.specs.Ranges.{low_at}
use Rattle.octagon.specs.Octagons.{narrow, least_from, row_under, all_under}

-- tests that agree below n
pub every_same : (t u : ℕ → Bool) (n : ℕ) → ((k : ℕ) → k < n → t k ≡ u k) → every t n ≡ every u n
every_same t u n h = let d = every_decides u n in same_from_decides _ _ (every_decides t n) ((λ e k l. h k l ∙ d.0 e k l), λ f. d.1 (λ k l. sym (h k l) ∙ f k l))

-- the values at the nodes of the first n settings
pub value_take : (n : ℕ) (xs : List ℤ) (p : ℕ) → p < 2 * n → value (take n xs) p ≡ value xs p
unfolding value
value_take n xs p h = ap (signed (p % 2)) (get_or-take n xs (p / 2) (pos 0) (omega arith))

pub under_take : (l : List ℤ) (m n : ℕ) (xs : List ℤ) → n ≤ m → all_under l xs (2 * n) ≡ all_under l (take m xs) (2 * n)
unfolding all_under
under_take l m n xs g = every_same (row_under l xs (2 * n)) (row_under l (take m xs) (2 * n)) (2 * n) (λ p h. every_same _ _ (2 * n) (λ q k. let a = value_take m xs p (omega arith) in let b = value_take m xs q (omega arith) in λ i. int_le (sym a i +ℤ sym b i) (at l p q)))

-- one more bound
pub bounds_more : (f : ℕ → ℤ) (a : ℤ) (n : ℕ) → int_max (fold int_max a (map f (range_with_len 0 n))) (f n) ≡ fold int_max a (map f (range_with_len 0 (n + 1)))
bounds_more f a n = sym (ap (fold int_max a) (map-range_with_len_more f 0 n n (omega arith)) ∙ fold_push int_max a (map f (range_with_len 0 n)) (f n))

-- functions that agree below n
pub map_same : {X : Type 0} (f g : ℕ → X) (a n : ℕ) → ((k : ℕ) → k < a + n → f k ≡ g k) → map f (range_with_len a n) ≡ map g (range_with_len a n)
map_same f g a zero h = refl
map_same f g a (suc n) h = let e = h a (omega arith) in let r = map_same f g (a + 1) n (λ k l. h k (omega arith)) in λ i. e i ∷ r i

-- the greatest of the bounds over all earlier nodes is the next value
pub bounds_whole : (L : ℕ → ℕ → ℤ) (x : List ℤ) (k : ℕ) → length x ≡ k → fold int_max (low_at L k) (map (λ p. value x p -ℤ L p (2 * k + 1)) (range_with_len 0 (2 * k))) ≡ next_value L x
unfolding next_value
bounds_whole L x k e = ap (λ j. fold int_max (low_at L j) (map (λ p. value x p -ℤ L p (2 * j + 1)) (range_with_len 0 (2 * j)))) (sym e)

-- the same for the first k values of more
pub bounds_all : (L : ℕ → ℕ → ℤ) (xs : List ℤ) (k : ℕ) → k ≤ length xs → fold int_max (neg_ℤ (half (L (2 * k + 1) (2 * k + 1)))) (map (λ p. value xs p -ℤ L p (2 * k + 1)) (range_with_len 0 (2 * k))) ≡ next_value L (take k xs)
bounds_all L xs k h =
    let f : ℕ → ℤ = λ p. value xs p -ℤ L p (2 * k + 1) in
    let g : ℕ → ℤ = λ p. value (take k xs) p -ℤ L p (2 * k + 1) in
    ap (fold int_max (low_at L k)) (map_same f g 0 (2 * k) (λ p b. ap (λ z. z -ℤ L p (2 * k + 1)) (sym (value_take k xs p (omega arith))))) ∙ bounds_whole L (take k xs) k (length-take-le k xs h)

-- what has 32 bits passes, and 0 stands for the rest
narrow_ok : (z x : ℤ) → FitsSigned w32 z → x ≡ z → x ≡ narrow z
narrow_ok z x f e = grind (arith, ints)

narrow_err : (z : ℤ) → (FitsSigned w32 z → ⊥) → pos 0 ≡ narrow z
narrow_err z f = grind (arith, ints)

pub narrow_is : {E : Type 0} (z : ℤ) (r : Result ℤ E) → OkIff r (FitsSigned w32 z) z → result_unwrap_or r (pos 0) ≡ narrow z
narrow_is z (Ok x) h = narrow_ok z x h.0 h.1
narrow_is z (Err e) h = narrow_err z h

-- the values so far, gone on from, give the whole; those to come are 0
abbrev pub SoFar : (ℕ → ℕ → ℤ) → ℕ → ℕ → List ℤ → Type 0
SoFar L m k xs = (length xs ≡ 8) × (take k xs ++ least_from L (take k xs) (m - k) ≡ least_from L [] m) × (drop k xs ≡ replicate (8 - k) (pos 0))

pub so_far_none : (L : ℕ → ℕ → ℤ) (m : ℕ) → SoFar L m 0 (replicate 8 (pos 0))
so_far_none L m = (refl, ap (least_from L []) (let e : m - 0 ≡ m = omega arith in e), refl)

pub so_far_more : (L : ℕ → ℕ → ℤ) (m k : ℕ) (xs : List ℤ) (v : ℤ) → k < m → m ≤ 8 → v ≡ narrow (next_value L (take k xs)) → SoFar L m k xs → SoFar L m (k + 1) (slice_set xs k v)
unfolding least_from
so_far_more L m k xs v h b e s =
    let x = take k xs in
    let size = s.0 in
    let front : take (k + 1) (slice_set xs k v) ≡ x ++ (v ∷ []) = take_more_set xs k v (omega arith) in
    let rest : m - k ≡ suc (m - (k + 1)) = omega arith in (
      length-set xs k v ∙ s.0,
      ap (λ y. y ++ least_from L y (m - (k + 1))) front ∙ append_assoc x (v ∷ []) (least_from L (x ++ (v ∷ [])) (m - (k + 1))) ∙ ap (λ w. x ++ (w ∷ least_from L (x ++ (w ∷ [])) (m - (k + 1)))) e ∙ sym (ap (λ j. x ++ least_from L x j) rest) ∙ s.1,
      drop-set-lt (k + 1) xs k v (omega arith) ∙ sym (drop-drop 1 k xs) ∙ ap (drop 1) s.2 ∙ drop-replicate 1 (8 - k) (pos 0) ∙ ap (λ j. replicate j (pos 0)) (let z : 8 - k - 1 ≡ 8 - (k + 1) = omega arith in z),
    )

pub so_far_all : (L : ℕ → ℕ → ℤ) (m : ℕ) (xs : List ℤ) → SoFar L m m xs → xs ≡ least_from L [] m ++ replicate (8 - m) (pos 0)
unfolding least_from
so_far_all L m xs s =
    let none : m - m ≡ 0 = omega arith in
    let front : take m xs ≡ least_from L [] m = sym (append-nil (take m xs)) ∙ ap (λ j. take m xs ++ least_from L (take m xs) j) (sym none) ∙ s.1 in
    sym (take-append-drop m xs) ∙ ap (λ y. y ++ drop m xs) front ∙ ap (λ y. least_from L [] m ++ y) s.2
