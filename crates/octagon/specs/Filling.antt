-- A row that is lowered place by place, and a matrix row by row. Assumes nothing.
use Rattle.std.specs.Prelude.{◌≡◌, ℕ, ◌+◌, ◌*◌, ◌/◌, ◌%◌, ◌<◌, ◌≤◌, min, cond, ◌&&◌, ◌⊎◌, List, length, get_or, ℤ, pos, ◌==◌, ◌≢◌, nat_lt, slice_index_or, slice_set}
use Rattle.std.specs.Int.{int_min}
use Rattle.interface.specs.Numbers.{half}
use Rattle.octagon.specs.Crossings.{crossing, shortest_by, half_by, joined_by}
use Rattle.std.proofs.Common.{inl, inr, ◌∙◌, arith}
use Rattle.std.proofs.Math.Path.{sym, ap}
use Rattle.std.proofs.lemmas.List.FromFn.{fill_by_all, get_or-map-range_with_len, length-map-range_with_len}
use Rattle.std.proofs.lemmas.List.{get_or-set_same, get_or-set_other}
use Rattle.std.proofs.lemmas.Bool.{cases_eq, cases_lt, lt-ltb, le-ltb, eq-eqb, ne_eqb, cond-true, cond-false, and_from, and_left, and_right}
use Rattle.std.proofs.lemmas.Bool.Decides.{nat_tests}
use Rattle.octagon.specs.Entries.{plus, at, listed, tabled, way, over_cut, halved, lowered_entry, lowered, RowLowered, RowsLowered}

pub getD_listed : (f : ℕ → ℤ) (m i : ℕ) → i < m → slice_index_or (listed f m) i (pos 0) ≡ f i
unfolding listed
getD_listed f m i h = get_or-map-range_with_len f 0 m i i (pos 0) h (omega arith)

pub length_tabled : (f : ℕ → ℕ → ℤ) → length (tabled f) ≡ 256
unfolding listed
length_tabled f = length-map-range_with_len (λ k. f (k / 16) (k % 16)) 0 256

pub at_tabled : (f : ℕ → ℕ → ℤ) (p q : ℕ) → p < 16 → q < 16 → at (tabled f) p q ≡ f p q
unfolding listed
at_tabled f p q h k =
    let d : (16 * p + q) / 16 ≡ p = omega arith in
    let r : (16 * p + q) % 16 ≡ q = omega arith in
    get_or-map-range_with_len (λ k. f (k / 16) (k % 16)) 0 256 (16 * p + q) (16 * p + q) (pos 0) (omega arith) (omega arith) ∙ ap (λ x. f x ((16 * p + q) % 16)) d ∙ ap (f p) r

pub tabled_from : (f : ℕ → ℕ → ℤ) (xs : List ℤ) → length xs ≡ 256 → ((p q : ℕ) → p < 16 → q < 16 → at xs p q ≡ f p q) → xs ≡ tabled f
unfolding listed
tabled_from f xs e h = fill_by_all (λ k. f (k / 16) (k % 16)) xs 256 (pos 0) e (λ k b. (let s : 16 * (k / 16) + k % 16 ≡ k = omega arith in ap (λ t. get_or xs t (pos 0)) (sym s)) ∙ h (k / 16) (k % 16) (omega arith) (omega arith))

-- one more place of row i
pub row_more : (f : ℕ → ℤ → ℤ) (xs before : List ℤ) (i j : ℕ) (v : ℤ) → length xs ≡ 256 → i < 16 → j < 16 → RowLowered xs before i j f → v ≡ f j (at xs i j) → RowLowered (slice_set xs (16 * i + j) v) before i (j + 1) f
row_more f xs before i j v e a b h s p q k l = by (cases_eq p i) (cases_eq q j)
  where
    by : (p ≡ i) ⊎ (p ≢ i) → (q ≡ j) ⊎ (q ≢ j) → at (slice_set xs (16 * i + j) v) p q ≡ cond (p == i && nat_lt q (j + 1)) (f q (at before p q)) (at before p q)
    by (inl r) (inl t) =
        let here : 16 * p + q ≡ 16 * i + j = omega arith in
        let old : at xs i j ≡ at before i j = h i j a b ∙ cond-false (i == i && nat_lt j j) _ _ (and_right (i == i) (nat_lt j j) (le-ltb j j (omega arith))) in
        ap (λ k. get_or (slice_set xs (16 * i + j) v) k (pos 0)) here ∙ get_or-set_same xs (16 * i + j) v (pos 0) (omega arith) ∙ s ∙ ap (f j) old ∙ sym (ap (λ x. f x (at before p x)) t ∙ ap (λ x. f j (at before x j)) r) ∙ sym (cond-true (p == i && nat_lt q (j + 1)) _ _ (and_from (p == i) (nat_lt q (j + 1)) (eq-eqb p i r) (lt-ltb q (j + 1) (omega arith))))
    by (inl r) (inr t) = get_or-set_other xs (16 * i + j) (16 * p + q) v (pos 0) (λ z. t (omega arith)) ∙ h p q k l ∙ ap (λ z. cond (p == i && z) (f q (at before p q)) (at before p q)) (grind (arith, nat_tests))
    by (inr r) t = get_or-set_other xs (16 * i + j) (16 * p + q) v (pos 0) (λ z. r (omega arith)) ∙ h p q k l ∙ cond-false _ _ _ (and_left _ _ (ne_eqb p i r)) ∙ sym (cond-false _ _ _ (and_left _ _ (ne_eqb p i r)))

-- one more row
module _ (before : List ℤ) (a b : ℕ) (c : ℤ) where
  pub rows_none : (m : ℕ) → RowsLowered before before a b c 0 m
  rows_none m p q k l = sym (cond-false _ _ _ (and_left (nat_lt p 0) (nat_lt q m) (le-ltb p 0 (omega arith))))

  pub rows_more : (xs ys : List ℤ) (i m : ℕ) (f : ℕ → ℤ → ℤ) → ((q : ℕ) → q < 16 → f q (at before i q) ≡ lowered_entry before a b c i q) → RowsLowered xs before a b c i m → RowLowered ys xs i m f → RowsLowered ys before a b c (i + 1) m
  rows_more xs ys i m f says done row p q k l = by (cases_eq p i) (cases_lt q m)
    where
      by : (p ≡ i) ⊎ (p ≢ i) → (q < m) ⊎ (m ≤ q) → at ys p q ≡ cond (nat_lt p (i + 1) && nat_lt q m) (lowered_entry before a b c p q) (at before p q)
      by (inl r) (inl u) =
          let old : at xs p q ≡ at before p q = done p q k l ∙ cond-false _ _ _ (and_left (nat_lt p i) (nat_lt q m) (le-ltb p i (omega arith))) in
          row p q k l ∙ cond-true (p == i && nat_lt q m) _ _ (and_from _ _ (eq-eqb p i r) (lt-ltb q m u)) ∙ ap (f q) (old ∙ ap (λ x. at before x q) r) ∙ says q l ∙ ap (λ x. lowered_entry before a b c x q) (sym r) ∙ sym (cond-true (nat_lt p (i + 1) && nat_lt q m) _ _ (and_from _ _ (lt-ltb p (i + 1) (omega arith)) (lt-ltb q m u)))
      by (inl r) (inr u) =
          row p q k l ∙ cond-false (p == i && nat_lt q m) _ _ (and_right (p == i) (nat_lt q m) (le-ltb q m u)) ∙ done p q k l ∙ cond-false _ _ _ (and_right (nat_lt p i) (nat_lt q m) (le-ltb q m u)) ∙ sym (cond-false _ _ _ (and_right (nat_lt p (i + 1)) (nat_lt q m) (le-ltb q m u)))
      by (inr r) u =
          row p q k l ∙ cond-false (p == i && nat_lt q m) _ _ (and_left (p == i) (nat_lt q m) (ne_eqb p i r)) ∙ done p q k l ∙ ap (λ z. cond (z && nat_lt q m) (lowered_entry before a b c p q) (at before p q)) (grind (arith, nat_tests))

  -- what is read off before the cut gives the entry that it leaves
  crossing_is : (i j : ℕ) (e : ℤ) → i < 16 → j < 16 → shortest_by (crossing before a b c) e i j ≡ int_min e (over_cut (way before a b c i) (at before b j) (way before b a c i) (at before a j))
  crossing_is i j e g h = let x = getD_listed (way before a b c) 16 i g in let y = getD_listed (at before b) 16 j h in let z = getD_listed (way before b a c) 16 i g in let w = getD_listed (at before a) 16 j h in λ t. int_min e (over_cut (x t) (y t) (z t) (w t))

  half_is : (i : ℕ) → i < 16 → slice_index_or (listed (half_by (crossing before a b c) before) 16) i (pos 0) ≡ halved before a b c i
  half_is i h = getD_listed (half_by (crossing before a b c) before) 16 i h ∙ ap half (crossing_is i i (at before i i) h h)

  pub joined_is : (i j : ℕ) → i < 16 → j < 16 → joined_by (crossing before a b c) (listed (half_by (crossing before a b c) before) 16) i j (at before i j) ≡ lowered_entry before a b c i j
  unfolding lowered_entry
  joined_is i j g h = let x = crossing_is i j (at before i j) g h in let y = half_is i g in let z = half_is j h in λ t. int_min (x t) (plus (y t) (z t))

  pub rows_all : (n : ℕ) (xs : List ℤ) → length xs ≡ 256 → RowsLowered xs before a b c (min 16 (2 * n)) (min 16 (2 * n)) → xs ≡ lowered n before a b c
  unfolding lowered
  rows_all n xs e done = tabled_from (λ i j. cond (nat_lt i (2 * n) && nat_lt j (2 * n)) (lowered_entry before a b c i j) (at before i j)) xs e (λ p q k l. done p q k l ∙ ap (λ z. cond (z && nat_lt q (min 16 (2 * n))) (lowered_entry before a b c p q) (at before p q)) (line p k) ∙ ap (λ z. cond (nat_lt p (2 * n) && z) (lowered_entry before a b c p q) (at before p q)) (line q l))
    where
      line : (p : ℕ) → p < 16 → nat_lt p (min 16 (2 * n)) ≡ nat_lt p (2 * n)
      line p h = by (cases_lt p (2 * n))
        where
          by : (p < 2 * n) ⊎ (2 * n ≤ p) → nat_lt p (min 16 (2 * n)) ≡ nat_lt p (2 * n)
          by (inl k) = lt-ltb p (min 16 (2 * n)) (omega arith) ∙ sym (lt-ltb p (2 * n) k)
          by (inr k) = le-ltb p (min 16 (2 * n)) (omega arith) ∙ sym (le-ltb p (2 * n) k)
