-- The least point of a tight matrix: each lower bound of the next setting is at most each upper bound, so its greatest lower bound is a value, and no point has a lesser one there.
use Rattle.std.proofs.Common.{◌≡◌, ℕ, zero, suc, ◌+◌, ◌*◌, ◌/◌, ◌%◌, ◌<◌, ◌⊎◌, List, [], ◌∷◌, ◌++◌, map, length, get_or, ℤ, pos, ◌+ℤ◌, ◌-ℤ◌, neg_ℤ, ◌≤ℤ◌, sym, refl, ap, ◌∙◌, subst, inl, inr, append_assoc, arith, length-append}
use native.Mathlib.Decide.{ℕ_discrete, dec_lt}
use Rattle.std.specs.List.{range_with_len, ContainsAt as Has}
use Rattle.std.proofs.lemmas.List.FromFn.{get_or-map-range_with_len, length-map-range_with_len}
use Rattle.std.proofs.ByRecursion.{All-get_or, folded_max_z_bounds, folded_max_z_reached}
use Rattle.std.proofs.lemmas.List.{get_or_append_left, get_or_at, length_push, append-nil}
use Rattle.std.proofs.lemmas.Int.{by_lt_z}
use borrow.Author.Differences.{ints}
use Rattle.interface.specs.Nodes.{opp, value}
use Rattle.interface.specs.Numbers.{half}
use Rattle.interface.specs.Points.{NoLater}
use Rattle.octagon_theory.specs.Matrices.{TightlyClosed, Below, next_value, least_values}
use Rattle.octagon_theory.proofs.Nodes.{signed}

-- values of a point that goes on after x
module _ (x : List ℤ) where
  pub value_old : (ys : List ℤ) (p : ℕ) → p < 2 * length x → value (x ++ ys) p ≡ value x p
  unfolding value
  value_old ys p h = ap (signed (p % 2)) (get_or_append_left x ys (pos 0) (p / 2) (omega arith))

  pub value_setting : (b : ℤ) (ys : List ℤ) → value (x ++ (b ∷ ys)) (2 * length x) ≡ b
  unfolding value
  value_setting b ys =
      let e : (2 * length x) % 2 ≡ 0 = omega arith in
      ap (λ r. signed r (get_or (x ++ (b ∷ ys)) ((2 * length x) / 2) (pos 0))) e ∙ get_or_at x b ys (pos 0) ((2 * length x) / 2) (omega arith)

  pub value_negative : (b : ℤ) (ys : List ℤ) → value (x ++ (b ∷ ys)) (2 * length x + 1) ≡ neg_ℤ b
  unfolding value
  value_negative b ys =
      let e : (2 * length x + 1) % 2 ≡ 1 = omega arith in
      ap (λ r. signed r (get_or (x ++ (b ∷ ys)) ((2 * length x + 1) / 2) (pos 0))) e ∙ ap neg_ℤ (get_or_at x b ys (pos 0) ((2 * length x + 1) / 2) (omega arith))

-- the next value is a lower bound, and above each
module _ (L : ℕ → ℕ → ℤ) (x : List ℤ) where
  bound : ℕ → ℤ
  bound p = value x p -ℤ L p (2 * length x + 1)

  next_above_half : neg_ℤ (half (L (2 * length x + 1) (2 * length x + 1))) ≤ℤ next_value L x
  unfolding next_value bound
  next_above_half = (folded_max_z_bounds (neg_ℤ (half (L (2 * length x + 1) (2 * length x + 1)))) (map bound (range_with_len 0 (2 * length x))) _ refl).0

  next_above : (p : ℕ) → p < 2 * length x → (value x p -ℤ L p (2 * length x + 1)) ≤ℤ next_value L x
  unfolding next_value bound
  next_above p h =
      let xs = map bound (range_with_len 0 (2 * length x)) in
      let all = (folded_max_z_bounds (neg_ℤ (half (L (2 * length x + 1) (2 * length x + 1)))) xs _ refl).1 in
      let e : length xs ≡ 2 * length x = length-map-range_with_len bound 0 (2 * length x) in
      let f : get_or xs p (pos 0) ≡ bound p = get_or-map-range_with_len bound 0 (2 * length x) p p (pos 0) h (omega arith) in
      subst (λ z. z ≤ℤ next_value L x) f (All-get_or (λ z. z ≤ℤ next_value L x) xs p (pos 0) (omega arith) all)

  next_is : (next_value L x ≡ neg_ℤ (half (L (2 * length x + 1) (2 * length x + 1)))) ⊎ ((p : ℕ) × (p < 2 * length x) × (next_value L x ≡ (value x p -ℤ L p (2 * length x + 1))))
  unfolding next_value bound
  next_is = go (folded_max_z_reached (neg_ℤ (half (L (2 * length x + 1) (2 * length x + 1)))) (map bound (range_with_len 0 (2 * length x))) _ refl)
    where
      go : (next_value L x ≡ neg_ℤ (half (L (2 * length x + 1) (2 * length x + 1)))) ⊎ Has (map bound (range_with_len 0 (2 * length x))) (next_value L x) → (next_value L x ≡ neg_ℤ (half (L (2 * length x + 1) (2 * length x + 1)))) ⊎ ((p : ℕ) × (p < 2 * length x) × (next_value L x ≡ (value x p -ℤ L p (2 * length x + 1))))
      go (inl e) = inl e
      go (inr h) =
          let b : h.0 < 2 * length x = let c = h.1 in let e = length-map-range_with_len bound 0 (2 * length x) in omega arith in
          inr (h.0, b, sym (h.2 (pos 0)) ∙ get_or-map-range_with_len bound 0 (2 * length x) h.0 h.0 (pos 0) b (omega arith))

-- one setting more
module _ (n : ℕ) (L : ℕ → ℕ → ℤ) (K : TightlyClosed n L) (x : List ℤ) (room : length x < n) (below : Below L x) where
  a : ℕ
  a = 2 * length x

  a' : ℕ
  a' = 2 * length x + 1

  b : ℤ
  b = next_value L x

  a_on : 2 * length x < 2 * n
  a_on = omega arith

  a'_on : 2 * length x + 1 < 2 * n
  a'_on = omega arith

  a_opp : opp (2 * length x) ≡ 2 * length x + 1
  a_opp = omega arith

  a'_opp : opp (2 * length x + 1) ≡ 2 * length x
  a'_opp = omega arith

  on : (p : ℕ) → p < 2 * length x → p < 2 * n
  on p h = omega arith

  -- over the new setting's nodes
  across : (p q : ℕ) → p < 2 * n → q < 2 * n → L p q ≤ℤ (L p a +ℤ L a' q)
  unfolding a a'
  across p q h k = subst (λ r. L p q ≤ℤ (L p (2 * length x) +ℤ L r q)) a_opp (K.triangle p q (2 * length x) h k a_on)

  across' : (p q : ℕ) → p < 2 * n → q < 2 * n → L p q ≤ℤ (L p a' +ℤ L a q)
  unfolding a a'
  across' p q h k = subst (λ r. L p q ≤ℤ (L p (2 * length x + 1) +ℤ L r q)) a'_opp (K.triangle p q (2 * length x + 1) h k a'_on)

  LowerBound : Type 0
  LowerBound = (b ≡ neg_ℤ (half (L a' a'))) ⊎ ((p : ℕ) × (p < 2 * length x) × (b ≡ (value x p -ℤ L p a')))

  old_setting : (p : ℕ) → p < 2 * length x → (value x p +ℤ b) ≤ℤ L p a
  unfolding a a' b LowerBound
  old_setting p h = go (next_is L x)
    where
      go : LowerBound → (value x p +ℤ b) ≤ℤ L p a
      go (inl e) =
          let t = below p p h h in
          let u = across p p (on p h) (on p h) in
          let v = across' a' p a'_on (on p h) in
          let w = K.symmetric a p a_on (on p h) in
          let d = K.even a' a'_on in
          omega (arith, ints)
      go (inr (r, i, e)) =
          let t = below p r h i in
          let u = across p r (on p h) (on r i) in
          let w = K.symmetric a' r a'_on (on r i) in
          omega (arith, ints)

  old_negative : (p : ℕ) → p < 2 * length x → (value x p +ℤ neg_ℤ b) ≤ℤ L p a'
  unfolding a a' b
  old_negative p h = let t = next_above L x p h in omega (arith, ints)

  setting_setting : (b +ℤ b) ≤ℤ L a a
  unfolding a a' b LowerBound
  setting_setting = go (next_is L x)
    where
      go : LowerBound → (b +ℤ b) ≤ℤ L a a
      go (inl e) =
          let t = across a a' a_on a'_on in
          let o : L a a' ≡ pos 0 = subst (λ r. L a r ≡ pos 0) a_opp (K.opposite a a_on) in
          let d = K.even a' a'_on in
          omega (arith, ints)
      go (inr (r, i, e)) =
          let t = below r r i i in
          let u = across' r r (on r i) (on r i) in
          let v = across a r a_on (on r i) in
          let w = K.symmetric a' r a'_on (on r i) in
          omega (arith, ints)

  negative_negative : (neg_ℤ b +ℤ neg_ℤ b) ≤ℤ L a' a'
  unfolding a' b
  negative_negative = let t = next_above_half L x in let d = K.even a' a'_on in omega (arith, ints)

  setting_negative : (b +ℤ neg_ℤ b) ≤ℤ L a a'
  unfolding a a'
  setting_negative = let o : L a a' ≡ pos 0 = subst (λ r. L a r ≡ pos 0) a_opp (K.opposite a a_on) in omega (arith, ints)

  y : List ℤ
  y = x ++ (next_value L x ∷ [])

  -- each node of the longer point: where it lies, and its value
  data Seen (p : ℕ) : Type 0 where
    before : p < 2 * length x → value y p ≡ value x p → Seen p
    up : p ≡ a → value y p ≡ b → Seen p
    down : p ≡ a' → value y p ≡ neg_ℤ b → Seen p

  seen_by : (p : ℕ) → p < 2 * (length x + 1) → Dec (p < 2 * length x) → Dec (p ≡ 2 * length x) → Seen p
  unfolding y a a' b
  seen_by p h (yes k) e = before k (value_old x (next_value L x ∷ []) p k)
  seen_by p h (no k) (yes e) = up e (ap (value y) e ∙ value_setting x (next_value L x) [])
  seen_by p h (no k) (no e) = let f : p ≡ 2 * length x + 1 = omega arith in down f (ap (value y) f ∙ value_negative x (next_value L x) [])

  seen : (p : ℕ) → p < 2 * (length x + 1) → Seen p
  seen p h = seen_by p h (dec_lt p (2 * length x)) (ℕ_discrete p (2 * length x))

  pair : (p q : ℕ) → Seen p → Seen q → (value y p +ℤ value y q) ≤ℤ L p q
  unfolding a a'
  pair p q (before h e) (before k f) = let t = below p q h k in omega (arith, ints)
  pair p q (before h e) (up k f) = let t = old_setting p h in let g = ap (L p) k in omega (arith, ints)
  pair p q (before h e) (down k f) = let t = old_negative p h in let g = ap (L p) k in omega (arith, ints)
  pair p q (up h e) (before k f) = let t = old_setting q k in let g = ap (λ r. L r q) h in let s = K.symmetric a q a_on (on q k) in omega (arith, ints)
  pair p q (up h e) (up k f) = let t = setting_setting in let g = ap (L p) k in let i = ap (λ r. L r a) h in omega (arith, ints)
  pair p q (up h e) (down k f) = let t = setting_negative in let g = ap (L p) k in let i = ap (λ r. L r a') h in omega (arith, ints)
  pair p q (down h e) (before k f) = let t = old_negative q k in let g = ap (λ r. L r q) h in let s = K.symmetric a' q a'_on (on q k) in omega (arith, ints)
  pair p q (down h e) (up k f) = let t = setting_negative in let g = ap (L p) k in let i = ap (λ r. L r a) h in let s = K.symmetric a a' a_on a'_on in omega (arith, ints)
  pair p q (down h e) (down k f) = let t = negative_negative in let g = ap (L p) k in let i = ap (λ r. L r a') h in omega (arith, ints)

  pub extended : Below L (x ++ (next_value L x ∷ []))
  unfolding y
  extended p q h k = let l = length_push x (next_value L x) in pair p q (seen p (omega arith)) (seen q (omega arith))

-- no point below the matrix that begins with x goes on with a lesser value
pub next_least : (n : ℕ) (L : ℕ → ℕ → ℤ) (K : TightlyClosed n L) (x : List ℤ) → length x < n → (z : ℤ) (zs : List ℤ) → Below L (x ++ (z ∷ zs)) → next_value L x ≤ℤ z
next_least n L K x room z zs below = go (next_is L x)
  where
    a' : ℕ
    a' = 2 * length x + 1

    size : length (x ++ (z ∷ zs)) ≡ length x + suc (length zs)
    size = length-append x (z ∷ zs)

    on : a' < 2 * length (x ++ (z ∷ zs))
    on = omega (arith, size)

    go : (next_value L x ≡ neg_ℤ (half (L (2 * length x + 1) (2 * length x + 1)))) ⊎ ((p : ℕ) × (p < 2 * length x) × (next_value L x ≡ (value x p -ℤ L p (2 * length x + 1)))) → next_value L x ≤ℤ z
    go (inl e) =
        let t = below a' a' on on in
        let v = value_negative x z zs in
        let d = K.even a' (omega arith) in
        omega (arith, ints)
    go (inr (r, i, e)) =
        let t = below r a' (omega (arith, size)) on in
        let v = value_negative x z zs in
        let w = value_old x (z ∷ zs) r i in
        omega (arith, ints)

pub length_least_values : (L : ℕ → ℕ → ℤ) (x : List ℤ) (m : ℕ) → length (least_values L x m) ≡ m
unfolding least_values
length_least_values L x zero = refl
length_least_values L x (suc m) = ap suc (length_least_values L (x ++ (next_value L x ∷ [])) m)

module _ (n : ℕ) (L : ℕ → ℕ → ℤ) (K : TightlyClosed n L) where
  -- going on by the least values stays below the matrix
  pub least_below : (m : ℕ) (x : List ℤ) → length x + m ≡ n → Below L x → Below L (x ++ least_values L x m)
  unfolding least_values
  least_below zero x e h = subst (Below L) (sym (append-nil x)) h
  least_below (suc m) x e h =
      let l = length_push x (next_value L x) in
      subst (Below L) (append_assoc x (next_value L x ∷ []) (least_values L (x ++ (next_value L x ∷ [])) m)) (least_below m (x ++ (next_value L x ∷ [])) (omega arith) (extended n L K x (omega arith) h))

  -- and no other way to go on comes before it
  pub least_no_later : (m : ℕ) (x zs : List ℤ) → length x + m ≡ n → length zs ≡ m → Below L (x ++ zs) → NoLater (least_values L x m) zs
  unfolding least_values
  least_no_later zero x zs e l h = tt
  least_no_later (suc m) x [] e l h = absurd (omega arith)
  least_no_later (suc m) x (z ∷ zs) e l h = by_lt_z (next_value L x) z (λ k. inl k) (λ k.
      let i = next_least n L K x (omega arith) z zs h in
      let same : next_value L x ≡ z = omega (arith, ints) in
      let s = length_push x (next_value L x) in
      inr (
        same,
        least_no_later m (x ++ (next_value L x ∷ [])) zs (omega arith) (omega arith)
            (subst (Below L) (ap (λ w. x ++ (w ∷ zs)) (sym same) ∙ sym (append_assoc x (next_value L x ∷ []) zs)) h),
      ))
