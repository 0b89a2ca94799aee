-- Chains: the form that computes is the least sum; where no chain to the opposite node is below 0, longer chains are no lower, so the least sums are closed.
use Rattle.std.proofs.Common.{◌≡◌, ℕ, zero, suc, ◌+◌, ◌-◌, ◌*◌, ◌<◌, ◌≤◌, ◌⊎◌, List, [], ◌∷◌, ◌++◌, map, length, get_or, ℤ, pos, ◌+ℤ◌, ◌≤ℤ◌, sym, refl, ap, ◌∙◌, subst, inl, inr, arith, length-append}
use native.Mathlib.Decide.{ℕ_discrete}
use Rattle.std.specs.List.{range_with_len, ContainsAt as Has, AllByRecursion}
use Rattle.std.proofs.lemmas.List.FromFn.{get_or-map-range_with_len, length-map-range_with_len}
use Rattle.std.proofs.ByRecursion.{All-get_or, All-append, folded_min_z_bounds, folded_min_z_reached}
use borrow.Author.Differences.{ints}
use Rattle.interface.specs.Nodes.{opp}
use Rattle.octagon_theory.specs.Limits.{chain_sum, Between, LeastSum, least_upto}
use Rattle.octagon_theory.proofs.Nodes.{opp_opp, opp_below}
use Rattle.octagon_theory.proofs.Pigeonhole.{pigeonhole}

-- a chain of two parts that meet at the node a
pub chain_split : (T : ℕ → ℕ → ℤ) (p : ℕ) (before : List ℕ) (a : ℕ) (after : List ℕ) (q : ℕ) → chain_sum T p (before ++ (a ∷ after)) q ≡ (chain_sum T p before a +ℤ chain_sum T (opp a) after q)
chain_split T p [] a after q = refl
chain_split T p (r ∷ rs) a after q = let e = chain_split T (opp r) rs a after q in omega (arith, ints)

pub all_parts : {X : Type 0} (P : X → Type 0) (xs ys : List X) → AllByRecursion P (xs ++ ys) → AllByRecursion P xs × AllByRecursion P ys
all_parts P [] ys h = (tt, h)
all_parts P (x ∷ xs) ys h = let r = all_parts P xs ys h.1 in ((h.0, r.0), r.1)

-- z is the sum of a chain from p to q with at most m nodes between
abbrev SomeChain : ℕ → (ℕ → ℕ → ℤ) → ℕ → ℕ → ℕ → ℤ → Type 0
SomeChain n T m p q z = (rs : List ℕ) × (length rs ≤ m) × AllByRecursion (λ r. r < 2 * n) rs × (chain_sum T p rs q ≡ z)

module _ (n : ℕ) (T : ℕ → ℕ → ℤ) where
  -- the sums by way of each node
  over : ℕ → ℕ → ℕ → ℕ → ℤ
  over m p q r = T p r +ℤ least_upto n T m (opp r) q

  upto_lowest : (m p q : ℕ) (rs : List ℕ) → length rs ≤ m → AllByRecursion (λ r. r < 2 * n) rs → least_upto n T m p q ≤ℤ chain_sum T p rs q
  unfolding least_upto over
  upto_lowest zero p q [] s k = omega (arith, ints)
  upto_lowest zero p q (r ∷ rs) s k = absurd (omega arith)
  upto_lowest (suc m) p q [] s k =
      let a = (folded_min_z_bounds (least_upto n T m p q) (map (over m p q) (range_with_len 0 (2 * n))) _ refl).0 in
      let b = upto_lowest m p q [] (omega arith) tt in
      omega (arith, ints)
  upto_lowest (suc m) p q (r ∷ rs) s k =
      let z = least_upto n T (suc m) p q in
      let xs = map (over m p q) (range_with_len 0 (2 * n)) in
      let a = (folded_min_z_bounds (least_upto n T m p q) xs z refl).1 in
      let f : length xs ≡ 2 * n = length-map-range_with_len (over m p q) 0 (2 * n) in
      let h : r < 2 * n = k.0 in
      let c : z ≤ℤ get_or xs r (pos 0) = All-get_or (λ x. z ≤ℤ x) xs r (pos 0) (omega arith) a in
      let g : get_or xs r (pos 0) ≡ over m p q r = get_or-map-range_with_len (over m p q) 0 (2 * n) r r (pos 0) h (omega arith) in
      let b = upto_lowest m (opp r) q rs (omega arith) k.1 in
      omega (arith, ints)

  upto_reached : (m p q : ℕ) → SomeChain n T m p q (least_upto n T m p q)
  unfolding least_upto over
  upto_reached zero p q = ([], omega arith, tt, refl)
  upto_reached (suc m) p q = go (folded_min_z_reached (least_upto n T m p q) (map (over m p q) (range_with_len 0 (2 * n))) _ refl) (upto_reached m p q) (λ r. upto_reached m (opp r) q)
    where
      go : (least_upto n T (suc m) p q ≡ least_upto n T m p q) ⊎ Has (map (over m p q) (range_with_len 0 (2 * n))) (least_upto n T (suc m) p q) → SomeChain n T m p q (least_upto n T m p q) → ((r : ℕ) → SomeChain n T m (opp r) q (least_upto n T m (opp r) q)) → SomeChain n T (suc m) p q (least_upto n T (suc m) p q)
      go (inl e) x f = let s = x.1 in (x.0, omega arith, x.2, x.3 ∙ sym e)
      go (inr h) x f =
          let r = h.0 in
          let y = f r in
          let s = y.1 in
          let b : r < 2 * n = let c = h.1 in let e = length-map-range_with_len (over m p q) 0 (2 * n) in omega arith in
          let g : get_or (map (over m p q) (range_with_len 0 (2 * n))) r (pos 0) ≡ over m p q r = get_or-map-range_with_len (over m p q) 0 (2 * n) r r (pos 0) b (omega arith) in
          (r ∷ y.0, omega arith, (b, y.2), ap (λ z. T p r +ℤ z) y.3 ∙ sym g ∙ h.2 (pos 0))

  -- the form that computes is the least sum
  pub least_is : (p q : ℕ) → 0 < n → LeastSum n T p q (least_upto n T (2 * n - 1) p q)
  least_is p q h = record {
    lowest = λ rs b. let s = b.0 in upto_lowest (2 * n - 1) p q rs (omega arith) b.1;
    reached = let r = upto_reached (2 * n - 1) p q in (r.0, (let s = r.1 in omega arith, r.2), r.3);
  }

module _ (n : ℕ) (T : ℕ → ℕ → ℤ) (C : ℕ → ℕ → ℤ) (least : (p q : ℕ) → LeastSum n T p q (C p q)) (good : (p : ℕ) → p < 2 * n → pos 0 ≤ℤ C p (opp p)) where
  -- the first node comes back: what lies before its return is a chain to the opposite node, and can be left out
  return_out : (p q : ℕ) (inner after : List ℕ) → p < 2 * n → Between n inner → Between n after → C p q ≤ℤ chain_sum T p (inner ++ (opp p ∷ after)) q
  return_out p q inner after h i j =
      let e = chain_split T p inner (opp p) after q in
      let f = ap (λ x. chain_sum T x after q) (opp_opp p) in
      let a = (least p (opp p)).lowest inner i in
      let b = (least p q).lowest after j in
      let c = good p h in
      omega (arith, ints)

  -- a node between comes back: likewise
  loop_out : (p q : ℕ) (before : List ℕ) (a : ℕ) (inner after : List ℕ) → a < 2 * n → Between n inner → Between n (before ++ (a ∷ after)) → C p q ≤ℤ chain_sum T p (before ++ (a ∷ (inner ++ (a ∷ after)))) q
  loop_out p q before a inner after h i j =
      let e = chain_split T p before a (inner ++ (a ∷ after)) q in
      let f = chain_split T (opp a) inner a after q in
      let g = chain_split T p before a after q in
      let b : C (opp a) (opp (opp a)) ≤ℤ chain_sum T (opp a) inner a = subst (λ x. C (opp a) (opp (opp a)) ≤ℤ chain_sum T (opp a) inner x) (opp_opp a) ((least (opp a) (opp (opp a))).lowest inner i) in
      let c = good (opp a) (opp_below n a h) in
      let d = (least p q).lowest (before ++ (a ∷ after)) j in
      omega (arith, ints)

  -- a chain with 2n nodes between, of which one comes back
  shortened : (p q : ℕ) (rs before : List ℕ) (a : ℕ) (inner after : List ℕ) → p < 2 * n → AllByRecursion (λ r. r < 2 * n) rs → length rs ≡ 2 * n → opp p ∷ rs ≡ before ++ (a ∷ (inner ++ (a ∷ after))) → C p q ≤ℤ chain_sum T p rs q
  shortened p q rs [] a inner after h k s e =
      let a-is : a ≡ opp p = cc in
      let rs-is : rs ≡ inner ++ (opp p ∷ after) = let t : rs ≡ inner ++ (a ∷ after) = cc in t ∙ ap (λ x. inner ++ (x ∷ after)) a-is in
      let on = all_parts (λ r. r < 2 * n) inner (opp p ∷ after) (subst (λ xs. AllByRecursion (λ r. r < 2 * n) xs) rs-is k) in
      let size : length inner + length (opp p ∷ after) ≡ 2 * n = sym (length-append inner (opp p ∷ after)) ∙ sym (ap length rs-is) ∙ s in
      subst (λ xs. C p q ≤ℤ chain_sum T p xs q) (sym rs-is) (return_out p q inner after h (omega arith, on.0) (omega arith, on.1.1))
  shortened p q rs (b ∷ before) a inner after h k s e =
      let rs-is : rs ≡ before ++ (a ∷ (inner ++ (a ∷ after))) = cc in
      let on = all_parts (λ r. r < 2 * n) before (a ∷ (inner ++ (a ∷ after))) (subst (λ xs. AllByRecursion (λ r. r < 2 * n) xs) rs-is k) in
      let on' = all_parts (λ r. r < 2 * n) inner (a ∷ after) on.1.1 in
      let size : length before + suc (length inner + length (a ∷ after)) ≡ 2 * n = ap (λ x. length before + suc x) (sym (length-append inner (a ∷ after))) ∙ sym (length-append before (a ∷ (inner ++ (a ∷ after)))) ∙ sym (ap length rs-is) ∙ s in
      let l = length-append before (a ∷ after) in
      subst (λ xs. C p q ≤ℤ chain_sum T p xs q) (sym rs-is) (loop_out p q before a inner after on.1.0 (omega arith, on'.0) (omega arith, All-append (λ r. r < 2 * n) before (a ∷ after) on.0 (on.1.0, on'.1.1)))

  one_more : (p q : ℕ) (rs : List ℕ) → p < 2 * n → AllByRecursion (λ r. r < 2 * n) rs → length rs ≤ 2 * n → Dec (length rs ≡ 2 * n) → C p q ≤ℤ chain_sum T p rs q
  one_more p q rs h k s (no d) = (least p q).lowest rs (omega arith, k)
  one_more p q rs h k s (yes e) =
      let r = pigeonhole (2 * n) (opp p ∷ rs) (opp_below n p h, k) (omega arith) in
      shortened p q rs r.before r.again r.inner r.after h k e r.whole

  -- no chain of the line's nodes, however long, is lower
  pub any_length : (rs : List ℕ) (p q : ℕ) → p < 2 * n → AllByRecursion (λ r. r < 2 * n) rs → C p q ≤ℤ chain_sum T p rs q
  any_length [] p q h k = (least p q).lowest [] (omega arith, tt)
  any_length (r ∷ rs) p q h k =
      let i = any_length rs (opp r) q (opp_below n r k.0) k.1 in
      let best = (least (opp r) q).reached in
      let s = best.1.0 in
      let m = one_more p q (r ∷ best.0) h (k.0, best.1.1) (omega arith) (ℕ_discrete (length (r ∷ best.0)) (2 * n)) in
      let e = best.2 in
      omega (arith, ints)

  pub least_triangle : (p q r : ℕ) → p < 2 * n → r < 2 * n → C p q ≤ℤ (C p r +ℤ C (opp r) q)
  least_triangle p q r h k =
      let a = (least p r).reached in
      let b = (least (opp r) q).reached in
      let m = any_length (a.0 ++ (r ∷ b.0)) p q h (All-append (λ r. r < 2 * n) a.0 (r ∷ b.0) a.1.1 (k, b.1.1)) in
      let e = chain_split T p a.0 r b.0 q in
      let f = a.2 in
      let g = b.2 in
      omega (arith, ints)

-- the chain read from its other end
mirror : List ℕ → List ℕ
mirror [] = []
mirror (r ∷ rs) = mirror rs ++ (opp r ∷ [])

length_mirror : (rs : List ℕ) → length (mirror rs) ≡ length rs
unfolding mirror
length_mirror [] = refl
length_mirror (r ∷ rs) = let e = length-append (mirror rs) (opp r ∷ []) in let f = length_mirror rs in omega arith

all_mirror : (n : ℕ) (rs : List ℕ) → AllByRecursion (λ r. r < 2 * n) rs → AllByRecursion (λ r. r < 2 * n) (mirror rs)
unfolding mirror
all_mirror n [] k = tt
all_mirror n (r ∷ rs) k = All-append (λ r. r < 2 * n) (mirror rs) (opp r ∷ []) (all_mirror n rs k.1) (opp_below n r k.0, tt)

chain_mirror : (T : ℕ → ℕ → ℤ) → ((p q : ℕ) → T p q ≡ T q p) → (p : ℕ) (rs : List ℕ) (q : ℕ) → chain_sum T q (mirror rs) p ≡ chain_sum T p rs q
unfolding mirror
chain_mirror T s p [] q = s q p
chain_mirror T s p (r ∷ rs) q =
    let e = chain_split T q (mirror rs) (opp r) [] p in
    let f = chain_mirror T s (opp r) rs q in
    let g = ap (λ x. T x p) (opp_opp r) in
    let t = s r p in
    omega (arith, ints)

module _ (n : ℕ) (T : ℕ → ℕ → ℤ) (s : (p q : ℕ) → T p q ≡ T q p) (C : ℕ → ℕ → ℤ) (least : (p q : ℕ) → LeastSum n T p q (C p q)) where
  no_higher : (p q : ℕ) → C p q ≤ℤ C q p
  no_higher p q =
      let a = (least q p).reached in
      let l = length_mirror a.0 in
      let k = a.1.0 in
      let b = (least p q).lowest (mirror a.0) (omega arith, all_mirror n a.0 a.1.1) in
      let e = chain_mirror T s q a.0 p in
      let f = a.2 in
      omega (arith, ints)

  pub least_symmetric : (p q : ℕ) → C p q ≡ C q p
  least_symmetric p q = let a = no_higher p q in let b = no_higher q p in omega (arith, ints)
