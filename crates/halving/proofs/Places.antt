-- The best place so far, taken to the end of the list, is the first widest. Assumes nothing.
use Rattle.std.proofs.Common.{◌≡◌, ℕ, zero, suc, ◌+◌, ◌<◌, ◌≤◌, Bool, leb, List, length, get_or, sym, subst, ⊎_elim, add-one, arith}
use Rattle.std.specs.List.{list_all}
use Rattle.std.proofs.lemmas.Bool.{le-leb, lt-leb, cases_lt}
use Rattle.std.proofs.lemmas.List.Folds.{list_all_at}
use Rattle.std.proofs.lemmas.List.Sums.{position_or_len_is}
use Rattle.halving.specs.Halvings.{widest_of}
use Rattle.halving.proofs.First.{all_decides}

-- of the first i places none is wider than k, and each before k is narrower
abbrev pub Widest : List ℕ → ℕ → ℕ → Type 0
Widest ws i k = (k < length ws) × ((j : ℕ) → j < i → get_or ws j 0 ≤ get_or ws k 0) × ((j : ℕ) → j < k → get_or ws j 0 < get_or ws k 0)

-- one more place, which is the widest or not
widest_keeps : (ws : List ℕ) (i k : ℕ) → Widest ws i k → get_or ws i 0 ≤ get_or ws k 0 → Widest ws (i + 1) k
widest_keeps ws i k w h = (w.0, (λ j l. ⊎_elim (λ (q : j < i). w.1 j q) (λ (q : i ≤ j). subst (λ x. get_or ws x 0 ≤ get_or ws k 0) (omega arith) h) (cases_lt j i)), w.2)

widest_takes : (ws : List ℕ) (i k : ℕ) → Widest ws i k → i < length ws → get_or ws k 0 < get_or ws i 0 → Widest ws (i + 1) i
widest_takes ws i k w l h = widest_keeps ws i i (l, (λ j q. omega (arith, w.1 j q)), λ j q. omega (arith, w.1 j q)) (omega arith)

pub widest_all : (ws : List ℕ) (k : ℕ) → Widest ws (length ws) k → k ≡ widest_of ws
unfolding widest_of
widest_all ws k w =
    let not_above : ℕ → ℕ → Bool = λ b v. leb v b in
    sym (position_or_len_is (λ b. list_all (not_above b) ws) ws k 0 (omega (arith, w.0)) (λ j l. list_all_at (not_above (get_or ws j 0)) ws k 0 w.0 (lt-leb (get_or ws k 0) (get_or ws j 0) (w.2 j l))) (λ _. (all_decides (not_above (get_or ws k 0)) ws).1 (λ j l. le-leb (get_or ws j 0) (get_or ws k 0) (w.1 j l))))

widest_first : (ws : List ℕ) (i : ℕ) → i < length ws → (k : ℕ) × Widest ws (i + 1) k
widest_first ws zero l = (0, widest_keeps ws 0 0 (l, (λ j q. absurd (omega arith)), λ j q. absurd (omega arith)) (omega arith))
widest_first ws (suc i) l =
    let r = widest_first ws i (omega arith) in
    let w : Widest ws (suc i) r.0 = subst (λ x. Widest ws x r.0) (add-one i) r.1 in
    ⊎_elim (λ (h : get_or ws r.0 0 < get_or ws (suc i) 0). (suc i, widest_takes ws (suc i) r.0 w l h)) (λ (h : get_or ws (suc i) 0 ≤ get_or ws r.0 0). (r.0, widest_keeps ws (suc i) r.0 w h)) (cases_lt (get_or ws r.0 0) (get_or ws (suc i) 0))

-- a list that is not empty has a widest place
pub widest_is : (ws : List ℕ) (i : ℕ) → length ws ≡ suc i → Widest ws (length ws) (widest_of ws)
widest_is ws i e =
    let r = widest_first ws i (omega arith) in
    let w : Widest ws (length ws) r.0 = subst (λ x. Widest ws x r.0) (omega arith) r.1 in
    subst (Widest ws (length ws)) (widest_all ws r.0 w) w
