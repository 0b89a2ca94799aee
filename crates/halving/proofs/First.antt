-- What a test of the numbers below n says, and what the first of them that passes is known by. Assumes nothing.
use Rattle.std.proofs.Common.{◌≡◌, ℕ, ◌+◌, ◌<◌, ◌≤◌, Bool, true, false, ◌&&◌, Decides, List, length, get_or, not, sym, ◌∙◌, subst, arith}
use Rattle.std.specs.List.{range_with_len, list_all}
use borrow.Author.Count.{below_more}
use Rattle.std.proofs.lemmas.Bool.Decides.{same_from_decides, Decides-like, Decides-and}
use Rattle.std.proofs.lemmas.List.Elements.{All-from_get_or}
use Rattle.std.proofs.lemmas.List.FromFn.{length-range_with_len, get_or-range_with_len}
use Rattle.std.proofs.lemmas.List.Sums.{AllPass-from_list_all, list_all-from_AllPass, prefix_len-le-length, fails_before_first, passes_at_first}
use Rattle.halving.specs.First.{every, first_below}

pub all_decides : (t : ℕ → Bool) (xs : List ℕ) → Decides (list_all t xs) ((k : ℕ) → k < length xs → t (get_or xs k 0) ≡ true)
all_decides t xs = ((λ e k h. AllPass-from_list_all t xs e k 0 h), λ h. list_all-from_AllPass t xs (All-from_get_or (λ x. t x ≡ true) xs 0 h))

-- what t says of the number at place k
at_place : (t : ℕ → Bool) (n k : ℕ) (b : Bool) → k < n → t (get_or (range_with_len 0 n) k 0) ≡ b → t k ≡ b
at_place t n k b h e = subst (λ x. t x ≡ b) (get_or-range_with_len 0 n k 0 h ∙ omega arith) e

at_number : (t : ℕ → Bool) (n k : ℕ) (b : Bool) → k < n → t k ≡ b → t (get_or (range_with_len 0 n) k 0) ≡ b
at_number t n k b h e = subst (λ x. t x ≡ b) (sym (get_or-range_with_len 0 n k 0 h ∙ omega arith)) e

pub every_decides : (t : ℕ → Bool) (n : ℕ) → Decides (every t n) ((k : ℕ) → k < n → t k ≡ true)
every_decides t n =
    let d = all_decides t (range_with_len 0 n) in
    let l = length-range_with_len 0 n in
    ((λ e k h. at_place t n k true h (d.0 e k (omega arith))), λ h. d.1 (λ k b. at_number t n k true (omega arith) (h k (omega arith))))

pub every_more : (t : ℕ → Bool) (n : ℕ) → every t (n + 1) ≡ (t n && every t n)
every_more t n = same_from_decides _ _ (every_decides t (n + 1)) (Decides-like _ (λ h. below_more (λ k. t k ≡ true) n h.1 h.0) (λ h. (h n (omega arith), λ k l. h k (omega arith))) (Decides-and (t n) (every t n) ((λ e. e), λ e. e) (every_decides t n)))

-- what the first number that passes is known by
pub record First (t : ℕ → Bool) (n r : ℕ) : Type 0 where
  pub within : r ≤ n
  pub passes : r < n → t r ≡ true
  pub none_before : (b : ℕ) → b < r → t b ≡ false

pub first_is : (t : ℕ → Bool) (n : ℕ) → First t n (first_below t n)
first_is t n =
    let xs : List ℕ = range_with_len 0 n in
    let l = length-range_with_len 0 n in
    let w = prefix_len-le-length (λ x. not (t x)) xs in
    record {
      within = omega arith;
      passes = λ h. at_place t n (first_below t n) true h (passes_at_first t xs 0 (omega arith));
      none_before = λ b h. at_place t n b false (omega arith) (fails_before_first t xs b 0 h);
    }
