-- A line that was written is all digits up to its line feed, so the reader finds it and accepts it. Assumes nothing.
use Rattle.std.proofs.Common.{◌≡◌, ℕ, suc, ◌+◌, ◌*◌, ◌/◌, ◌%◌, ◌<◌, ◌≤◌, true, false, ◌||◌, eqb, ltb, List, [], ◌∷◌, ◌++◌, length, get_or, take, Some, Ok, refl, ap, ◌∙◌, arith}
use Rattle.std.specs.List.{prefix_len, All}
use Rattle.std.proofs.lemmas.List.Elements.{All-nil, All-cons, All-head, All-tail}
use Rattle.std.proofs.lemmas.List.Sums.{prefix_len_is}
use Rattle.std.proofs.lemmas.List.{append_assoc, length-append, take_at, get_or_at, get_or_append_left}
use Rattle.std.proofs.lemmas.Bool.{cond-true, cond-false, lt-ltb, le-ltb, ne_eqb, or_from}
use Rattle.std.proofs.lemmas.Bool.Decides.{nat_tests}
use Rattle.wire.specs.Bytes.{hex, is_digit, digit_of}
use Rattle.wire.specs.Output.{line_of, ReadsBack}
use Rattle.wire.specs.Text.{no_feed, line_length, first_line, has_feed, line_check, line_answer, next_line}
use Rattle.wire.proofs.Hex.{digit_is, length_hex, unhex_hex}

hex_digits : (bs : List ℕ) → All (λ b. b < 256) bs → All (λ d. is_digit d ≡ true) (hex bs)
hex_digits [] a = All-nil (λ d. is_digit d ≡ true)
hex_digits (b ∷ bs) a =
    let D : ℕ → Type 0 = λ d. is_digit d ≡ true in
    let high = digit_is (b / 16) (omega (arith, All-head (λ b. b < 256) b bs a)) in
    let low = digit_is (b % 16) (omega arith) in
    let more = hex_digits bs (All-tail (λ b. b < 256) b bs a) in
    All-cons D (digit_of (b / 16)) (digit_of (b % 16) ∷ hex bs) high (All-cons D (digit_of (b % 16)) (hex bs) low more)

digit_no_feed : (d : ℕ) → is_digit d ≡ true → no_feed d ≡ true
digit_no_feed d e = grind (arith, nat_tests)

module _ (bs : List ℕ) (small : All (λ b. b < 256) bs) (some : 0 < length bs) (short : length bs ≤ 66) where
  abbrev n : ℕ
  n = length (hex bs)

  long : n ≡ 2 * length bs
  long = length_hex bs

  passes : line_check (hex bs) true ≡ Ok tt
  passes =
      let digits = prefix_len_is is_digit (hex bs) n 0 (omega arith) (λ k below. hex_digits bs small k 0 below) (λ none. absurd (omega arith)) in
      let odd : (eqb n 0 || eqb (n % 2) 1) ≡ false = or_from (eqb n 0) (eqb (n % 2) 1) (ne_eqb n 0 (λ e. omega (arith, long))) (ne_eqb (n % 2) 1 (λ e. omega (arith, long))) in
      cond-false (ltb (prefix_len is_digit (hex bs)) n) _ _ (le-ltb (prefix_len is_digit (hex bs)) n (omega (arith, digits)))
      ∙ cond-false (ltb 132 n) _ _ (le-ltb 132 n (omega (arith, long)))
      ∙ cond-false (eqb n 0 || eqb (n % 2) 1) _ _ odd

  module _ (left : List ℕ) where
    abbrev rest : List ℕ
    rest = line_of bs ++ left

    split : rest ≡ hex bs ++ (10 ∷ left)
    split = append_assoc (hex bs) (10 ∷ []) left

    found : line_length rest ≡ n
    found = ap line_length split ∙ prefix_len_is no_feed (hex bs ++ (10 ∷ left)) n 0 (omega (arith, all_long)) before at
      where
        all_long : length (hex bs ++ (10 ∷ left)) ≡ n + suc (length left)
        all_long = length-append (hex bs) (10 ∷ left)

        before : (k : ℕ) → k < n → no_feed (get_or (hex bs ++ (10 ∷ left)) k 0) ≡ true
        before k below = rw (get_or_append_left (hex bs) (10 ∷ left) 0 k below) (digit_no_feed (get_or (hex bs) k 0) (hex_digits bs small k 0 below))

        at : n < length (hex bs ++ (10 ∷ left)) → no_feed (get_or (hex bs ++ (10 ∷ left)) n 0) ≡ false
        at below = ap no_feed (get_or_at (hex bs) 10 left 0 n refl)

    all : length rest ≡ n + suc (length left)
    all = ap length split ∙ length-append (hex bs) (10 ∷ left)

    line : first_line rest ≡ hex bs
    line = ap (λ k. take k rest) found ∙ ap (take n) split ∙ take_at (hex bs) (10 ∷ left) n refl

    feed : has_feed rest ≡ true
    feed = lt-ltb (line_length rest) (length rest) (omega (arith, found, all))

    back : next_line rest ≡ Ok (Some (hex bs))
    back =
        cond-true (ltb 0 (length rest)) _ _ (lt-ltb 0 (length rest) (omega (arith, all)))
        ∙ (λ i. line_answer (line_check (line i) (feed i)) (line i))
        ∙ ap (λ r. line_answer r (hex bs)) passes

pub reads_back : (bs : List ℕ) → All (λ b. b < 256) bs → ReadsBack bs
reads_back bs small some short left = (back bs small some short left, unhex_hex bs small)
