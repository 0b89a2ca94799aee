-- The grounds of a line one after another: where one is reached, none before it holds. Assumes nothing.
use Rattle.std.proofs.Common.{◌≡◌, ℕ, ◌+◌, ◌-◌, ◌%◌, ◌<◌, ◌≤◌, Bool, true, false, not, ◌||◌, eqb, ltb, ◌⊎◌, List, [], ◌∷◌, length, take, None, Ok, Err, Result, sym, refl, ap, ◌∙◌, inl, inr, arith}
use Rattle.std.specs.List.{prefix_len}
use Rattle.std.proofs.lemmas.List.{drop_all, take_all, length-drop}
use Rattle.std.proofs.lemmas.List.Sums.{prefix_len_passes, prefix_len_stops}
use Rattle.std.proofs.lemmas.Bool.{ltb-true, ltb-false, lt-ltb, cond-true, eqb-true, eqb-false, or_cases, or_parts, not-true, not-false}
use Rattle.interface.specs.declared.fault.TextFault.{TextFault}
use Rattle.interface.specs.Grounds.{first_fault}
use Rattle.wire.specs.declared.reader.Reader.{Reader}
use Rattle.wire.specs.Bytes.{is_digit}
use Rattle.wire.proofs.Hex.{hex_unhex}
use Rattle.wire.specs.Readers.{left_of, advanced}
use Rattle.wire.specs.Text.{place, line_length, first_line, has_feed, line_check, line_answer, next_line, used, count_up, next_number, LineSays, AllDigits}

-- four grounds in their order
four : {F : Type 0} (P : Result (Unit {0}) F → Type 0) (a b c d : Bool) (f g h k : F) → (a ≡ true → P (Err f)) → (a ≡ false → b ≡ true → P (Err g)) → (a ≡ false → b ≡ false → c ≡ true → P (Err h)) → (a ≡ false → b ≡ false → c ≡ false → d ≡ true → P (Err k)) → (a ≡ false → b ≡ false → c ≡ false → d ≡ false → P (Ok tt)) → P (first_fault ((a, f) ∷ (b, g) ∷ (c, h) ∷ (d, k) ∷ []))
four P true b c d f g h k p q r s t = p refl
four P false true c d f g h k p q r s t = q refl refl
four P false false true d f g h k p q r s t = r refl refl refl
four P false false false true f g h k p q r s t = s refl refl refl refl
four P false false false false f g h k p q r s t = t refl refl refl refl

place_small : (i : ℕ) → i ≤ 132 → place i ≡ i + 1
place_small i h = cond-true (ltb i 65535) (i + 1) 65535 (lt-ltb i 65535 (omega arith))

module _ (line : List ℕ) (ended : Bool) where
  abbrev n : ℕ
  n = length line

  all_digits : ltb (prefix_len is_digit line) n ≡ false → AllDigits line
  all_digits e i h = prefix_len_passes is_digit line i 0 (omega (arith, ltb-false (prefix_len is_digit line) n e))

  short : ltb 132 n ≡ false → n ≤ 132
  short e = ltb-false 132 n e

  even : (eqb n 0 || eqb (n % 2) 1) ≡ false → (0 < n) × (n % 2 ≡ 0)
  even e =
      let both = or_parts (eqb n 0) (eqb (n % 2) 1) e in
      let some = eqb-false n 0 both.0 in
      let other = eqb-false (n % 2) 1 both.1 in
      (grind (arith, some), grind (arith, other))

  odd : (eqb n 0 || eqb (n % 2) 1) ≡ true → 0 < n → n % 2 ≡ 1
  odd e h = by (or_cases (eqb n 0) (eqb (n % 2) 1) e)
    where
      by : (eqb n 0 ≡ true) ⊎ (eqb (n % 2) 1 ≡ true) → n % 2 ≡ 1
      by (inl z) = absurd (omega (arith, eqb-true n 0 z))
      by (inr o) = eqb-true (n % 2) 1 o

  pub line_says : LineSays line ended (line_check line ended)
  line_says = four (LineSays line ended) (ltb (prefix_len is_digit line) n) (ltb 132 n) (eqb n 0 || eqb (n % 2) 1) (not ended) _ _ _ _
      (λ a. let lt = ltb-true (prefix_len is_digit line) n a in (prefix_len is_digit line, refl, (lt, prefix_len_stops is_digit line 0 lt, λ i h. prefix_len_passes is_digit line i 0 h)))
      (λ a b. (refl, all_digits a, ltb-true 132 n b))
      (λ a b c. (place_small n (short b), all_digits a, short b, odd c))
      (λ a b c d. (place_small n (short b), all_digits a, (even c).0, short b, (even c).1, not-true ended d))
      (λ a b c d. (all_digits a, (even c).0, short b, (even c).1, not-false ended d, hex_unhex line (all_digits a) (even c).1))

-- the line that starts at pos and ends at end, and what its check answers
module _ (r : Reader) where
  abbrev text : List ℕ
  text = r.text.now

  abbrev left : List ℕ
  left = left_of r

  pub none_left : length text ≤ r.pos → next_line left ≡ Ok None
  none_left h = ap next_line (drop_all r.pos text h)

  pub none_moves : length text ≤ r.pos → r ≡ advanced r
  none_moves h =
      let none = drop_all r.pos text h in
      let stays : r.pos ≡ r.pos + used (next_line left) = omega arith ∙ ap (λ l. r.pos + used (next_line l)) (sym none) in
      let same : r.line ≡ next_number left r.line = ap (λ l. next_number l r.line) (sym none) in
      λ i. record { text = r.text; pos = stays i; line = same i }

  -- the line is the first n bytes of the rest, and its check answers a
  module _ (rest : List ℕ) (n : ℕ) (a : Result (Unit {0}) TextFault) (some : r.pos < length text) (e : rest ≡ take (length text - r.pos) left) (l : n ≡ line_length rest) (checked : a ≡ line_check (take n rest) (ltb n (length rest))) where
    all : rest ≡ left
    all = e ∙ take_all (length text - r.pos) left (omega (arith, length-drop r.pos text))

    more : ltb 0 (length left) ≡ true
    more = lt-ltb 0 (length left) (omega (arith, length-drop r.pos text))

    pub line_answered : next_line left ≡ line_answer a (take n rest)
    line_answered =
        let here : a ≡ line_check (first_line rest) (has_feed rest) = checked ∙ (λ i. line_check (take (l i) rest) (ltb (l i) (length rest))) in
        let answer : next_line left ≡ line_answer (line_check (first_line rest) (has_feed rest)) (first_line rest) = cond-true (ltb 0 (length left)) _ _ more ∙ sym (ap (λ z. line_answer (line_check (first_line z) (has_feed z)) (first_line z)) all) in
        answer ∙ (λ i. line_answer (sym here i) (take (sym l i) rest))

    pub line_moves : (m p : ℕ) → m ≡ count_up r.line → p ≡ r.pos + used (line_answer a (take n rest)) → ◌≡◌ {A = Reader} (record { text = r.text; pos = p; line = m }) (advanced r)
    line_moves m p em ep =
        let on : p ≡ r.pos + used (next_line left) = ep ∙ ap (λ x. r.pos + used x) (sym line_answered) in
        let up : m ≡ next_number left r.line = em ∙ sym (cond-true (ltb 0 (length left)) (count_up r.line) r.line more) in
        λ i. record { text = r.text; pos = on i; line = up i }
