-- The home frame byte by byte: byte j of what is written is byte j of what was read. Assumes nothing.
use Rattle.std.specs.Prelude.{◌≡◌, ℕ, zero, suc, ◌+◌, ◌-◌, ◌*◌, ◌/◌, ◌%◌, ◌<◌, ◌≤◌, min, true, cond, not, ◌⊎◌, List, [], ◌∷◌, map, length, get_or, ℤ, pos, FitsSigned, ◌==◌, int_lt, nat_lt, slice_index, slice_index_or, refl}
use Rattle.std.proofs.Common.{inl, inr, ap, sym, ◌∙◌, subst, to_z, of_z, arith}
use Rattle.std.proofs.Math.Facts.{Fits-of_z}
use Rattle.std.specs.Int.{w32}
use Rattle.std.specs.List.{range_with_len}
use Rattle.std.proofs.lemmas.List.FromFn.{fill_by_all, get_or-map-range_with_len, length-map-range_with_len}
use Rattle.std.proofs.lemmas.List.Elements.{All-from_get_or}
use Rattle.std.proofs.lemmas.Int.{to_z-of_z}
use Rattle.std.proofs.lemmas.Bool.{cond-true, cond-false, cases_lt, le-ltb, eq-eqb, ne_eqb}
use Rattle.interface.specs.declared.home.Home.{Home}
use Rattle.interface.specs.declared.fault.RecordFault.TheVariants.{Range, Crossed}
use Rattle.interface.specs.Grounds.{first_fault, next}
use Rattle.interface.specs.Homes.{Passes, zero_span, low_of, high_of, span_or_0, eight_spans, home_check, settings_grounds, range_grounds, crossed_grounds}
use Rattle.interface.specs.Numbers.{within}
use Rattle.interface.proofs.Homes.{span_before}
use Rattle.wire.specs.Bytes.{be, val}
use Rattle.wire.specs.Frames.{FrameLaws, Accepted, field}
use Rattle.wire.specs.HomeFrame.{word_at, home_word, home_byte, low_in, high_in, write_home, read_home, counted_home, home_frame}
use Rattle.wire.specs.BigEndian.{small_be, val_be}
use Rattle.wire.specs.Codecs.{write_one, get_or_part, part_is, byte_small}
use Rattle.wire.specs.Words.{word_byte}
use Rattle.wire.specs.Passing.{settings_ok, low_fits, high_fits, joined_same}

-- the places of a home frame: its code, n, and the bytes of lows and highs
by_place : (P : ℕ → Type 0) (n : ℕ) → P 0 → P 1 → ((k r : ℕ) → k < n → r < 4 → P (2 + 8 * k + r)) → ((k r : ℕ) → k < n → r < 4 → P (6 + 8 * k + r)) → (j : ℕ) → j < 2 + 8 * n → P j
by_place P n code count low high zero h = code
by_place P n code count low high (suc zero) h = count
by_place P n code count low high (suc (suc m)) h = way (cases_lt (m % 8) 4)
  where
    way : (m % 8 < 4) ⊎ (4 ≤ m % 8) → P (suc (suc m))
    way (inl lt) = subst P (omega arith) (low (m / 8) (m % 8) (omega arith) lt)
    way (inr le) = subst P (omega arith) (high (m / 8) (m % 8 - 4) (omega arith) (omega arith))

-- byte r of the low and of the high of setting k
module _ (h : Home) (k r : ℕ) (small : r < 4) where
  word_at_place : (j d : ℕ) → 2 ≤ j → (j - 2) / 4 ≡ d → (j - 2) % 4 ≡ r → home_byte h j ≡ word_byte (home_word h d) r
  word_at_place j d past p q =
      let word = word_byte (home_word h ((j - 2) / 4)) ((j - 2) % 4) in
      cond-false (j == 0) 1 (cond (j == 1) h.n word) (ne_eqb j 0 (λ e. omega arith))
      ∙ cond-false (j == 1) h.n word (ne_eqb j 1 (λ e. omega arith))
      ∙ (λ i. word_byte (home_word h (p i)) (q i))

  home_low : home_byte h (2 + 8 * k + r) ≡ word_byte (low_of h k) r
  home_low =
      let half : 2 * k / 2 ≡ k = omega arith in
      word_at_place (2 + 8 * k + r) (2 * k) (omega arith) (omega arith) (omega arith)
      ∙ ap (λ z. word_byte z r) (cond-true (2 * k % 2 == 0) _ _ (eq-eqb _ _ (omega arith)) ∙ ap (low_of h) half)

  home_high : home_byte h (6 + 8 * k + r) ≡ word_byte (high_of h k) r
  home_high =
      let half : (2 * k + 1) / 2 ≡ k = omega arith in
      word_at_place (6 + 8 * k + r) (2 * k + 1) (omega arith) (omega arith) (omega arith)
      ∙ ap (λ z. word_byte z r) (cond-false ((2 * k + 1) % 2 == 0) _ _ (ne_eqb _ _ (λ e. omega arith)) ∙ ap (high_of h) half)

-- eight spans agree where the first n do
module _ (n : ℕ) (low high low' high' : ℕ → ℤ) (lows : (k : ℕ) → k < n → low k ≡ low' k) (highs : (k : ℕ) → k < n → high k ≡ high' k) where
  span_same : (k : ℕ) → span_or_0 n low high k ≡ span_or_0 n low' high' k
  span_same k = way (cases_lt k n)
    where
      way : (k < n) ⊎ (n ≤ k) → span_or_0 n low high k ≡ span_or_0 n low' high' k
      way (inl lt) = λ i. cond (nat_lt k n) (record { low = lows k lt i; high = highs k lt i }) zero_span
      way (inr le) = cond-false (nat_lt k n) _ _ (le-ltb k n le) ∙ sym (cond-false (nat_lt k n) _ _ (le-ltb k n le))

  spans_same : eight_spans n low high ≡ eight_spans n low' high'
  spans_same = λ i. map (λ k. span_same k i) (range_with_len 0 8)

-- the record comes back from its bytes
module _ (h : Home) (ok : Passes h) where
  abbrev size : ℕ
  size = 2 + 8 * min h.n 8

  byte_at : (j : ℕ) → j < 2 + 8 * h.n → slice_index (write_home h) j ≡ home_byte h j
  byte_at j lt = get_or-map-range_with_len (home_byte h) 0 size j j 0 (omega (arith, (settings_ok h ok).1)) (omega arith)

  word_back : (i : ℕ) (z : ℤ) → FitsSigned w32 z → ((r : ℕ) → r < 4 → slice_index (write_home h) (i + r) ≡ word_byte z r) → word_at (write_home h) i ≡ z
  word_back i z fits same =
      let q = be 4 (of_z w32 z) in
      ap (λ p. to_z w32 (val p)) (part_is 4 i (write_home h) q refl same) ∙ ap (to_z w32) (val_be 3 (of_z w32 z) (Fits-of_z fits).fits) ∙ to_z-of_z w32 z fits

  low_back : (k : ℕ) → k < h.n → word_at (write_home h) (2 + 8 * k) ≡ low_of h k
  low_back k lt = word_back (2 + 8 * k) (low_of h k) (low_fits h ok k lt) (λ r small. byte_at (2 + 8 * k + r) (omega arith) ∙ home_low h k r small)

  high_back : (k : ℕ) → k < h.n → word_at (write_home h) (6 + 8 * k) ≡ high_of h k
  high_back k lt = word_back (6 + 8 * k) (high_of h k) (high_fits h ok k lt) (λ r small. byte_at (6 + 8 * k + r) (omega arith) ∙ home_high h k r small)

  count_back : get_or (write_home h) 1 0 ≡ h.n
  count_back = byte_at 1 (omega arith)

  home_back : read_home (write_home h) ≡ counted_home h
  home_back =
      let bs = write_home h in
      let spans : eight_spans (slice_index bs 1) (low_in bs) (high_in bs) ≡ eight_spans h.n (low_of h) (high_of h) = ap (λ m. eight_spans m (low_in bs) (high_in bs)) count_back ∙ spans_same h.n _ _ _ _ low_back high_back in
      λ i. record { n = count_back i; spans = spans i }

  word_small : (z : ℤ) (r : ℕ) → FitsSigned w32 z → word_byte z r < 256
  word_small z r fits = byte_small (be 4 (of_z w32 z)) r (small_be 4 (of_z w32 z) (Fits-of_z fits).fits)

  bytes_small : (j : ℕ) → j < 2 + 8 * h.n → home_byte h j < 256
  bytes_small = by_place (λ j. home_byte h j < 256) h.n (omega arith) (omega (arith, (settings_ok h ok).1)) (λ k r lt small. subst (λ b. b < 256) (sym (home_low h k r small)) (word_small (low_of h k) r (low_fits h ok k lt))) (λ k r lt small. subst (λ b. b < 256) (sym (home_high h k r small)) (word_small (high_of h k) r (high_fits h ok k lt)))

  home_long : length (write_home h) ≡ 2 + 8 * h.n
  home_long = length-map-range_with_len (home_byte h) 0 size ∙ omega (arith, (settings_ok h ok).1)

  -- what lies past the settings is not checked
  counted_ok : Passes (counted_home h)
  counted_ok =
      let low = λ (k : ℕ) (lt : k < h.n). ap (λ s. s.low) (span_before h.n (low_of h) (high_of h) k (settings_ok h ok).1 lt) in
      let high = λ (k : ℕ) (lt : k < h.n). ap (λ s. s.high) (span_before h.n (low_of h) (high_of h) k (settings_ok h ok).1 lt) in
      let ranges = joined_same (range_grounds (counted_home h)) (range_grounds h) 0 h.n (λ k le lt i. (not (within 1000000 (low k (omega arith) i)), Range (3 + 8 * k)) ∷ (not (within 1000000 (high k (omega arith) i)), Range (7 + 8 * k)) ∷ []) in
      let orders = joined_same (crossed_grounds (counted_home h)) (crossed_grounds h) 0 h.n (λ k le lt i. (int_lt (high k (omega arith) i) (low k (omega arith) i), Crossed (7 + 8 * k)) ∷ []) in
      let same : home_check (counted_home h) ≡ home_check h = λ i. next (first_fault (settings_grounds h)) (next (first_fault (ranges i)) (first_fault (orders i))) in
      same ∙ ok

  home_accepted : (n : ℕ) → Accepted home_frame n (write_home h)
  home_accepted n = record {
    coded = byte_at 0 (omega arith);
    sized = home_long ∙ ap (λ m. 2 + 8 * m) (sym count_back);
    small = All-from_get_or (λ b. b < 256) (write_home h) 0 (λ j lt. subst (λ b. b < 256) (sym (byte_at j (omega (arith, home_long)))) (bytes_small j (omega (arith, home_long))));
    passes = ap home_check home_back ∙ counted_ok;
  }

-- the bytes come back from their record
module _ (n : ℕ) (bs : List ℕ) (a : Accepted home_frame n bs) where
  abbrev h : Home
  h = read_home bs

  top : get_or bs 1 0 ≤ 8
  top = (settings_ok h a.passes).1

  word_again : (i : ℕ) (z : ℤ) (r : ℕ) → r < 4 → z ≡ word_at bs i → word_byte z r ≡ slice_index bs (i + r)
  word_again i z r small e = ap (λ y. word_byte y r) e ∙ ap (λ q. slice_index q r) (write_one (field i w32 true) bs a.small) ∙ get_or_part 4 i bs r small

  byte_again : (j : ℕ) → j < 2 + 8 * slice_index bs 1 → slice_index bs j ≡ home_byte h j
  byte_again = by_place (λ j. slice_index bs j ≡ home_byte h j) (slice_index bs 1) a.coded refl
      (λ k r lt small. sym (home_low h k r small ∙ word_again (2 + 8 * k) (low_of h k) r small (ap (λ s. s.low) (span_before (slice_index bs 1) (low_in bs) (high_in bs) k top lt))))
      (λ k r lt small. sym (home_high h k r small ∙ word_again (6 + 8 * k) (high_of h k) r small (ap (λ s. s.high) (span_before (slice_index bs 1) (low_in bs) (high_in bs) k top lt))))

  frame_back : write_home (read_home bs) ≡ bs
  frame_back = sym (fill_by_all (home_byte h) bs (2 + 8 * min (slice_index bs 1) 8) 0 (a.sized ∙ omega (arith, top)) (λ j lt. byte_again j (omega arith)))

pub home_laws : FrameLaws home_frame
home_laws = record {
  written_accepted = λ n low high h ok. home_accepted h ok n;
  read_written = λ n low high h ok. home_back h ok;
  written_read = λ n low high bs a. frame_back n bs a;
}
