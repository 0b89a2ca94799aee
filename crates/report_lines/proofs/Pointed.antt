-- A point's frame byte by byte: byte r of value k stands at 2 + 4k + r. Assumes nothing.
use Rattle.std.proofs.Common.{◌≡◌, ℕ, zero, suc, ◌+◌, ◌-◌, ◌*◌, ◌/◌, ◌%◌, ◌<◌, min, cond, eqb, List, [], ◌∷◌, map, length, get_or, take, ℤ, pos, sym, refl, ap, ◌∙◌, arith}
use Rattle.std.specs.List.{range_with_len, flat_map}
use Rattle.std.proofs.lemmas.List.FromFn.{fill_by_all, take-map-range_with_len}
use Rattle.std.proofs.lemmas.List.{get_or-take, length-take-le}
use Rattle.std.proofs.lemmas.Bool.{cond-false, ne_eqb}
use Rattle.interface.specs.declared.point.Point.{Point}
use Rattle.wire.specs.Words.{word_byte, words_byte, words_frame_byte}
use Rattle.report_lines.specs.RegionFrames.{word, point_values, point_frame}

pub words_long : (vs : List ℤ) → length (flat_map word vs) ≡ 4 * length vs
words_long [] = refl
words_long (v ∷ vs) = omega (arith, words_long vs)

words_at : (vs : List ℤ) (j : ℕ) → j < 4 * length vs → get_or (flat_map word vs) j 0 ≡ words_byte vs j
words_at [] j h = absurd (omega arith)
words_at (v ∷ vs) zero h = refl
words_at (v ∷ vs) (suc zero) h = refl
words_at (v ∷ vs) (suc (suc zero)) h = refl
words_at (v ∷ vs) (suc (suc (suc zero))) h = refl
words_at (v ∷ vs) (suc (suc (suc (suc j)))) h =
    let place : suc (suc (suc (suc j))) / 4 ≡ suc (j / 4) = omega arith in
    let rest : suc (suc (suc (suc j))) % 4 ≡ j % 4 = omega arith in
    words_at vs j (omega arith) ∙ sym (λ i. word_byte (get_or (v ∷ vs) (place i) (pos 0)) (rest i))

module _ (x : Point) (eight : length x.values ≡ 8) where
  abbrev count : ℕ
  count = min x.n 8

  values_long : length (point_values x) ≡ count
  values_long = length-take-le count x.values (omega arith)

  frame_at : (j : ℕ) → j < 2 + 4 * count → get_or (point_frame x) j 0 ≡ words_frame_byte 16 x.n x.values j
  frame_at zero h = refl
  frame_at (suc zero) h = refl
  frame_at (suc (suc j)) h =
      let i = suc (suc j) in
      let back : i - 2 ≡ j = omega arith in
      let value : words_frame_byte 16 x.n x.values i ≡ words_byte x.values j =
      cond-false (eqb i 0) 16 (cond (eqb i 1) x.n (words_byte x.values (i - 2))) (ne_eqb i 0 (λ e. omega arith))
      ∙ cond-false (eqb i 1) x.n (words_byte x.values (i - 2)) (ne_eqb i 1 (λ e. omega arith))
      ∙ ap (words_byte x.values) back in
      words_at (point_values x) j (omega (arith, values_long)) ∙ ap (λ v. word_byte v (j % 4)) (get_or-take count x.values (j / 4) (pos 0) (omega arith)) ∙ sym value

  frame_is : point_frame x ≡ map (words_frame_byte 16 x.n x.values) (range_with_len 0 (2 + 4 * count))
  frame_is = fill_by_all (words_frame_byte 16 x.n x.values) (point_frame x) (2 + 4 * count) 0 (omega (arith, words_long (point_values x), values_long)) frame_at

  -- the bytes of eight settings begin with those of n
  pub point_front : (bytes : List ℕ) (size : ℕ) → bytes ≡ map (words_frame_byte 16 x.n x.values) (range_with_len 0 34) → size ≡ 2 + 4 * count → take size bytes ≡ point_frame x
  point_front bytes size e s =
      ap (λ k. take k bytes) s ∙ ap (take (2 + 4 * count)) e ∙ take-map-range_with_len (words_frame_byte 16 x.n x.values) 0 34 (2 + 4 * count) (omega arith) ∙ sym frame_is
