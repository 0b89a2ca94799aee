-- The bytes of eight settings begin with those of n. Assumes nothing.
use Rattle.std.proofs.Common.{◌≡◌, ℕ, ◌+◌, ◌-◌, ◌*◌, ◌/◌, ◌%◌, ◌<◌, ◌≤◌, min, cond, List, map, take, ℤ, pos, ◌==◌, ap, ◌∙◌, arith}
use Rattle.std.specs.List.{range_with_len}
use Rattle.std.proofs.lemmas.List.FromFn.{fill_by_all, get_or-map-range_with_len, length-map-range_with_len, take-map-range_with_len}
use Rattle.interface.specs.declared.home.Home.{Home}
use Rattle.wire.specs.HomeFrame.{home_word, home_byte, home_words, write_home}
use Rattle.wire.specs.Words.{word_byte, words_frame_byte}

-- the sixteen words that are written give every byte that eight settings have
byte_of_words : (h : Home) (j : ℕ) → j < 66 → words_frame_byte 1 h.n (home_words h) j ≡ home_byte h j
byte_of_words h j lt = ap (λ z. cond (j == 0) 1 (cond (j == 1) h.n (word_byte z ((j - 2) % 4)))) (get_or-map-range_with_len (home_word h) 0 16 ((j - 2) / 4) ((j - 2) / 4) (pos 0) (omega arith) (omega arith))

front_of_words : (h : Home) (size : ℕ) → size ≤ 66 → map (words_frame_byte 1 h.n (home_words h)) (range_with_len 0 size) ≡ map (home_byte h) (range_with_len 0 size)
front_of_words h size fits =
    let byte : ℕ → ℕ = words_frame_byte 1 h.n (home_words h) in
    fill_by_all (home_byte h) (map byte (range_with_len 0 size)) size 0 (length-map-range_with_len byte 0 size) (λ j lt. get_or-map-range_with_len byte 0 size j j 0 lt (omega arith) ∙ byte_of_words h j (omega arith))

pub home_front : (h : Home) (words : List ℤ) (bytes : List ℕ) (size : ℕ) → words ≡ home_words h → bytes ≡ map (words_frame_byte 1 h.n words) (range_with_len 0 66) → size ≡ 2 + 8 * min h.n 8 → take size bytes ≡ write_home h
home_front h words bytes size w b s =
    ap (take size) (b ∙ ap (λ zs. map (words_frame_byte 1 h.n zs) (range_with_len 0 66)) w)
    ∙ take-map-range_with_len (words_frame_byte 1 h.n (home_words h)) 0 66 size (omega arith)
    ∙ front_of_words h size (omega arith)
    ∙ ap (λ k. map (home_byte h) (range_with_len 0 k)) s
