-- The home frame: 01, the number n of settings, then n times low and high, four bytes each. Assumes nothing.
use Rattle.std.specs.Prelude.{ℕ, ◌+◌, ◌-◌, ◌*◌, ◌/◌, ◌%◌, min, cond, List, map, ℤ, ◌==◌, slice_index}
use Rattle.std.specs.Int.{w32}
use Rattle.std.proofs.Common.{to_z}
use Rattle.std.specs.List.{range_with_len}
use Rattle.interface.specs.declared.home.Home.{Home}
use Rattle.interface.specs.Homes.{low_of, high_of, eight_spans, home_check}
use Rattle.wire.specs.Bytes.{val, part}
use Rattle.wire.specs.Frames.{FrameModel}
use Rattle.wire.specs.Words.{word_byte}

-- the signed number in the four bytes from i on
abbrev pub word_at : List ℕ → ℕ → ℤ
word_at bs i = to_z w32 (val (part 4 i bs))

-- low and high of each setting in turn
abbrev pub home_word : Home → ℕ → ℤ
home_word h k = cond (k % 2 == 0) (low_of h (k / 2)) (high_of h (k / 2))

abbrev pub home_words : Home → List ℤ
home_words h = map (home_word h) (range_with_len 0 16)

-- byte j of the frame: the code, n, then each word's four bytes
abbrev pub home_byte : Home → ℕ → ℕ
home_byte h j = cond (j == 0) 1 (cond (j == 1) h.n (word_byte (home_word h ((j - 2) / 4)) ((j - 2) % 4)))

-- a record has at most eight settings to write
abbrev pub write_home : Home → List ℕ
write_home h = map (home_byte h) (range_with_len 0 (2 + 8 * min h.n 8))

-- setting k's low starts at byte 2 + 8k, its high at byte 6 + 8k, counted from 0
abbrev pub low_in : List ℕ → ℕ → ℤ
low_in bs k = word_at bs (2 + 8 * k)

abbrev pub high_in : List ℕ → ℕ → ℤ
high_in bs k = word_at bs (6 + 8 * k)

abbrev pub read_home : List ℕ → Home
read_home bs = record { n = slice_index bs 1; spans = eight_spans (slice_index bs 1) (low_in bs) (high_in bs) }

abbrev pub counted_home : Home → Home
counted_home h = record { n = h.n; spans = eight_spans h.n (low_of h) (high_of h) }

abbrev pub home_frame : FrameModel Home
home_frame = record {
  kind = record { code = 1; base = 2; each = 8 };
  read = read_home;
  write = write_home;
  counted = counted_home;
  check = λ n h. home_check h;
}
