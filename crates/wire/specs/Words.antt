-- Frames of numbers byte by byte: a code, a byte, then the numbers, four bytes each. Assumes nothing.
use Rattle.std.specs.Prelude.{ℕ, ◌-◌, ◌/◌, ◌%◌, cond, List, ℤ, pos, ◌==◌, slice_index, slice_index_or}
use Rattle.std.specs.Int.{w32}
use Rattle.std.proofs.Common.{of_z}
use Rattle.wire.specs.Bytes.{be}

-- byte r of a number's four, the highest first
abbrev pub word_byte : ℤ → ℕ → ℕ
word_byte z r = slice_index (be 4 (of_z w32 z)) r

-- byte j of numbers one after another, and of the frame
abbrev pub words_byte : List ℤ → ℕ → ℕ
words_byte zs j = word_byte (slice_index_or zs (j / 4) (pos 0)) (j % 4)

abbrev pub words_frame_byte : ℕ → ℕ → List ℤ → ℕ → ℕ
words_frame_byte code n zs j = cond (j == 0) code (cond (j == 1) n (words_byte zs (j - 2)))
