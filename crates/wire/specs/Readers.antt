-- A reader's place in its text. Assumes nothing.
use Rattle.std.specs.Prelude.{ℕ, ◌+◌, List, drop, Some, None, Ok, Err, Option, Result}
use Rattle.std.specs.Borrow.{Bor}
use Rattle.wire.specs.declared.reader.Reader.{Reader}
use Rattle.wire.specs.Text.{next_line, used, next_number}

-- the bytes that are left
abbrev pub left_of : Reader → List ℕ
left_of r = drop r.pos r.text.now

-- an answer by what its part of the text holds
abbrev pub seen : {F : Type 0} → Result (Option (Bor (List ℕ))) F → Result (Option (List ℕ)) F
seen (Ok None) = Ok None
seen (Ok (Some line)) = Ok (Some line.now)
seen (Err f) = Err f

-- the reader after a line: the same text, past the line and its line feed, one line on
abbrev pub advanced : Reader → Reader
advanced r = record { text = r.text; pos = r.pos + used (next_line (left_of r)); line = next_number (left_of r) r.line }
