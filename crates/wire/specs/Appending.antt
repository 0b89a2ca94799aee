-- Frames appended to a lent output, a line each. Assumes nothing.
use Rattle.std.specs.Prelude.{◌≡◌, ℕ, ◌+◌, ◌*◌, ◌≤◌, Bool, List, [], ◌∷◌, length, Some, None, Option}
use Rattle.std.specs.List.{flat_map}
use Rattle.wire.specs.declared.output.Output.{Output}
use Rattle.wire.specs.Output.{written, line_of, line_fits, line_put, line_end}

-- an output, and the place that the next line goes to
pub record Lines : Type 0 where
  pub output : List ℕ
  pub place : ℕ

abbrev pub lines : List ℕ → ℕ → Lines
lines d i = record { output = d; place = i }

-- what a lent output holds, and its place
abbrev pub lines_in : Output → Lines
lines_in o = lines o.bytes.now o.at

-- the line of a frame has room
abbrev pub has_room : Lines → List ℕ → Bool
has_room s bs = line_fits s.output s.place bs

-- the place after a line; the same place where the line had no room
abbrev pub place_after : ℕ → Option ℕ → ℕ
place_after i None = i
place_after i (Some j) = j

-- a line that has no room is not written, and the place stays
abbrev pub put_frame : Lines → List ℕ → Lines
put_frame s bs = lines (line_put s.output s.place bs) (place_after s.place (line_end s.output s.place bs))

abbrev pub put_frames : Lines → List (List ℕ) → Lines
put_frames s [] = s
put_frames s (f ∷ fs) = put_frames (put_frame s f) fs

-- the same lent bytes, as many as before, with these frames appended
pub record Appends (old new : Output) (fs : List (List ℕ)) : Type 0 where
  pub same_bytes : new.bytes.ghost_name ≡ old.bytes.ghost_name
  pub same_length : length new.bytes.now ≡ length old.bytes.now
  pub lines_put : lines_in new ≡ put_frames (lines_in old) fs

-- the same lent bytes, with s written from the place on, and the place behind it
pub record Writes (old new : Output) (s : List ℕ) : Type 0 where
  pub same_bytes : new.bytes.ghost_name ≡ old.bytes.ghost_name
  pub bytes_put : lines_in new ≡ lines (written old.bytes.now old.at s) (old.at + length s)

-- two digits a byte and a line feed
abbrev pub line_size : List ℕ → ℕ
line_size bs = 2 * length bs + 1

abbrev pub lines_size : List (List ℕ) → ℕ
lines_size [] = 0
lines_size (f ∷ fs) = line_size f + lines_size fs

-- where all lines have room, all of them are written one after another, and the place is behind them
abbrev pub WrittenWhole : Lines → List (List ℕ) → Lines → Type 0
WrittenWhole old fs new = old.place + lines_size fs ≤ length old.output → (new.output ≡ written old.output old.place (flat_map line_of fs)) × (new.place ≡ old.place + lines_size fs)
