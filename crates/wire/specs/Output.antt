-- Lines appended to a lent output, the rest as before. Assumes nothing.
use Rattle.std.specs.Prelude.{◌≡◌, ℕ, ◌+◌, ◌*◌, ◌<◌, ◌≤◌, Bool, cond, List, [], ◌∷◌, ◌++◌, length, take, drop, Some, None, Ok, Option, nat_lt}
use Rattle.wire.specs.Bytes.{hex, unhex}
use Rattle.wire.specs.Text.{next_line}

-- d with s from place i on, every other place as before
unfoldable pub written : List ℕ → ℕ → List ℕ → List ℕ
written d i s = take i d ++ (s ++ drop (i + length s) d)

-- a frame as a line: its digits and a line feed
abbrev pub line_of : List ℕ → List ℕ
line_of bs = hex bs ++ (10 ∷ [])

-- the line of bs, two digits a byte and a line feed, has room in d from place i on
abbrev pub line_fits : List ℕ → ℕ → List ℕ → Bool
line_fits d i bs = nat_lt (i + 2 * length bs) (length d)

-- d after the line was appended, as it was where there is no room for the whole line
abbrev pub line_put : List ℕ → ℕ → List ℕ → List ℕ
line_put d i bs = cond (line_fits d i bs) (written d i (line_of bs)) d

-- the place after the line, none where it had no room
abbrev pub line_end : List ℕ → ℕ → List ℕ → Option ℕ
line_end d i bs = cond (line_fits d i bs) (Some (i + 2 * length bs + 1)) None

-- what is appended reads back: the line of a frame is accepted, whatever follows it, and its digits give the frame's bytes
abbrev pub ReadsBack : List ℕ → Type 0
ReadsBack bs = 0 < length bs → length bs ≤ 66 → (left : List ℕ) → (next_line (line_of bs ++ left) ≡ Ok (Some (hex bs))) × (unhex (hex bs) ≡ bs)
