-- Lines of a text, and the grounds on which a text is refused. Assumes nothing.
use Rattle.std.specs.Prelude.{◌≡◌, ℕ, ◌+◌, ◌%◌, ◌<◌, ◌≤◌, Bool, true, false, cond, not, ◌||◌, List, [], ◌∷◌, length, take, Some, None, Ok, Err, Option, Result, ◌==◌, nat_lt, slice_index}
use Rattle.std.specs.List.{prefix_len}
use Rattle.interface.specs.declared.fault.TextFault.{TextFault}
use Rattle.interface.specs.declared.fault.TextFault.TheVariants.{Size, Byte, Long, Digits, Unended}
use Rattle.interface.specs.Grounds.{first_fault}
use Rattle.wire.specs.Bytes.{is_digit, hex, unhex}

-- a text has 1 to 8,192 bytes
abbrev pub size_grounds : List ℕ → List (Bool × TextFault)
size_grounds text = ((length text == 0), Size) ∷ (nat_lt 8192 (length text), Size) ∷ []

-- the place, counted from 1, of what stands behind i bytes; a place has two bytes, and no line of a text of that size is so long
abbrev pub place : ℕ → ℕ
place i = cond (nat_lt i 65535) (i + 1) 65535

abbrev pub no_feed : ℕ → Bool
no_feed b = not (b == 10)

-- of the bytes that are left, how many stand in front of the first line feed, which are the line; and whether there is a line feed
abbrev pub line_length : List ℕ → ℕ
line_length left = prefix_len no_feed left

abbrev pub first_line : List ℕ → List ℕ
first_line left = take (line_length left) left

abbrev pub has_feed : List ℕ → Bool
has_feed left = nat_lt (line_length left) (length left)

-- a byte that is no digit, a 133rd digit, no digit or an odd count of them, no line feed: each over the whole line before the next
abbrev pub line_grounds : List ℕ → Bool → List (Bool × TextFault)
line_grounds line ended = (nat_lt (prefix_len is_digit line) (length line), Byte (place (prefix_len is_digit line))) ∷ (nat_lt 132 (length line), Long 133) ∷ (length line == 0 || (length line % 2 == 1), Digits (place (length line))) ∷ (not ended, Unended (place (length line))) ∷ []

abbrev pub line_check : List ℕ → Bool → Result (Unit {0}) TextFault
line_check line ended = first_fault (line_grounds line ended)

-- all bytes are digits; the bytes up to k are, and k is not
abbrev pub AllDigits : List ℕ → Type 0
AllDigits line = (i : ℕ) → i < length line → is_digit (slice_index line i) ≡ true

abbrev pub FirstWrong : List ℕ → ℕ → Type 0
FirstWrong line k = (k < length line) × (is_digit (slice_index line k) ≡ false) × ((i : ℕ) → i < k → is_digit (slice_index line i) ≡ true)

-- what each answer says of the line: an accepted one is the digits of its bytes; else the place is wrong, and nothing before it is
abbrev pub LineSays : List ℕ → Bool → Result (Unit {0}) TextFault → Type 0
LineSays line ended (Ok u) = AllDigits line × (0 < length line) × (length line ≤ 132) × (length line % 2 ≡ 0) × (ended ≡ true) × (hex (unhex line) ≡ line)
LineSays line ended (Err Size) = ⊥
LineSays line ended (Err (Byte p)) = (k : ℕ) × (p ≡ place k) × FirstWrong line k
LineSays line ended (Err (Long p)) = (p ≡ 133) × AllDigits line × (133 ≤ length line)
LineSays line ended (Err (Digits p)) = (p ≡ length line + 1) × AllDigits line × (length line ≤ 132) × (0 < length line → length line % 2 ≡ 1)
LineSays line ended (Err (Unended p)) = (p ≡ length line + 1) × AllDigits line × (0 < length line) × (length line ≤ 132) × (length line % 2 ≡ 0) × (ended ≡ false)

-- a line that its check accepts, or the check's fault
abbrev pub line_answer : {F : Type 0} → Result (Unit {0}) F → List ℕ → Result (Option (List ℕ)) F
line_answer (Ok u) line = Ok (Some line)
line_answer (Err f) line = Err f

-- what the next line is to the bytes that are left: none where none are left, a fault, or the line's digits
abbrev pub next_line : List ℕ → Result (Option (List ℕ)) TextFault
next_line left = cond (nat_lt 0 (length left)) (line_answer (line_check (first_line left) (has_feed left)) (first_line left)) (Ok None)

-- how many bytes an answer uses up: a line and its line feed
abbrev pub used : Result (Option (List ℕ)) TextFault → ℕ
used (Ok None) = 0
used (Ok (Some line)) = length line + 1
used (Err f) = 0

-- the number of the line that was looked at, counted from 1; it has two bytes, and no text of that size has so many lines
abbrev pub count_up : ℕ → ℕ
count_up l = cond (nat_lt l 65535) (l + 1) l

abbrev pub next_number : List ℕ → ℕ → ℕ
next_number left l = cond (nat_lt 0 (length left)) (count_up l) l
