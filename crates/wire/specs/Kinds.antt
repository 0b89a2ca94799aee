-- The kinds of frame, and the grounds on which a frame is refused before its fields are read. Assumes nothing.
use Rattle.std.specs.Prelude.{ℕ, ◌+◌, ◌*◌, Bool, false, cond, not, List, [], ◌∷◌, length, find, is_some, Some, None, Ok, Err, Option, Result, ◌==◌, slice_index}
use Rattle.interface.specs.declared.fault.TextFault.{TextFault}
use Rattle.interface.specs.declared.fault.FrameFault.{FrameFault}
use Rattle.interface.specs.declared.fault.FrameFault.TheVariants.{Text, Kind, Order, Length}
use Rattle.interface.specs.Grounds.{first_fault}
use Rattle.wire.specs.Bytes.{unhex}
use Rattle.wire.specs.Text.{line_answer}
use Rattle.wire.specs.declared.frame.FrameKind.{FrameKind}

-- how many bytes a frame of this kind has, by its own second byte
abbrev pub size_of : FrameKind → List ℕ → ℕ
size_of k bs = k.base + k.each * slice_index bs 1

-- the first known kind of this code
abbrev pub find_kind : List FrameKind → ℕ → Option FrameKind
find_kind ks c = find (λ k. k.code == c) ks

-- the frame has as many bytes as its kind says
abbrev pub right_size : Option FrameKind → List ℕ → Bool
right_size None bs = false
right_size (Some k) bs = length bs == size_of k bs

-- the first frame is no home (code 1), or a later one is
abbrev pub misplaced : Bool → ℕ → Bool
misplaced first c = cond first (not (c == 1)) (c == 1)

-- the first byte is no known code; home frames stand elsewhere than first, or another stands there; the length is wrong
abbrev pub frame_grounds : List FrameKind → Bool → List ℕ → List (Bool × FrameFault)
frame_grounds ks first bs = (not (is_some (find_kind ks (slice_index bs 0))), Kind 1) ∷ (misplaced first (slice_index bs 0), Order 1) ∷ (not (right_size (find_kind ks (slice_index bs 0)) bs), Length 1) ∷ []

-- a line as a frame: what is wrong with the text comes first and is carried whole
abbrev pub next_frame : List FrameKind → Bool → Result (Option (List ℕ)) TextFault → Result (Option (List ℕ)) FrameFault
next_frame ks first (Err f) = Err (Text f)
next_frame ks first (Ok None) = Ok None
next_frame ks first (Ok (Some line)) = line_answer (first_fault (frame_grounds ks first (unhex line))) line
