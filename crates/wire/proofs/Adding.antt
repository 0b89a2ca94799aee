-- Lines that all have room stand one after another: each is written where the one before it ends. Assumes nothing.
use Rattle.std.proofs.Common.{◌≡◌, ℕ, ◌+◌, ◌*◌, ◌≤◌, true, false, ltb, List, [], ◌∷◌, ◌++◌, length, Some, None, sym, refl, ap, ◌∙◌, arith}
use Rattle.std.specs.List.{flat_map}
use Rattle.std.proofs.lemmas.List.{length_push}
use Rattle.std.proofs.lemmas.Bool.{cond-true, cond-false, lt-ltb, ltb-true}
use Rattle.wire.specs.Bytes.{hex}
use Rattle.wire.specs.Output.{written, line_of}
use Rattle.wire.proofs.Hex.{length_hex}
use Rattle.wire.proofs.Written.{written_none, written_long, written_on, writes_on}
use Rattle.wire.specs.declared.output.Output.{Output}
use Rattle.wire.specs.Appending.{Lines, lines, lines_in, has_room, Appends, Writes, place_after, put_frame, put_frames, line_size, lines_size, WrittenWhole}

line_long : (bs : List ℕ) → length (line_of bs) ≡ line_size bs
line_long bs = length_push (hex bs) 10 ∙ omega (arith, length_hex bs)

-- a line that has room
put_one : (d : List ℕ) (i : ℕ) (bs : List ℕ) → i + line_size bs ≤ length d → put_frame (lines d i) bs ≡ lines (written d i (line_of bs)) (i + line_size bs)
put_one d i bs room =
    let fits : ltb (i + 2 * length bs) (length d) ≡ true = lt-ltb (i + 2 * length bs) (length d) (omega arith) in
    let output = cond-true (ltb (i + 2 * length bs) (length d)) (written d i (line_of bs)) d fits in
    let place = ap (place_after i) (cond-true (ltb (i + 2 * length bs) (length d)) (Some (i + 2 * length bs + 1)) None fits) ∙ omega arith in
    λ k. lines (output k) (place k)

put_whole : (fs : List (List ℕ)) (d : List ℕ) (i : ℕ) → i + lines_size fs ≤ length d → put_frames (lines d i) fs ≡ lines (written d i (flat_map line_of fs)) (i + lines_size fs)
put_whole [] d i room =
    let same : i ≡ i + 0 = omega arith in
    λ k. lines (written_none d i k) (same k)
put_whole (f ∷ fs) d i room =
    let one = put_one d i f (omega arith) in
    let here : i + length (line_of f) ≤ length d = omega (arith, line_long f) in
    let long : length (written d i (line_of f)) ≡ length d = written_long d i (line_of f) here in
    let more = put_whole fs (written d i (line_of f)) (i + line_size f) (omega (arith, long)) in
    let place : i + line_size f ≡ i + length (line_of f) = ap (λ k. i + k) (sym (line_long f)) in
    let on = ap (λ k. written (written d i (line_of f)) k (flat_map line_of fs)) place ∙ written_on d i (line_of f) here (flat_map line_of fs) in
    let end : i + line_size f + lines_size fs ≡ i + (line_size f + lines_size fs) = omega arith in
    ap (λ s. put_frames s fs) one ∙ more ∙ (λ k. lines (on k) (end k))

pub written_whole : (s t : Lines) (fs : List (List ℕ)) → t ≡ put_frames s fs → WrittenWhole s fs t
written_whole s t fs put room =
    let whole = put ∙ put_whole fs s.output s.place room in
    (ap (λ (s : Lines). s.output) whole, ap (λ (s : Lines). s.place) whole)

-- frames behind frames
pub put_on : (fs gs : List (List ℕ)) (s : Lines) → put_frames s (fs ++ gs) ≡ put_frames (put_frames s fs) gs
put_on [] gs s = refl
put_on (f ∷ fs) gs s = put_on fs gs (put_frame s f)

-- an output with a line that has room, and without one that has none
module _ (o : Output) (bs : List ℕ) where
  pub fitting : (p q : Output) → has_room (lines_in o) bs ≡ true → Writes o p (hex bs) → Writes p q (10 ∷ []) → Appends o q (bs ∷ [])
  fitting p q room digits feed =
      let below = ltb-true (o.at + 2 * length bs) (length o.bytes.now) room in
      let line = writes_on o p (hex bs) digits (omega (arith, length_hex bs)) q (10 ∷ []) feed in
      let place = ap (λ k. lines (written o.bytes.now o.at (line_of bs)) (o.at + k)) (line_long bs) in
      let long = ap (λ (l : Lines). length l.output) line.bytes_put ∙ written_long o.bytes.now o.at (line_of bs) (omega (arith, line_long bs)) in
      record { same_bytes = line.same_bytes; same_length = long; lines_put = line.bytes_put ∙ place ∙ sym (put_one o.bytes.now o.at bs (omega arith)) }

  pub left_out : has_room (lines_in o) bs ≡ false → Appends o o (bs ∷ [])
  left_out none =
      let output = cond-false (has_room (lines_in o) bs) (written o.bytes.now o.at (line_of bs)) o.bytes.now none in
      let place = ap (place_after o.at) (cond-false (has_room (lines_in o) bs) (Some (o.at + 2 * length bs + 1)) None none) in
      record { same_bytes = refl; same_length = refl; lines_put = sym (λ k. lines (output k) (place k)) }

-- an output with the frames of two turns
pub appends_none : (o : Output) → Appends o o []
appends_none o = record { same_bytes = refl; same_length = refl; lines_put = refl }

pub appends_on : (a b c : Output) (fs gs : List (List ℕ)) → Appends a b fs → Appends b c gs → Appends a c (fs ++ gs)
appends_on a b c fs gs p q = record {
  same_bytes = q.same_bytes ∙ p.same_bytes;
  same_length = q.same_length ∙ p.same_length;
  lines_put = q.lines_put ∙ ap (λ (s : Lines). put_frames s gs) p.lines_put ∙ sym (put_on fs gs (lines_in a));
}
