-- What is written grows at its end: bytes that are written behind others stand with them in one piece. Assumes nothing.
use Rattle.std.proofs.Common.{◌≡◌, ℕ, ◌+◌, ◌<◌, ◌≤◌, List, [], ◌∷◌, ◌++◌, length, take, drop, set, sym, ap, ◌∙◌, add-zero, add-one, refl, arith}
use Rattle.std.proofs.lemmas.List.{append_assoc, take-append-drop, set_split, length-append, length-drop, length-take-le, take_at, drop_at, drop-drop}
use Rattle.wire.specs.declared.output.Output.{Output}
use Rattle.wire.specs.Appending.{Lines, lines, Writes}
use Rattle.wire.specs.Output.{written}

pub written_none : (d : List ℕ) (i : ℕ) → d ≡ written d i []
unfolding written
written_none d i = rw add-zero (sym (take-append-drop i d))

pub written_one : (d : List ℕ) (i x : ℕ) → i < length d → set d i x ≡ written d i (x ∷ [])
unfolding written
written_one d i x h = rw add-one (set_split d i x h)

module _ (d : List ℕ) (i : ℕ) (s : List ℕ) (room : i + length s ≤ length d) where
  abbrev front : List ℕ
  front = take i d ++ s

  front_long : length front ≡ i + length s
  front_long = length-append (take i d) s ∙ ap (λ k. k + length s) (length-take-le i d (omega arith))

  apart : written d i s ≡ front ++ drop (i + length s) d
  unfolding written
  apart = sym (append_assoc (take i d) s (drop (i + length s) d))

  pub written_long : length (written d i s) ≡ length d
  written_long = ap length apart ∙ length-append front (drop (i + length s) d) ∙ omega (arith, front_long, length-drop (i + length s) d)

  -- what is written behind what was written
  pub written_on : (t : List ℕ) → written (written d i s) (i + length s) t ≡ written d i (s ++ t)
  unfolding written
  written_on t =
      let j = i + length s in
      let rest = drop j d in
      let start : take j (written d i s) ≡ front = ap (take j) apart ∙ take_at front rest j front_long in
      let end : drop (j + length t) (written d i s) ≡ drop (i + length (s ++ t)) d =
      sym (drop-drop (length t) j (written d i s)) ∙ ap (λ z. drop (length t) (drop j z)) apart ∙ ap (drop (length t)) (drop_at front rest j front_long) ∙ drop-drop (length t) j d ∙ ap (λ k. drop k d) (omega (arith, length-append s t)) in
      (λ k. start k ++ (t ++ end k)) ∙ append_assoc (take i d) s (t ++ drop (i + length (s ++ t)) d) ∙ ap (λ z. take i d ++ z) (sym (append_assoc s t (drop (i + length (s ++ t)) d)))

-- the same for an output
pub writes_none : (o : Output) → Writes o o []
writes_none o =
    let place : o.at ≡ o.at + 0 = omega arith in
    record { same_bytes = refl; bytes_put = λ k. lines (written_none o.bytes.now o.at k) (place k) }

module _ (a b : Output) (s : List ℕ) (first : Writes a b s) where
  pub writes_on : a.at + length s ≤ length a.bytes.now → (c : Output) (t : List ℕ) → Writes b c t → Writes a c (s ++ t)
  writes_on room c t more =
      let bytes = written_on a.bytes.now a.at s room t in
      let place : a.at + length s + length t ≡ a.at + length (s ++ t) = omega (arith, length-append s t) in
      record {
        same_bytes = more.same_bytes ∙ first.same_bytes;
        bytes_put = more.bytes_put ∙ ap (λ (l : Lines). lines (written l.output l.place t) (l.place + length t)) first.bytes_put ∙ (λ k. lines (bytes k) (place k));
      }

  -- what had room behind s still has
  pub writes_room : (n : ℕ) → a.at + length s + n ≤ length a.bytes.now → b.at + n ≤ length b.bytes.now
  writes_room n room =
      let place : b.at ≡ a.at + length s = ap (λ (l : Lines). l.place) first.bytes_put in
      let long : length b.bytes.now ≡ length a.bytes.now = ap (λ (l : Lines). length l.output) first.bytes_put ∙ written_long a.bytes.now a.at s (omega arith) in
      omega arith
