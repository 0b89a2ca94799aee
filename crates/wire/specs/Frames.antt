-- What a frame means: its model, the round trips that every frame keeps, and frames that go by a table of fields. Assumes nothing.
use Rattle.std.specs.Prelude.{◌≡◌, ℕ, ◌+◌, ◌^◌, ◌<◌, ◌≤◌, Bool, cond, List, [], ◌∷◌, ◌++◌, length, ℤ, pos, Ok, Result, slice_index_or, unsigned_abs}
use Rattle.std.specs.Int.{Width}
use mir.Val.{to_z, of_z, bytes}
use Rattle.std.specs.List.{All}
use Rattle.interface.specs.declared.fault.RecordFault.{RecordFault}
use Rattle.wire.specs.declared.frame.FrameKind.{FrameKind}
use Rattle.wire.specs.Bytes.{be, val, part}
use Rattle.wire.specs.Kinds.{size_of}

-- a record as a frame: its kind, the record that bytes give and the bytes that a record gives, on every value;
-- the record with what does not count set to 0; and the record's check on a line of n settings
pub record FrameModel (R : Type 0) : Type 0 where
  pub kind : FrameKind
  pub read : List ℕ → R
  pub write : R → List ℕ
  pub counted : R → R
  pub check : ℕ → R → Result (Unit {0}) RecordFault

-- the frame is accepted on a line of n settings: its code, its length, bytes, and a record that passes its check
pub record Accepted {R : Type 0} (M : FrameModel R) (n : ℕ) (bs : List ℕ) : Type 0 where
  pub coded : slice_index_or bs 0 0 ≡ M.kind.code
  pub sized : length bs ≡ size_of M.kind bs
  pub small : All (λ b. b < 256) bs
  pub passes : M.check n (M.read bs) ≡ Ok tt

-- the round trips, for every n from 1 to 8
pub record FrameLaws {R : Type 0} (M : FrameModel R) : Type 0 where
  -- a record that passes its check is written as a frame that is accepted, and reading that gives the record back
  pub written_accepted : (n : ℕ) → 0 < n → n ≤ 8 → (r : R) → M.check n r ≡ Ok tt → Accepted M n (M.write r)
  pub read_written : (n : ℕ) → 0 < n → n ≤ 8 → (r : R) → M.check n r ≡ Ok tt → M.read (M.write r) ≡ M.counted r
  -- writing what was read from a frame that is accepted gives the frame back
  pub written_read : (n : ℕ) → 0 < n → n ≤ 8 → (bs : List ℕ) → Accepted M n bs → M.write (M.read bs) ≡ bs

-- a field: the frame byte, counted from 0, that starts it, its width, and whether it is signed by two's complement
pub record Field : Type 0 where
  pub offset : ℕ
  pub width : Width
  pub signed : Bool

abbrev pub field : ℕ → Width → Bool → Field
field i w s = record { offset = i; width = w; signed = s }

-- a field's place in a fault: the frame byte, counted from 1, that starts it
abbrev pub field_place : Field → ℕ
field_place f = f.offset + 1

-- the number that a field's bytes write, as a signed or an unsigned value, and back
abbrev pub field_value : Field → ℕ → ℤ
field_value f x = cond f.signed (to_z f.width x) (pos x)

abbrev pub field_bits : Field → ℤ → ℕ
field_bits f z = cond f.signed (of_z f.width z) (unsigned_abs z)

abbrev pub read_field : Field → List ℕ → ℤ
read_field f bs = field_value f (val (part (bytes f.width) f.offset bs))

abbrev pub write_field : Field → ℤ → List ℕ
write_field f z = be (bytes f.width) (field_bits f z)

-- all fields of a table
abbrev pub read_fields : List Field → List ℕ → List ℤ
read_fields [] bs = []
read_fields (f ∷ fs) bs = read_field f bs ∷ read_fields fs bs

abbrev pub write_fields : List Field → List ℤ → List ℕ
write_fields [] zs = []
write_fields (f ∷ fs) [] = []
write_fields (f ∷ fs) (z ∷ zs) = write_field f z ++ write_fields fs zs

-- how many bytes the fields of a table have
abbrev pub widths : List Field → ℕ
widths [] = 0
widths (f ∷ fs) = bytes f.width + widths fs

-- the fields follow one another without a gap, the first at byte i
abbrev pub Laid : ℕ → List Field → Type 0
Laid i [] = Unit {0}
Laid i (f ∷ fs) = (f.offset ≡ i) × Laid (i + bytes f.width) fs

-- the value fits the field: as many bytes hold it, and it comes back from them
abbrev pub Fit : Field → ℤ → Type 0
Fit f z = (field_bits f z < 256 ^ bytes f.width) × (field_value f (field_bits f z) ≡ z)

abbrev pub FitAll : List Field → List ℤ → Type 0
FitAll [] [] = Unit {0}
FitAll [] (z ∷ zs) = ⊥
FitAll (f ∷ fs) [] = ⊥
FitAll (f ∷ fs) (z ∷ zs) = Fit f z × FitAll fs zs

-- a frame of fixed length: its code, the table of the fields behind it, the record's values in that order and back, and its check
pub record Codec (R : Type 0) : Type 0 where
  pub code : ℕ
  pub table : List Field
  pub fields : R → List ℤ
  pub from : List ℤ → R
  pub check : ℕ → R → Result (Unit {0}) RecordFault

abbrev pub by_table : {R : Type 0} → Codec R → FrameModel R
by_table C = record {
  kind = record { code = C.code; base = 1 + widths C.table; each = 0 };
  read = λ bs. C.from (read_fields C.table bs);
  write = λ r. C.code ∷ write_fields C.table (C.fields r);
  counted = λ r. r;
  check = C.check;
}

-- what is left to show of a table: both round trips then follow
pub record CodecLaws {R : Type 0} (C : Codec R) : Type 0 where
  pub code_small : C.code < 256
  pub laid : Laid 1 C.table
  pub from_fields : (r : R) → C.from (C.fields r) ≡ r
  pub fields_from : (bs : List ℕ) → C.fields (C.from (read_fields C.table bs)) ≡ read_fields C.table bs
  pub fit : (n : ℕ) → 0 < n → n ≤ 8 → (r : R) → C.check n r ≡ Ok tt → FitAll C.table (C.fields r)
