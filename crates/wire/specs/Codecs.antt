-- Fields that follow one another are read and written one after the other, so both round trips go field by field. Assumes nothing.
use Rattle.std.specs.Prelude.{◌≡◌, ℕ, zero, suc, ◌+◌, ◌^◌, ◌<◌, ◌≤◌, Bool, true, false, List, [], ◌∷◌, ◌++◌, length, drop, ℤ, pos, Ok, FitsSigned, slice_index, slice_index_or, refl}
use Rattle.std.proofs.Common.{◌⊎◌, inl, inr, ap, sym, ◌∙◌, subst, arith}
use Rattle.std.proofs.Math.Facts.{Fits-of_z}
use Rattle.std.specs.Int.{Width, w8, w16, w32, w64, w128}
use mir.Val.{of_z, bytes, bits}
use Rattle.std.specs.List.{All}
use Rattle.std.proofs.lemmas.List.Elements.{All-nil, All-cons, All-append}
use Rattle.std.proofs.lemmas.List.{ext_get_or, drop_more, drop_all, get_or_at, get_or_past, append_assoc, length_push, length-append}
use Rattle.std.proofs.lemmas.Bool.{cases_lt}
use Rattle.std.proofs.lemmas.Int.{to_z-of_z, of_z-to_z}
use Rattle.wire.specs.Bytes.{be, val, part}
use Rattle.wire.specs.Frames.{FrameLaws, Field, field, Codec, CodecLaws, by_table, field_value, field_bits, read_field, write_field, read_fields, write_fields, widths, Laid, Fit, FitAll}
use Rattle.wire.specs.BigEndian.{length_be, small_be, val_be, be_val, val_below}

-- the part of a list that stands behind p
pub part_at : (p q s : List ℕ) → part (length q) (length p) (p ++ (q ++ s)) ≡ q
part_at p [] s = refl
part_at p (b ∷ q) s =
    let here : slice_index_or (p ++ (b ∷ (q ++ s))) (length p) 0 ≡ b = get_or_at p b (q ++ s) 0 (length p) refl in
    let there : part (length q) (length p + 1) (p ++ (b ∷ (q ++ s))) ≡ q = ap (λ i. part (length q) i (p ++ (b ∷ (q ++ s)))) (sym (length_push p b)) ∙ ap (part (length q) (length (p ++ b ∷ []))) (sym (append_assoc p (b ∷ []) (q ++ s))) ∙ part_at (p ++ b ∷ []) q s in
    λ i. here i ∷ there i

pub length_part : (w i : ℕ) (bs : List ℕ) → length (part w i bs) ≡ w
length_part zero i bs = refl
length_part (suc w) i bs = ap suc (length_part w (i + 1) bs)

pub byte_small : (bs : List ℕ) (i : ℕ) → All (λ b. b < 256) bs → slice_index bs i < 256
byte_small bs i a = way (cases_lt i (length bs))
  where
    way : (i < length bs) ⊎ (length bs ≤ i) → slice_index bs i < 256
    way (inl lt) = a i 0 lt
    way (inr le) = rw (get_or_past bs i 0 le) (omega arith)

pub small_part : (w i : ℕ) (bs : List ℕ) → All (λ b. b < 256) bs → All (λ b. b < 256) (part w i bs)
small_part zero i bs a = All-nil (λ b. b < 256)
small_part (suc w) i bs a = All-cons (λ b. b < 256) (slice_index bs i) (part w (i + 1) bs) (byte_small bs i a) (small_part w (i + 1) bs a)

pub get_or_part : (w i : ℕ) (bs : List ℕ) (r : ℕ) → r < w → slice_index (part w i bs) r ≡ slice_index bs (i + r)
get_or_part zero i bs r h = absurd (omega arith)
get_or_part (suc w) i bs zero h = ap (λ k. slice_index bs k) (omega arith)
get_or_part (suc w) i bs (suc r) h = get_or_part w (i + 1) bs r (omega arith) ∙ ap (λ k. slice_index bs k) (omega arith)

pub part_is : (w i : ℕ) (bs q : List ℕ) → length q ≡ w → ((r : ℕ) → r < w → slice_index bs (i + r) ≡ slice_index q r) → part w i bs ≡ q
part_is w i bs q long same = ext_get_or 0 (part w i bs) q (length_part w i bs ∙ sym long) (λ r h. get_or_part w i bs r (omega (arith, length_part w i bs)) ∙ same r (omega (arith, length_part w i bs)))

-- a part and what follows it
part_drop : (w i : ℕ) (bs : List ℕ) → i + w ≤ length bs → part w i bs ++ drop (i + w) bs ≡ drop i bs
part_drop zero i bs h = ap (λ k. drop k bs) (omega arith)
part_drop (suc w) i bs h = ap (λ k. slice_index bs i ∷ k) (ap (λ k. part w (i + 1) bs ++ drop k bs) (omega arith) ∙ part_drop w (i + 1) bs (omega arith)) ∙ sym (drop_more bs i 0 (omega arith))

pub bytes_bits : (w : Width) → 256 ^ bytes w ≡ 2 ^ bits w
bytes_bits w8 = refl
bytes_bits w16 = refl
bytes_bits w32 = refl
bytes_bits w64 = refl
bytes_bits w128 = refl

-- every width has a byte
bytes_some : (w : Width) → (k : ℕ) × (bytes w ≡ suc k)
bytes_some w8 = (0, refl)
bytes_some w16 = (1, refl)
bytes_some w32 = (3, refl)
bytes_some w64 = (7, refl)
bytes_some w128 = (15, refl)

val_be_width : (w : Width) (x : ℕ) → x < 256 ^ bytes w → val (be (bytes w) x) ≡ x
val_be_width w x h =
    let (k, e) = bytes_some w in
    ap (λ m. val (be m x)) e ∙ val_be k x (subst (λ m. x < 256 ^ m) e h)

bits_value : (f : Field) (x : ℕ) → x < 256 ^ bytes f.width → field_bits f (field_value f x) ≡ x
bits_value f x h = by f.signed
  where
    by : (s : Bool) → field_bits (record { offset = f.offset; width = f.width; signed = s }) (field_value (record { offset = f.offset; width = f.width; signed = s }) x) ≡ x
    by true = of_z-to_z f.width x (subst (λ m. x < m) (bytes_bits f.width) h)
    by false = refl

-- a field behind p is read as it was written
read_one : (f : Field) (z : ℤ) (p s : List ℕ) → Fit f z → f.offset ≡ length p → read_field f (p ++ (write_field f z ++ s)) ≡ z
read_one f z p s fit at =
    let long = length_be (bytes f.width) (field_bits f z) in
    let bs = p ++ (write_field f z ++ s) in
    let e : part (bytes f.width) f.offset bs ≡ write_field f z = ap (λ w. part w f.offset bs) (sym long) ∙ ap (λ i. part (length (write_field f z)) i bs) at ∙ part_at p (write_field f z) s in
    ap (λ q. field_value f (val q)) e ∙ ap (field_value f) (val_be_width f.width (field_bits f z) fit.0) ∙ fit.1

read_all : (fs : List Field) (zs : List ℤ) (p : List ℕ) → FitAll fs zs → Laid (length p) fs → read_fields fs (p ++ write_fields fs zs) ≡ zs
read_all [] [] p fit laid = refl
read_all [] (z ∷ zs) p fit laid = absurd fit
read_all (f ∷ fs) [] p fit laid = absurd fit
read_all (f ∷ fs) (z ∷ zs) p fit laid =
    let first = write_field f z in
    let more = write_fields fs zs in
    let long : length p + bytes f.width ≡ length (p ++ first) = sym (length-append p first ∙ ap (λ k. length p + k) (length_be (bytes f.width) (field_bits f z))) in
    let there : read_fields fs (p ++ (first ++ more)) ≡ zs = ap (read_fields fs) (sym (append_assoc p first more)) ∙ read_all fs zs (p ++ first) fit.1 (subst (λ i. Laid i fs) long laid.1) in
    λ i. read_one f z p more fit.0 laid.0 i ∷ there i

length_fields : (fs : List Field) (zs : List ℤ) → FitAll fs zs → length (write_fields fs zs) ≡ widths fs
length_fields [] [] fit = refl
length_fields [] (z ∷ zs) fit = absurd fit
length_fields (f ∷ fs) [] fit = absurd fit
length_fields (f ∷ fs) (z ∷ zs) fit = length-append (write_field f z) (write_fields fs zs) ∙ ap (λ k. k + length (write_fields fs zs)) (length_be (bytes f.width) (field_bits f z)) ∙ ap (λ k. bytes f.width + k) (length_fields fs zs fit.1)

small_fields : (fs : List Field) (zs : List ℤ) → FitAll fs zs → All (λ b. b < 256) (write_fields fs zs)
small_fields [] [] fit = All-nil (λ b. b < 256)
small_fields [] (z ∷ zs) fit = absurd fit
small_fields (f ∷ fs) [] fit = absurd fit
small_fields (f ∷ fs) (z ∷ zs) fit = All-append (λ b. b < 256) (write_field f z) (write_fields fs zs) (small_be (bytes f.width) (field_bits f z) fit.0.0) (small_fields fs zs fit.1)

-- a field is written as it was read
pub write_one : (f : Field) (bs : List ℕ) → All (λ b. b < 256) bs → write_field f (read_field f bs) ≡ part (bytes f.width) f.offset bs
write_one f bs a =
    let q = part (bytes f.width) f.offset bs in
    let long : length q ≡ bytes f.width = length_part (bytes f.width) f.offset bs in
    let small = small_part (bytes f.width) f.offset bs a in
    ap (be (bytes f.width)) (bits_value f (val q) (subst (λ w. val q < 256 ^ w) long (val_below q small))) ∙ ap (λ w. be w (val q)) (sym long) ∙ be_val q small

write_all : (fs : List Field) (i : ℕ) (bs : List ℕ) → All (λ b. b < 256) bs → Laid i fs → length bs ≡ i + widths fs → write_fields fs (read_fields fs bs) ≡ drop i bs
write_all [] i bs a laid long = sym (drop_all i bs (omega arith))
write_all (f ∷ fs) i bs a laid long =
    ap (λ q. q ++ write_fields fs (read_fields fs bs)) (write_one f bs a ∙ ap (λ k. part (bytes f.width) k bs) laid.0)
    ∙ ap (λ q. part (bytes f.width) i bs ++ q) (write_all fs (i + bytes f.width) bs a laid.1 (omega arith))
    ∙ part_drop (bytes f.width) i bs (omega arith)

module _ {R : Type 0} (C : Codec R) (L : CodecLaws C) where
  back : (n : ℕ) → 0 < n → n ≤ 8 → (r : R) → C.check n r ≡ Ok tt → (by_table C).read ((by_table C).write r) ≡ r
  back n low high r ok = ap C.from (read_all C.table (C.fields r) (C.code ∷ []) (L.fit n low high r ok) L.laid) ∙ L.from_fields r

  -- both round trips of a frame that goes by a table
  pub by_table_laws : FrameLaws (by_table C)
  by_table_laws = record {
    written_accepted = λ n low high r ok. record {
      coded = refl;
      sized = omega (arith, length_fields C.table (C.fields r) (L.fit n low high r ok));
      small = All-cons (λ b. b < 256) C.code (write_fields C.table (C.fields r)) L.code_small (small_fields C.table (C.fields r) (L.fit n low high r ok));
      passes = ap (C.check n) (back n low high r ok) ∙ ok;
    };
    read_written = back;
    written_read = λ n low high bs a.
        let long : length bs ≡ 1 + widths C.table = omega (arith, a.sized) in
        let rest = ap (write_fields C.table) (L.fields_from bs) ∙ write_all C.table 1 bs a.small L.laid long in
        let all : bs ≡ slice_index bs 0 ∷ drop 1 bs = drop_more bs 0 0 (omega arith) in
        let code = sym a.coded in
        let both : C.code ∷ write_fields C.table (C.fields (C.from (read_fields C.table bs))) ≡ slice_index bs 0 ∷ drop 1 bs = λ i. code i ∷ rest i in
        both ∙ sym all;
  }

-- a byte without a sign, and a number that its signed width holds, fit their fields
pub fit_byte : (i x : ℕ) → x < 256 → Fit (field i w8 false) (pos x)
fit_byte i x h = (h, refl)

pub fit_signed : (i : ℕ) (w : Width) (z : ℤ) → FitsSigned w z → Fit (field i w true) z
fit_signed i w z h = (subst (λ m. of_z w z < m) (sym (bytes_bits w)) (Fits-of_z h).fits, to_z-of_z w z h)
