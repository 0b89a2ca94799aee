-- The apart rule: two settings differ by at least d. Assumes nothing.
use Rattle.std.specs.Prelude.{ℕ, ◌+◌, ◌*◌, Bool, true, false, cond, not, ◌&&◌, ◌||◌, List, [], ◌∷◌, ℤ, pos, ◌-ℤ◌, neg_ℤ, None, Option, ◌==◌, int_le, int_lt, nat_le, slice_index_or, unsigned_abs}
use Rattle.std.specs.Int.{w8, w32}
use Rattle.interface.specs.declared.cut.Cut.{Cut}
use Rattle.interface.specs.declared.fault.RecordFault.{RecordFault}
use Rattle.interface.specs.declared.fault.RecordFault.TheVariants.{Node, Clash, Number}
use Rattle.interface.specs.declared.reading.Reading.{Reading}
use Rattle.interface.specs.Grounds.{first_fault}
use Rattle.interface.specs.Readings.{limit_at}
use Rattle.interface.specs.Guards.{CoreModel}
use Rattle.wire.specs.Frames.{Field, field, field_place, Codec}
use Rattle.rules.specs.declared.apart.ApartRule.{ApartRule}
use Rattle.rule_base.specs.Bounds.{between, cut_at}

-- the fields behind the frame's code
abbrev a_field : Field
a_field = field 1 w8 false

abbrev b_field : Field
b_field = field 2 w8 false

abbrev d_field : Field
d_field = field 3 w32 true

-- a, then b, not on the line; one setting twice; d not from 1 to two million
abbrev pub apart_grounds : ℕ → ApartRule → List (Bool × RecordFault)
apart_grounds n r =
    (nat_le n r.a, Node (field_place a_field)) ∷ (nat_le n r.b, Node (field_place b_field))
    ∷ ((r.b == r.a), Clash (field_place b_field))
    ∷ (not (between (pos 1) (pos 2000000) r.d), Number (field_place d_field)) ∷ []

-- z is at least d away from 0
abbrev pub far : ℤ → ℤ → Bool
far d z = int_le d z || int_le z (neg_ℤ d)

-- no number from low to high is at least d away from 0
abbrev pub all_near : ℤ → ℤ → ℤ → Bool
all_near d low high = int_lt high d && int_lt (neg_ℤ d) low

-- each number from low to high lies on the same side, at least d away from 0
abbrev pub all_far : ℤ → ℤ → ℤ → Bool
all_far d low high = int_le d low || int_le high (neg_ℤ d)

-- in the point x the settings a and b differ by at least d
abbrev pub apart_meets : ApartRule → List ℤ → Bool
apart_meets r x = far r.d (slice_index_or x r.a (pos 0) -ℤ slice_index_or x r.b (pos 0))

-- the difference a - b is at least this and at most that
abbrev pub least_gap : ApartRule → Reading → ℤ
least_gap r g = neg_ℤ (limit_at g (2 * r.a + 1) (2 * r.b))

abbrev pub greatest_gap : ApartRule → Reading → ℤ
greatest_gap r g = limit_at g (2 * r.a) (2 * r.b + 1)

-- a - b is at most -d where it cannot reach d, else at least d where it cannot reach -d
abbrev pub apart_cut : ApartRule → Reading → Option Cut
apart_cut r g = cond (int_lt (greatest_gap r g) r.d) (cut_at (2 * r.a) (2 * r.b + 1) (neg_ℤ r.d)) (cond (int_lt (neg_ℤ r.d) (least_gap r g)) (cut_at (2 * r.a + 1) (2 * r.b) (neg_ℤ r.d)) None)

-- no standing cut, and no cut but cut 0
abbrev pub apart_core : CoreModel ApartRule
apart_core = record {
  grounds = apart_grounds;
  meets = apart_meets;
  none_within = λ r g. all_near r.d (least_gap r g) (greatest_gap r g);
  all_within = λ r g. all_far r.d (least_gap r g) (greatest_gap r g);
  standing = λ r. None;
  proposed = λ r g i. cond (i == 0) (apart_cut r g) None;
}

-- the frame: 05, a, b, d
abbrev pub apart_codec : Codec ApartRule
apart_codec = record {
  code = 5;
  table = a_field ∷ b_field ∷ d_field ∷ [];
  fields = λ r. pos r.a ∷ pos r.b ∷ r.d ∷ [];
  from = λ zs. record { a = unsigned_abs (slice_index_or zs 0 (pos 0)); b = unsigned_abs (slice_index_or zs 1 (pos 0)); d = slice_index_or zs 2 (pos 0) };
  check = λ n r. first_fault (apart_grounds n r);
}
