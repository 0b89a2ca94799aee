-- The step rule: a setting divided by m leaves r. Assumes nothing.
use Rattle.std.specs.Prelude.{◌≡◌, ℕ, ◌+◌, ◌*◌, Bool, true, false, cond, not, ◌&&◌, List, [], ◌∷◌, ℤ, pos, ◌+ℤ◌, ◌-ℤ◌, neg_ℤ, ◌≤ℤ◌, ◌<ℤ◌, None, Option, ◌==◌, int_le, int_lt, nat_le, slice_index_or, unsigned_abs}
use Rattle.std.specs.Int.{int_rem_euclid, w8, w32}
use Rattle.interface.specs.declared.cut.Cut.{Cut}
use Rattle.interface.specs.declared.fault.RecordFault.{RecordFault}
use Rattle.interface.specs.declared.fault.RecordFault.TheVariants.{Node, Number}
use Rattle.interface.specs.declared.reading.Reading.{Reading}
use Rattle.interface.specs.Grounds.{first_fault}
use Rattle.interface.specs.Readings.{low_in, high_in}
use Rattle.interface.specs.Guards.{CoreModel}
use Rattle.wire.specs.Frames.{Field, field, field_place, Codec}
use Rattle.rules.specs.declared.step.StepRule.{StepRule}
use Rattle.rule_base.specs.Bounds.{between, equal, bounded}

-- what z leaves when it is divided by m, rounded down; shut, so that proofs take it as one name
unfoldable pub rest : ℤ → ℤ → ℤ
rest m z = cond (int_lt (pos 0) m) (int_rem_euclid z m) (pos 0)

-- the fields behind the frame's code
abbrev a_field : Field
a_field = field 1 w8 false

abbrev m_field : Field
m_field = field 2 w32 true

abbrev r_field : Field
r_field = field 6 w32 true

-- a not on the line; m not from 2 to a million; r not from 0 to m - 1
abbrev pub step_grounds : ℕ → StepRule → List (Bool × RecordFault)
step_grounds n r =
    (nat_le n r.a, Node (field_place a_field))
    ∷ (not (between (pos 2) (pos 1000000) r.m), Number (field_place m_field)) ∷ (not (int_le (pos 0) r.r && int_lt r.r r.m), Number (field_place r_field)) ∷ []

-- z divided by m leaves r
abbrev pub leaves : StepRule → ℤ → Bool
leaves r z = equal (rest r.m z) r.r

-- in the point x the setting a leaves r
abbrev pub step_meets : StepRule → List ℤ → Bool
step_meets r x = leaves r (slice_index_or x r.a (pos 0))

-- the greatest value up to z that leaves r, and the least from z
abbrev pub last_up_to : StepRule → ℤ → ℤ
last_up_to r z = z -ℤ rest r.m (z -ℤ r.r)

abbrev pub first_from : StepRule → ℤ → ℤ
first_from r z = z +ℤ rest r.m (r.r -ℤ z)

-- the numbers pass the check: r is from 0 to m - 1
abbrev pub Divides : StepRule → Type 0
Divides r = (pos 0 ≤ℤ r.r) × (r.r <ℤ r.m)

-- v is the greatest value up to z that leaves r
pub record LastUpTo (r : StepRule) (z v : ℤ) : Type 0 where
  pub inside : v ≤ℤ z
  pub fits : leaves r v ≡ true
  pub most : (w : ℤ) → w ≤ℤ z → leaves r w ≡ true → w ≤ℤ v

-- v is the least value from z that leaves r
pub record FirstFrom (r : StepRule) (z v : ℤ) : Type 0 where
  pub inside : z ≤ℤ v
  pub fits : leaves r v ≡ true
  pub least : (w : ℤ) → z ≤ℤ w → leaves r w ≡ true → v ≤ℤ w

-- no value from low to high leaves r
abbrev pub none_leaves : StepRule → ℤ → ℤ → Bool
none_leaves r low high = int_lt (last_up_to r high) low

-- low to high is one value, and it leaves r
abbrev pub one_leaves : StepRule → ℤ → ℤ → Bool
one_leaves r low high = equal low high && leaves r low

-- cut 0 bounds the setting from above, cut 1 its negative
abbrev pub step_cut : StepRule → Reading → ℕ → Option Cut
step_cut r g i = cond (i == 0) (bounded (2 * r.a) (last_up_to r (high_in g r.a))) (cond (i == 1) (bounded (2 * r.a + 1) (neg_ℤ (first_from r (low_in g r.a)))) None)

-- no standing cut
abbrev pub step_core : CoreModel StepRule
step_core = record {
  grounds = step_grounds;
  meets = step_meets;
  none_within = λ r g. none_leaves r (low_in g r.a) (high_in g r.a);
  all_within = λ r g. one_leaves r (low_in g r.a) (high_in g r.a);
  standing = λ r. None;
  proposed = step_cut;
}

-- the frame: 06, a, m, r
abbrev pub step_codec : Codec StepRule
step_codec = record {
  code = 6;
  table = a_field ∷ m_field ∷ r_field ∷ [];
  fields = λ r. pos r.a ∷ r.m ∷ r.r ∷ [];
  from = λ zs. record { a = unsigned_abs (slice_index_or zs 0 (pos 0)); m = slice_index_or zs 1 (pos 0); r = slice_index_or zs 2 (pos 0) };
  check = λ n r. first_fault (step_grounds n r);
}
