-- The sum rule: three coefficients times settings add up to at most t. Assumes nothing.
use Rattle.std.specs.Prelude.{◌≡◌, ℕ, ◌+◌, ◌*◌, Bool, true, false, cond, not, ◌&&◌, ◌||◌, List, [], ◌∷◌, ℤ, pos, ◌+ℤ◌, ◌-ℤ◌, ◌*ℤ◌, None, Option, ◌==◌, int_le, int_lt, nat_le, slice_index, slice_index_or, unsigned_abs}
use Rattle.std.proofs.Common.{to_z}
use Rattle.std.specs.Int.{int_div_euclid, w8, w32}
use Rattle.interface.specs.declared.cut.Cut.{Cut}
use Rattle.interface.specs.declared.fault.RecordFault.{RecordFault}
use Rattle.interface.specs.declared.fault.RecordFault.TheVariants.{Node, Clash, Number, Empty}
use Rattle.interface.specs.declared.reading.Reading.{Reading}
use Rattle.interface.specs.Grounds.{first_fault}
use Rattle.interface.specs.Numbers.{within}
use Rattle.interface.specs.Readings.{low_in, high_in}
use Rattle.interface.specs.Guards.{CoreModel}
use Rattle.wire.specs.Frames.{Field, field, field_place, Codec}
use Rattle.sum_rule.specs.declared.sum.SumRule.{SumRule}
use Rattle.sum_rule.specs.declared.sum.Term.{Term}
use Rattle.rule_base.specs.Bounds.{bounded, equal}

-- the product; shut, so that proofs take it as one name
unfoldable pub times : ℤ → ℤ → ℤ
times k z = k *ℤ z

-- the coefficient is 0: no term
abbrev pub is_empty : Term → Bool
is_empty u = equal u.coefficient (pos 0)

-- two terms that are not 0 have one setting
abbrev pub clash : Term → Term → Bool
clash u v = not (is_empty u) && (not (is_empty v) && u.setting == v.setting)

-- the coefficient is beyond a hundred, or 0 off setting 0
abbrev pub wrong_number : Term → Bool
wrong_number u = not (within 100 u.coefficient) || (is_empty u && not (u.setting == 0))

-- the fields behind the frame's code: term i's setting and coefficient, and t
abbrev setting_field : ℕ → Field
setting_field i = field (1 + 2 * i) w8 false

abbrev coefficient_field : ℕ → Field
coefficient_field i = field (2 + 2 * i) w8 true

abbrev t_field : Field
t_field = field 7 w32 true

-- a setting not on the line; one setting in two terms that are not 0; a wrong coefficient, then t; no term at all
abbrev pub sum_grounds : ℕ → SumRule → List (Bool × RecordFault)
sum_grounds n r =
    (nat_le n r.first.setting, Node (field_place (setting_field 0)))
    ∷ (nat_le n r.second.setting, Node (field_place (setting_field 1)))
    ∷ (nat_le n r.third.setting, Node (field_place (setting_field 2)))
    ∷ (clash r.first r.second, Clash (field_place (setting_field 1)))
    ∷ (clash r.first r.third, Clash (field_place (setting_field 2)))
    ∷ (clash r.second r.third, Clash (field_place (setting_field 2)))
    ∷ (wrong_number r.first, Number (field_place (coefficient_field 0)))
    ∷ (wrong_number r.second, Number (field_place (coefficient_field 1)))
    ∷ (wrong_number r.third, Number (field_place (coefficient_field 2)))
    ∷ (not (within 300000000 r.t), Number (field_place t_field))
    ∷ (is_empty r.first && (is_empty r.second && is_empty r.third), Empty 1) ∷ []

-- the term at the point x, and its least and greatest value within the reading
abbrev pub term_at : List ℤ → Term → ℤ
term_at x u = times u.coefficient (slice_index_or x u.setting (pos 0))

abbrev pub least_of : Reading → Term → ℤ
least_of g u = times u.coefficient (cond (int_lt u.coefficient (pos 0)) (high_in g u.setting) (low_in g u.setting))

abbrev pub greatest_of : Reading → Term → ℤ
greatest_of g u = times u.coefficient (cond (int_lt u.coefficient (pos 0)) (low_in g u.setting) (high_in g u.setting))

-- the total over the three terms
abbrev pub three : (Term → ℤ) → SumRule → ℤ
three f r = (f r.first +ℤ f r.second) +ℤ f r.third

-- z is the total over the three terms of amounts that P allows
abbrev pub ThreeOf : (Term → ℤ → Type 0) → SumRule → ℤ → Type 0
ThreeOf P r z = (a : ℤ) × (b : ℤ) × (c : ℤ) × P r.first a × P r.second b × P r.third c × (z ≡ (a +ℤ b) +ℤ c)

-- the total at the point x, or the least or greatest within the reading, against t
abbrev pub sum_meets : SumRule → List ℤ → Bool
sum_meets r x = int_le (three (term_at x) r) r.t

abbrev pub sum_none : SumRule → Reading → Bool
sum_none r g = int_lt r.t (three (least_of g) r)

abbrev pub sum_all : SumRule → Reading → Bool
sum_all r g = int_le (three (greatest_of g) r) r.t

-- what t leaves for the one term when the other two are least
abbrev pub left_for : SumRule → Reading → Term → Term → ℤ
left_for r g v w = r.t -ℤ (least_of g v +ℤ least_of g w)

-- the bound on the setting of the term u, or on its negative, rounded down
abbrev pub term_cut : SumRule → Reading → Term → Term → Term → Option Cut
term_cut r g u v w = cond (is_empty u) None (bounded (cond (int_lt u.coefficient (pos 0)) (2 * u.setting + 1) (2 * u.setting)) (int_div_euclid (left_for r g v w) (pos (unsigned_abs u.coefficient))))

-- cut i bounds the setting of term i
abbrev pub sum_cut : SumRule → Reading → ℕ → Option Cut
sum_cut r g i = cond (i == 0) (term_cut r g r.first r.second r.third) (cond (i == 1) (term_cut r g r.second r.first r.third) (cond (i == 2) (term_cut r g r.third r.first r.second) None))

-- no standing cut
abbrev pub sum_core : CoreModel SumRule
sum_core = record {
  grounds = sum_grounds;
  meets = sum_meets;
  none_within = sum_none;
  all_within = sum_all;
  standing = λ r. None;
  proposed = sum_cut;
}

-- the term whose setting is byte i, counted from 0, and whose coefficient is the byte behind it
abbrev pub read_term : List ℕ → ℕ → Term
read_term bs i = record { setting = slice_index bs i; coefficient = to_z w8 (slice_index bs (i + 1)) }

-- term i from the values of the fields
abbrev term_from : List ℤ → ℕ → Term
term_from zs i = record { setting = unsigned_abs (slice_index_or zs (2 * i) (pos 0)); coefficient = slice_index_or zs (2 * i + 1) (pos 0) }

-- the frame: 03, three times setting and coefficient, t
abbrev pub sum_codec : Codec SumRule
sum_codec = record {
  code = 3;
  table = setting_field 0 ∷ coefficient_field 0 ∷ setting_field 1 ∷ coefficient_field 1 ∷ setting_field 2 ∷ coefficient_field 2 ∷ t_field ∷ [];
  fields = λ r. pos r.first.setting ∷ r.first.coefficient ∷ pos r.second.setting ∷ r.second.coefficient ∷ pos r.third.setting ∷ r.third.coefficient ∷ r.t ∷ [];
  from = λ zs. record { first = term_from zs 0; second = term_from zs 1; third = term_from zs 2; t = slice_index_or zs 6 (pos 0) };
  check = λ n r. first_fault (sum_grounds n r);
}
