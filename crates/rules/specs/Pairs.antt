-- The pair rule: v(p) + v(q) is at most c. Assumes nothing.
use Rattle.std.specs.Prelude.{ℕ, ◌*◌, Bool, true, false, cond, not, List, [], ◌∷◌, ℤ, pos, ◌+ℤ◌, neg_ℤ, None, Option, ◌==◌, int_le, int_lt, nat_le, slice_index_or, unsigned_abs}
use Rattle.std.specs.Int.{w8, w32}
use Rattle.interface.specs.declared.cut.Cut.{Cut}
use Rattle.interface.specs.declared.fault.RecordFault.{RecordFault}
use Rattle.interface.specs.declared.fault.RecordFault.TheVariants.{Node, Clash, Number}
use Rattle.interface.specs.declared.reading.Reading.{Reading}
use Rattle.interface.specs.Grounds.{first_fault}
use Rattle.interface.specs.Nodes.{opp, value}
use Rattle.interface.specs.Numbers.{within}
use Rattle.interface.specs.Readings.{limit_at}
use Rattle.interface.specs.Guards.{CoreModel}
use Rattle.wire.specs.Frames.{Field, field, field_place, Codec}
use Rattle.rules.specs.declared.pair.PairRule.{PairRule}
use Rattle.rule_base.specs.Bounds.{cut_at}

-- the fields behind the frame's code
abbrev p_field : Field
p_field = field 1 w8 false

abbrev q_field : Field
q_field = field 2 w8 false

abbrev c_field : Field
c_field = field 3 w32 true

-- p, then q, not on the line; opposite nodes; c beyond two million
abbrev pub pair_grounds : ℕ → PairRule → List (Bool × RecordFault)
pair_grounds n r =
    (nat_le (2 * n) r.p, Node (field_place p_field)) ∷ (nat_le (2 * n) r.q, Node (field_place q_field))
    ∷ ((r.q == opp r.p), Clash (field_place q_field))
    ∷ (not (within 2000000 r.c), Number (field_place c_field)) ∷ []

-- the point x keeps v(p) + v(q) at most c
abbrev pub pair_meets : PairRule → List ℤ → Bool
pair_meets r x = int_le (value x r.p +ℤ value x r.q) r.c

-- v(p) + v(q) is at least minus the limit at the opposite nodes
abbrev pub pair_none : PairRule → Reading → Bool
pair_none r g = int_lt r.c (neg_ℤ (limit_at g (opp r.p) (opp r.q)))

-- v(p) + v(q) is at most the limit
abbrev pub pair_all : PairRule → Reading → Bool
pair_all r g = int_le (limit_at g r.p r.q) r.c

-- the rule as a cut
abbrev pub pair_cut : PairRule → Option Cut
pair_cut r = cut_at r.p r.q r.c

-- the standing cut and cut 0 are the rule itself
abbrev pub pair_core : CoreModel PairRule
pair_core = record {
  grounds = pair_grounds;
  meets = pair_meets;
  none_within = pair_none;
  all_within = pair_all;
  standing = pair_cut;
  proposed = λ r g i. cond (i == 0) (pair_cut r) None;
}

-- the frame: 02, p, q, c
abbrev pub pair_codec : Codec PairRule
pair_codec = record {
  code = 2;
  table = p_field ∷ q_field ∷ c_field ∷ [];
  fields = λ r. pos r.p ∷ pos r.q ∷ r.c ∷ [];
  from = λ zs. record { p = unsigned_abs (slice_index_or zs 0 (pos 0)); q = unsigned_abs (slice_index_or zs 1 (pos 0)); c = slice_index_or zs 2 (pos 0) };
  check = λ n r. first_fault (pair_grounds n r);
}
