-- The rules that a line may state. Assumes nothing.
use Rattle.std.specs.Prelude.{ℕ, cond, List, [], ◌∷◌, pos, ◌==◌, slice_index}
use Rattle.rules.specs.declared.apart.ApartRule.{ApartRule}
use Rattle.rules.specs.declared.joined.Joined.{Joined}
use Rattle.rules.specs.declared.joined.Joined.TheVariants.{First, Second}
use Rattle.rules.specs.declared.step.StepRule.{StepRule}
use Rattle.rules.specs.Any.{AnyRule}
use Rattle.rules.specs.Aparts.{apart_codec}
use Rattle.rules.specs.Pairs.{pair_codec}
use Rattle.rules.specs.Steps.{step_codec}
use Rattle.sum_rule.specs.Sums.{sum_codec}
use Rattle.wire.specs.declared.frame.FrameKind.{FrameKind}
use Rattle.wire.specs.Frames.{by_table}
use Rattle.wire.specs.HomeFrame.{home_frame}

-- by its first byte: 2 is a pair, 3 a sum, 5 an apart, and any other that is known a step
abbrev pub other_rule : ℕ → List ℕ → Joined ApartRule StepRule
other_rule code bs = cond (code == 5) (First ((by_table apart_codec).read bs)) (Second ((by_table step_codec).read bs))

abbrev pub rule_of : List ℕ → AnyRule
rule_of bs = cond (slice_index bs 0 == 2) (First ((by_table pair_codec).read bs)) (cond (slice_index bs 0 == 3) (Second (First ((by_table sum_codec).read bs))) (Second (Second (other_rule (slice_index bs 0) bs))))

-- the kinds of frame that a line may be
abbrev pub known_kinds : List FrameKind
known_kinds = home_frame.kind ∷ (by_table pair_codec).kind ∷ (by_table sum_codec).kind ∷ (by_table apart_codec).kind ∷ (by_table step_codec).kind ∷ []

-- a record to fill an array with
abbrev pub filler : AnyRule
filler = First (record { p = 0; q = 0; c = pos 0 })
