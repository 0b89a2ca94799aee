-- Worked numbers of the definitions: halvings, proposed cuts, boxes, octagons, and a border of what is accepted. Assumes nothing.
use Rattle.std.specs.Prelude.{◌≡◌, ℕ, ◌<◌, true, List, [], ◌∷◌, replicate, ℤ, pos, neg_ℤ, ◌≤ℤ◌, Some, Ok, Err, refl}
use Rattle.interface.specs.declared.cut.Cut.{Cut}
use Rattle.interface.specs.declared.fault.RecordFault.TheVariants.{Number}
use Rattle.interface.specs.declared.home.Home.{Home}
use Rattle.interface.specs.declared.reading.Reading.{Reading}
use Rattle.interface.specs.CutBounds.{valid_cut}
use Rattle.interface.specs.Homes.{zero_span}
use Rattle.interface.specs.Nodes.{opp}
use Rattle.interface.specs.Numbers.{half}
use Rattle.interface.specs.Shapes.{built, reading_of}
use Rattle.halving.specs.Halvings.{halvings_of, width}
use Rattle.intervals.specs.Model.{box_model}
use Rattle.octagon_theory.specs.Limits.{Between, chain_sum, entry, void, limit}
use Rattle.interface.specs.Guards.{guarded}
use Rattle.sum_rule.specs.declared.sum.SumRule.{SumRule}
use Rattle.sum_rule.specs.Sums.{sum_core}
use Rattle.rules.specs.declared.apart.ApartRule.{ApartRule}
use Rattle.rules.specs.declared.pair.PairRule.{PairRule}
use Rattle.rules.specs.declared.step.StepRule.{StepRule}
use Rattle.rules.specs.Aparts.{apart_core}
use Rattle.rules.specs.Pairs.{pair_core}
use Rattle.rules.specs.Steps.{step_core}

-- one setting from low to high, and two with a range each
abbrev pub one : ℤ → ℤ → Home
one low high = record { n = 1; spans = record { low = low; high = high } ∷ replicate 7 zero_span }

abbrev pub two : ℤ → ℤ → ℤ → ℤ → Home
two low high low' high' = record { n = 2; spans = record { low = low; high = high } ∷ record { low = low'; high = high' } ∷ replicate 6 zero_span }

-- two settings from 0 to 10
abbrev pub ten : Home
ten = two (pos 0) (pos 10) (pos 0) (pos 10)

-- the cut (p, q, c), which exists
abbrev pub cut : (p q : ℕ) (c : ℤ) → valid_cut p q c ≡ true → Cut
cut p q c e = record { p = p; q = q; c = c; ok = e }

abbrev pub three_cuts : List Cut
three_cuts = cut 0 2 (pos 7) refl ∷ cut 0 3 (pos 0) refl ∷ cut 1 2 (pos 0) refl ∷ []

abbrev pub four_cuts : List Cut
four_cuts = cut 1 3 (neg_ℤ (pos 7)) refl ∷ three_cuts

abbrev pub less_by_three : List Cut
less_by_three = cut 0 3 (neg_ℤ (pos 3)) refl ∷ []

abbrev pub below_zero : List Cut
below_zero = cut 0 0 (neg_ℤ (pos 1)) refl ∷ []

-- the limits of the interval box that holds the home
abbrev pub box_reading : Home → Reading
box_reading h = reading_of box_model (built box_model h [])

-- 3 s0 - 2 s1 at most 4, and -3 s0 at most -4
abbrev pub two_terms : SumRule
two_terms = record { first = record { setting = 0; coefficient = pos 3 }; second = record { setting = 1; coefficient = neg_ℤ (pos 2) }; third = record { setting = 0; coefficient = pos 0 }; t = pos 4 }

abbrev pub one_term : SumRule
one_term = record { first = record { setting = 0; coefficient = neg_ℤ (pos 3) }; second = record { setting = 0; coefficient = pos 0 }; third = record { setting = 0; coefficient = pos 0 }; t = neg_ℤ (pos 4) }

-- s0 and s1 differ by at least 5; s0 divided by 4 leaves 3
abbrev pub five_apart : ApartRule
five_apart = record { a = 0; b = 1; d = pos 5 }

abbrev pub fourth_steps : StepRule
fourth_steps = record { a = 0; m = pos 4; r = pos 3 }

-- the sum of both settings is at most c
abbrev pub pair_to : ℤ → PairRule
pair_to c = record { p = 0; q = 2; c = c }

pub record Figures : Type 0 where
  -- a range of three values is halved twice, the widest 21 times
  pub three_values : halvings_of (width (pos 0) (pos 2) ∷ []) ≡ 2
  pub widest_range : halvings_of (width (neg_ℤ (pos 1000000)) (pos 1000000) ∷ []) ≡ 21
  -- bounds are divided downwards and proposed doubled
  pub sum_cut_up : (guarded sum_core).proposed two_terms (box_reading (two (pos 0) (pos 10) (pos 0) (pos 5))) 0 ≡ Some (cut 0 0 (pos 8) refl)
  pub sum_cut_down : (guarded sum_core).proposed one_term (box_reading ten) 0 ≡ Some (cut 1 1 (neg_ℤ (pos 4)) refl)
  pub apart_cut : (guarded apart_core).proposed five_apart (box_reading (two (pos 0) (pos 10) (pos 8) (pos 9))) 0 ≡ Some (cut 0 3 (neg_ℤ (pos 5)) refl)
  pub step_cut_up : (guarded step_core).proposed fourth_steps (box_reading (one (neg_ℤ (pos 6)) (neg_ℤ (pos 2)))) 0 ≡ Some (cut 0 0 (neg_ℤ (pos 10)) refl)
  pub step_cut_down : (guarded step_core).proposed fourth_steps (box_reading (one (neg_ℤ (pos 6)) (neg_ℤ (pos 2)))) 1 ≡ Some (cut 1 1 (pos 10) refl)
  -- the box keeps less than the octagon, whose rounding lowers limits after the chains
  pub box_limit : box_model.limit (built box_model ten three_cuts) 0 2 ≡ pos 14
  pub rounded_diagonal : limit ten three_cuts 0 0 ≡ pos 6
  pub rounded_pair : limit ten three_cuts 0 2 ≡ pos 6
  -- void by rounding alone: no chain from a node to its opposite is negative
  pub void_by_rounding : void ten four_cuts ≡ true
  pub no_negative_chain : (p : ℕ) → p < 4 → (rs : List ℕ) → Between 2 rs → pos 0 ≤ℤ chain_sum (entry ten four_cuts) p rs (opp p)
  pub own_limit : limit ten less_by_three 0 0 ≡ pos 14
  pub negative_limit : limit ten less_by_three 3 3 ≡ neg_ℤ (pos 6)
  pub pair_limit : limit ten less_by_three 0 2 ≡ pos 17
  -- halves are rounded down
  pub high_is_minus_one : half (limit (one (neg_ℤ (pos 10)) (pos 10)) below_zero 0 0) ≡ neg_ℤ (pos 1)
  -- two million is accepted, one more is refused at the frame byte where the number starts
  pub accepted_at_border : (guarded pair_core).check 2 (pair_to (pos 2000000)) ≡ Ok tt
  pub refused_beyond : (guarded pair_core).check 2 (pair_to (pos 2000001)) ≡ Err (Number 4)
