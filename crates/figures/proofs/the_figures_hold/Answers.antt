use Rattle.std.proofs.Common.{refl}
use Rattle.intervals.specs.Answers.{home_spans}
use Rattle.intervals.specs.Boxes.{bounded}
use Rattle.octagon_theory.specs.Limits.{top_of, home_entry, entry, least_upto, void, limit}
use Rattle.rule_base.specs.Bounds.{cut_at}
use Rattle.rules.specs.Steps.{rest}
use Rattle.sum_rule.specs.Sums.{times}
use Rattle.figures.proofs.Chains.{no_negative_chain}
use Rattle.figures.proofs.Halvings.{three_values, widest_range}
use Rattle.figures.proofs.the_figures_hold.Goals as goal

pub returns : goal.returns
unfolding limit void least_upto entry home_entry top_of home_spans bounded cut_at rest times
returns c = record {
  three_values = three_values;
  widest_range = widest_range;
  sum_cut_up = refl;
  sum_cut_down = refl;
  apart_cut = refl;
  step_cut_up = refl;
  step_cut_down = refl;
  box_limit = refl;
  rounded_diagonal = refl;
  rounded_pair = refl;
  void_by_rounding = refl;
  no_negative_chain = no_negative_chain;
  own_limit = refl;
  negative_limit = refl;
  pair_limit = refl;
  high_is_minus_one = refl;
  accepted_at_border = refl;
  refused_beyond = refl;
}
