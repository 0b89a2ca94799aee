use Rattle.std.proofs.Common.{pos, rules, tests}
use Rattle.interface.proofs.Filled.{filled}
use Rattle.intervals.specs.Boxes.{low_at}
use Rattle.intervals.specs.Answers.{all_lows}
use Rattle.intervals.proofs.interval_box.IntervalBox.lows.Goals as goal

pub returns : goal.returns
unfolding all_lows
returns c = filled _ (low_at c.args.self.now) (pos 0) _ (λ k y q called. search (rules, tests)) c.from_fn.ensures.items
