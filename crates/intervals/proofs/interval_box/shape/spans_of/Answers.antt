use Rattle.std.proofs.Common.{rules, tests}
use Rattle.interface.proofs.Filled.{filled}
use Rattle.interface.specs.Homes.{zero_span, low_of, high_of, span_or_0}
use Rattle.intervals.specs.Answers.{home_spans}
use Rattle.intervals.proofs.interval_box.shape.spans_of.Goals as goal

pub returns : goal.returns
unfolding home_spans
returns c =
    let h = c.args.home.now in
    filled _ (span_or_0 h.n (low_of h) (high_of h)) zero_span _ (λ k y q called. search (rules, tests)) c.from_fn.ensures.items
