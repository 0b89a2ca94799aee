use Rattle.std.proofs.Common.{rules}
use Rattle.interface.proofs.Filled.{filled}
use Rattle.interface.specs.Homes.{zero_span, span_or_0}
use Rattle.interface.specs.Readings.{low_in, high_in}
use Rattle.report_lines.proofs.ranges.ranges.Goals as goal

pub returns : goal.returns
returns c =
    let g = c.args.reading.now in
    let spans = filled _ (span_or_0 g.n (low_in g) (high_in g)) zero_span _ (λ k y q called. (λ i. record { 0 = called.met.1 i }, search rules)) c.from_fn.ensures.items in
    λ i. record { n = g.n; spans = spans i }
