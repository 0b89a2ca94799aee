use Rattle.std.proofs.Common.{ap, ◌∙◌, rules}
use Rattle.interface.proofs.Filled.{filled}
use Rattle.interface.specs.Homes.{zero_span, span_or_0, eight_spans}
use Rattle.wire.specs.Bytes.{unhex}
use Rattle.wire.specs.HomeFrame.{low_in, high_in}
use Rattle.wire.proofs.home_frame.HomeFrame.read.Goals as goal

pub returns : goal.returns
returns c =
    let bs = unhex c.args.digits.now in
    let spans = filled _ (span_or_0 c.byte_at-n.result (low_in bs) (high_in bs)) zero_span _ (λ k y q called. (let m = called.met.1 in λ i. (m.0 i, m.1 i), search rules)) c.from_fn.ensures.items in
    λ i. record { n = c.byte_at-n.ensures i; spans = (spans ∙ ap (λ n. eight_spans n (low_in bs) (high_in bs)) c.byte_at-n.ensures) i }
