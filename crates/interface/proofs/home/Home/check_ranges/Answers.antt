use Rattle.std.proofs.Common.{sym, ◌∙◌}
use Rattle.std.proofs.lemmas.Result.{err_from_is_err_and}
use Rattle.interface.specs.Homes.{range_grounds}
use Rattle.interface.proofs.Grounds.{grounds_more}
use Rattle.interface.proofs.home.Home.check_ranges.Goals as goal

pub returns-in_err-check_range : goal.returns-in_err-check_range
returns-in_err-check_range c =
    let p = err_from_is_err_and c.from_residual.result c.from_residual.ensures.1 in
    rw (p.1, p.2) (sym (grounds_more (range_grounds c.args.self.now) c.loop-k.k _ c.loop-k-test.true _ (sym c.in_err-check_range.ensures)) ∙ c.loop-k.invariant)

pub loop-k-preserved : goal.loop-k-preserved
loop-k-preserved c = sym (grounds_more (range_grounds c.args.self.now) c.loop-k.k _ c.loop-k-test.true _ (sym c.in_ok-check_range.ensures)) ∙ c.loop-k.invariant
