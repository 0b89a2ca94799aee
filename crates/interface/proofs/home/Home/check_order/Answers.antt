use Rattle.std.proofs.Common.{sym, ◌∙◌}
use Rattle.std.proofs.lemmas.Result.{err_from_is_err_and}
use Rattle.interface.specs.Homes.{crossed_grounds}
use Rattle.interface.proofs.Grounds.{grounds_more}
use Rattle.interface.proofs.home.Home.check_order.Goals as goal

pub returns-in_err-check_crossed : goal.returns-in_err-check_crossed
returns-in_err-check_crossed c =
    let p = err_from_is_err_and c.from_residual.result c.from_residual.ensures.1 in
    rw (p.1, p.2) (sym (grounds_more (crossed_grounds c.args.self.now) c.loop-k.k _ c.loop-k-test.true _ (sym c.in_err-check_crossed.ensures)) ∙ c.loop-k.invariant)

pub loop-k-preserved : goal.loop-k-preserved
loop-k-preserved c = sym (grounds_more (crossed_grounds c.args.self.now) c.loop-k.k _ c.loop-k-test.true _ (sym c.in_ok-check_crossed.ensures)) ∙ c.loop-k.invariant
