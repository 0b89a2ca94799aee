-- The session's history with one call more.
use Rattle.fitter.proofs.Following.{goes_on}
use Rattle.fitter.proofs.store.Memory.ask.Goals as goal

pub returns-clause-session : goal.returns-clause-session
returns-clause-session c =
    let l = c.call.new.lent in
    goes_on c.args.solver.now c.call.new.solver c.args.self.now (record { rules = l.rules.now; checkpoints = l.checkpoints.now; stack = l.stack.now; regions = l.out.now }) c.args.request c.call.result c.call.ensures.answers
