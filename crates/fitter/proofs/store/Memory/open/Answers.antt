-- A solver just opened is a history with no call yet.
use Rattle.fitter.proofs.Following.{starts}
use Rattle.fitter.proofs.store.Memory.open.Goals as goal

pub returns-clause-session : goal.returns-clause-session
returns-clause-session c = starts c.args.home.now c.args.self.now c.open.result c.open.ensures
