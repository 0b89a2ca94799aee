use Rattle.octagon.proofs.Defined.{n_defined}
use Rattle.octagon.proofs.shape.OctagonShape.n.Goals as goal

pub returns-clause-made : goal.returns-clause-made
returns-clause-made c = n_defined c.args.self.now
