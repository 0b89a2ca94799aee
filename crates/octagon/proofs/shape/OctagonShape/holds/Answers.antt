use Rattle.std.proofs.Common.{Decides, sym, subst}
use Rattle.interface.specs.Points.{values_of}
use Rattle.octagon_theory.specs.Theorems.{Within}
use Rattle.octagon.proofs.Defined.{holds_defined}
use Rattle.octagon.proofs.shape.OctagonShape.holds.Goals as goal

pub returns-clause-made : goal.returns-clause-made
returns-clause-made c = λ h ts ok e. subst (λ b. Decides b (Within h ts (values_of c.args.point.now))) (sym c.holds_point.ensures) (holds_defined c.args.self.now h ts ok e (values_of c.args.point.now))
