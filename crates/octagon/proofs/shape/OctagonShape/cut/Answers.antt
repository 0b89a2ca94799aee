use Rattle.std.proofs.Common.{◌≡◌, ◌∙◌, rules}
use Rattle.octagon.specs.Octagons.{cut_to}
use Rattle.octagon.proofs.Defined.{cut_defined}
use Rattle.octagon.proofs.shape.OctagonShape.cut.Goals as goal

pub returns-clause-made : goal.returns-clause-made
returns-clause-made c = λ h ts ok e.
    let value : c.cut_by.new.self ≡ cut_to c.args.self.now c.args.cut.p c.args.cut.q c.args.cut.c = search rules in
    value ∙ cut_defined c.args.self.now h ts ok e c.args.cut
