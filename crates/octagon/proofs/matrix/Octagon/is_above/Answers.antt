use Rattle.std.proofs.Common.{◌*◌, ◌∙◌, arith, rules, tests}
use Rattle.std.proofs.lemmas.Iterator.{YieldsList-from_range}
use Rattle.std.proofs.lemmas.Iterator.Search.{all_from_yields_List}
use Rattle.octagon.specs.Octagons.{row_under, all_under}
use Rattle.octagon.specs.Offering.{under_take}
use Rattle.octagon.proofs.matrix.Octagon.is_above.Goals as goal

pub returns : goal.returns
unfolding all_under
returns c =
    let w = 2 * c.args.self.now.n in
    all_from_yields_List (row_under c.args.self.now.limits c.args.point.now.values w) _ _ _ c.all.ensures.ran (YieldsList-from_range 0 w w (cc) (omega arith)) (λ x b q k. search (rules, tests)) ∙ under_take c.args.self.now.limits c.args.point.now.n c.args.self.now.n c.args.point.now.values c.requires.1
