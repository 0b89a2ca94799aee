use Rattle.std.proofs.Common.{◌*◌, ◌+ℤ◌, int_le, arith, rules, tests}
use Rattle.std.proofs.lemmas.Iterator.{YieldsList-from_range}
use Rattle.std.proofs.lemmas.Iterator.Search.{all_from_yields_List}
use Rattle.interface.specs.Nodes.{value}
use Rattle.octagon.specs.Entries.{at}
use Rattle.octagon.proofs.matrix.Octagon.is_row_under.Goals as goal

pub returns : goal.returns
returns c =
    let w = 2 * c.args.self.now.n in
    let x = c.args.values.now in
    all_from_yields_List (λ q. int_le (value x c.args.p +ℤ value x q) (at c.args.self.now.limits c.args.p q)) _ _ _ c.all.ensures.ran (YieldsList-from_range 0 w w (cc) (omega arith)) (λ x b q k. search (rules, tests))
