use Rattle.std.proofs.Common.{◌≤◌, length, pos, sym, ◌∙◌, arith, length-take, w32, rules}
use Rattle.std.proofs.lemmas.List.{get_or-take, get_or_past}
use Rattle.std.proofs.lemmas.Int.{to_z-of_z}
use Rattle.interface.specs.Points.{values_of}
use Rattle.interface.proofs.point.Point.setting.Goals as goal

pub returns-then-k-lt8 : goal.returns-then-k-lt8
returns-then-k-lt8 c = to_z-of_z w32 _ (search rules) ∙ sym (get_or-take c.args.self.now.n c.args.self.now.values c.args.k (pos 0) c.if-k-self.true)

pub returns-else-k-self : goal.returns-else-k-self
returns-else-k-self c =
    let past : length (values_of c.args.self.now) ≤ c.args.k = omega (arith, length-take c.args.self.now.n c.args.self.now.values) in
    sym (get_or_past _ _ _ past)
