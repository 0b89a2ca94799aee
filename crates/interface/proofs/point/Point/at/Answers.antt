use Rattle.std.proofs.Common.{◌≡◌, ◌/◌, get_or, ℤ, pos, ◌-ℤ◌, neg_ℤ, sym, ◌∙◌, arith, w32, w64, to_z, of_z}
use borrow.Author.Differences.{ints}
use Rattle.std.proofs.lemmas.Bool.{cond-true, cond-false, eq-eqb, ne_eqb}
use Rattle.interface.specs.Nodes.{value}
use Rattle.interface.specs.Points.{values_of}
use Rattle.interface.proofs.point.Point.at.Goals as goal

pub returns-then-node-eq0 : goal.returns-then-node-eq0
unfolding value
returns-then-node-eq0 c =
    let wide : to_z w64 (of_z w64 (to_z w32 (of_z w32 c.setting-v.result))) ≡ c.setting-v.result = omega (arith, ints) in
    record {
      value = wide ∙ c.setting-v.ensures ∙ sym (cond-true _ _ _ (eq-eqb _ _ c.if-node-eq0.true));
      bound = omega (arith, ints);
    }

pub returns-else-node-eq0 : goal.returns-else-node-eq0
unfolding value
returns-else-node-eq0 c =
    let v : ℤ = get_or (values_of c.args.self.now) (c.args.node / 2) (pos 0) in
    let wide : to_z w64 (of_z w64 (pos 0 -ℤ to_z w64 (of_z w64 (to_z w32 (of_z w32 c.setting-v.result))))) ≡ neg_ℤ v = omega (arith, ints, c.setting-v.ensures) in
    record {
      value = wide ∙ sym (cond-false _ _ _ (ne_eqb _ _ c.if-node-eq0.false));
      bound = omega (arith, ints);
    }
