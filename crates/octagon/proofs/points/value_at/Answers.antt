use Rattle.std.proofs.Common.{◌≡◌, ◌/◌, get_or, ℤ, pos, ◌-ℤ◌, neg_ℤ, sym, ◌∙◌, arith, w64, to_z, of_z}
use borrow.Author.Differences.{ints}
use Rattle.std.proofs.lemmas.Bool.{cond-true, cond-false, eq-eqb, ne_eqb}
use Rattle.interface.specs.Nodes.{value}
use Rattle.octagon.proofs.points.value_at.Goals as goal

pub returns-then-p-eq0-clause-value : goal.returns-then-p-eq0-clause-value
unfolding value
returns-then-p-eq0-clause-value c =
    let v : ℤ = get_or c.args.values.now (c.args.p / 2) (pos 0) in
    let wide : to_z w64 (of_z w64 c.from-v.result) ≡ v = omega (arith, ints, c.from-v.ensures) in
    wide ∙ sym (cond-true _ _ _ (eq-eqb _ _ c.if-p-eq0.true))

pub returns-else-p-eq0-clause-value : goal.returns-else-p-eq0-clause-value
unfolding value
returns-else-p-eq0-clause-value c =
    let v : ℤ = get_or c.args.values.now (c.args.p / 2) (pos 0) in
    let wide : to_z w64 (of_z w64 (pos 0 -ℤ to_z w64 (of_z w64 c.from-v.result))) ≡ neg_ℤ v = omega (arith, ints, c.from-v.ensures) in
    wide ∙ sym (cond-false _ _ _ (ne_eqb _ _ c.if-p-eq0.false))
