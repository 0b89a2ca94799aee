use Rattle.std.proofs.Common.{◌≡◌, take, refl, ap, ◌∙◌, subst, arith, w32, SFits, rules}
use Rattle.std.proofs.lemmas.Int.{to_z-of_z}
use Rattle.octagon_theory.specs.Matrices.{next_value}
use Rattle.octagon.specs.Entries.{at}
use Rattle.octagon.specs.Octagons.{narrow}
use Rattle.octagon.specs.Offering.{SoFar, so_far_more, so_far_all}
use Rattle.octagon.proofs.matrix.Octagon.least_values.Goals as goal

pub loop-k-preserved : goal.loop-k-preserved
loop-k-preserved c =
    let L = at c.args.self.now.limits in
    let values = c.loop-k.point.values in
    let fits : SFits w32 c.next_value.result = search rules in
    let value : c.next_value.result ≡ narrow (next_value L (take c.loop-k.k values)) = c.next_value.ensures ∙ ap (λ n. narrow (next_value L (take n values))) c.loop-k.invariant.0 in
    (refl, so_far_more L c.args.m c.loop-k.k values _ c.loop-k-test.true c.requires (to_z-of_z w32 c.next_value.result fits ∙ value) c.loop-k.invariant.1)

pub returns : goal.returns
returns c =
    let L = at c.args.self.now.limits in
    let end : c.loop-k.k ≡ c.args.m = omega arith in
    so_far_all L c.args.m c.loop-k.point.values (subst (λ k. SoFar L c.args.m k c.loop-k.point.values) end c.loop-k.invariant.1)
