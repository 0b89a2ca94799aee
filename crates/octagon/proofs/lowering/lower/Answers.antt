use Rattle.std.proofs.Common.{◌≡◌, ◌*◌, min, ap, ◌∙◌, subst, arith, length-set, w32, SFits, rules}
use Rattle.std.proofs.lemmas.Int.{to_z-of_z}
use Rattle.octagon.specs.Crossings.{crossing, half_by, joined_by}
use Rattle.octagon.specs.Entries.{at, listed, RowLowered, RowsLowered}
use Rattle.octagon.specs.Filling.{row_more, rows_more, rows_all, joined_is}
use Rattle.octagon.proofs.lowering.lower.Goals as goal

pub loop-j-preserved : goal.loop-j-preserved
loop-j-preserved c =
    let joined = joined_by c.new-cut.result c.halves-halves.result c.loop-i.i in
    let fits : SFits w32 c.joined.result = search rules in
    let entry : SFits w32 (at c.loop-j.limits c.loop-i.i c.loop-j.j) = search rules in (
      length-set _ _ _ ∙ c.loop-j.invariant.0,
      simp to_z-of_z (row_more joined c.loop-j.limits c.loop-i.limits c.loop-i.i c.loop-j.j c.joined.result c.loop-j.invariant.0 (omega arith) (omega arith) c.loop-j.invariant.1 (simp to_z-of_z at c.joined.ensures)),
    )

pub loop-i-preserved : goal.loop-i-preserved
loop-i-preserved c =
    let before = c.args.limits.now in
    let i = c.loop-i.i in
    let fc : SFits w32 c.args.c = c.ranges.c in
    let cut : c.new-cut.result ≡ crossing before c.args.a c.args.b c.args.c = simp to_z-of_z at c.new-cut.ensures in
    let halves : c.halves-halves.result ≡ listed (half_by (crossing before c.args.a c.args.b c.args.c) before) 16 = c.halves-halves.ensures ∙ ap (λ x. listed (half_by x before) 16) cut in
    let end : c.loop-j.j ≡ min 16 (2 * c.args.n) = omega arith in
    let joined = joined_by c.new-cut.result c.halves-halves.result i in
    let row = subst (λ w. RowLowered c.loop-j.limits c.loop-i.limits i w joined) end c.loop-j.invariant.1 in (
      c.loop-j.invariant.0,
      simp to_z-of_z (rows_more before c.args.a c.args.b c.args.c c.loop-i.limits c.loop-j.limits i (min 16 (2 * c.args.n)) joined
          (λ q l. (λ t. joined_by (cut t) (halves t) i q (at before i q)) ∙ joined_is before c.args.a c.args.b c.args.c i q (omega arith) l)
          (simp to_z-of_z at c.loop-i.invariant.1) row),
    )

pub returns : goal.returns
returns c =
    let fc : SFits w32 c.args.c = c.ranges.c in
    let inv = simp to_z-of_z at c.loop-i.invariant in
    let end : c.loop-i.i ≡ min 16 (2 * c.args.n) = omega arith in
    rows_all c.args.limits.now c.args.a c.args.b c.args.c c.args.n c.loop-i.limits inv.0 (subst (λ i. RowsLowered c.loop-i.limits c.args.limits.now c.args.a c.args.b c.args.c i (min 16 (2 * c.args.n))) end inv.1)
