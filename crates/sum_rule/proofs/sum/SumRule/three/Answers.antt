use Rattle.std.proofs.Common.{refl, arith}
use borrow.Author.Differences.{ints}
use Rattle.sum_rule.proofs.sum.SumRule.three.Goals as goal

pub returns : goal.returns
returns g c =
    let x = c.requires.bound _ _ c.amount.ensures in
    let y = c.requires.bound _ _ c.amount-2.ensures in
    let z = c.requires.bound _ _ c.amount-3.ensures in (
      c.amount.result,
      c.amount-2.result,
      c.amount-3.result,
      record { shown = _; shows = refl; says = record { met = c.amount.ensures } },
      record { shown = _; shows = refl; says = record { met = c.amount-2.ensures } },
      record { shown = _; shows = refl; says = record { met = c.amount-3.ensures } },
      omega (arith, ints, x, y, z),
    )
