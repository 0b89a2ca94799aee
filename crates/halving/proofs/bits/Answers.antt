use Rattle.std.proofs.Common.{◌+◌, sym, subst, rules}
use Rattle.halving.specs.Halvings.{LeastPower}
use Rattle.halving.proofs.Lowers.{digits_least, bits_unique}
use Rattle.halving.proofs.bits.Goals as goal

pub returns-clause-value : goal.returns-clause-value
returns-clause-value c =
    let least : LeastPower (c.args.width + 1) c.digits.result = subst (LeastPower (c.args.width + 1)) (sym c.digits.ensures) (digits_least c.args.width (search rules)) in
    bits_unique (c.args.width + 1) c.digits.result least

pub returns-clause-least : goal.returns-clause-least
returns-clause-least c = subst (LeastPower (c.args.width + 1)) (sym c.digits.ensures) (digits_least c.args.width (search rules))
