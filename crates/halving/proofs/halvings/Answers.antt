use Rattle.std.proofs.Common.{rules}
use Rattle.halving.proofs.Lowers.{halvings_fit}
use Rattle.halving.proofs.halvings.Goals as goal

pub sum-requires-clause-fits : goal.sum-requires-clause-fits
sum-requires-clause-fits c =
    let fit = halvings_fit c.args.widths.now c.told-widths c.fits-widths in
    search rules
