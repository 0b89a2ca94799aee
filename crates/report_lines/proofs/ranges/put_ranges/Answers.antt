use Rattle.std.proofs.Common.{[], ◌∷◌, subst}
use Rattle.wire.specs.Appending.{Appends}
use Rattle.wire.specs.HomeFrame.{write_home}
use Rattle.report_lines.proofs.ranges.put_ranges.Goals as goal

pub returns : goal.returns
returns c = subst (λ h. Appends c.args.out.now c.write.new.out (write_home h ∷ [])) c.ranges-2.ensures c.write.ensures.appends
