use Rattle.search_theory.specs.Regions.{read}
use Rattle.std.proofs.Common.{subst}
use Rattle.report_lines.specs.RegionFrames.{region_frames}
use Rattle.wire.specs.Appending.{Appends}
use Rattle.offsets.proofs.regions.put_one.Goals as goal

pub returns : goal.returns
unfolding read
returns c = subst (λ r. Appends c.args.output.now c.put_region.new.out (region_frames r c.args.region.now.point)) c.reading-reading.ensures c.put_region.ensures.appends
