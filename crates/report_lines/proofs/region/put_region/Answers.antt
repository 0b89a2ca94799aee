use Rattle.wire.specs.Appending.{lines_in}
use Rattle.wire.proofs.Adding.{appends_on, written_whole}
use Rattle.report_lines.specs.RegionFrames.{region_frames}
use Rattle.report_lines.proofs.region.put_region.Goals as goal

pub returns-clause-whole : goal.returns-clause-whole
returns-clause-whole c =
    let all = appends_on _ _ _ _ _ c.put_point.ensures (appends_on _ _ _ _ _ c.put_ranges.ensures c.put_pairs.ensures) in
    written_whole (lines_in c.args.out.now) (lines_in c.put_pairs.new.out) (region_frames c.args.reading.now c.args.point.now) all.lines_put
