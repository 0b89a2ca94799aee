use Rattle.std.proofs.Common.{refl}
use Rattle.octagon.specs.Octagons.{octagon_model}
use Rattle.offsets.specs.Entry.{frames_of}
use Rattle.offsets.proofs.Passing.{appends_more}
use Rattle.offsets.proofs.regions.put_all.Goals as goal

pub loop-region-preserved : goal.loop-region-preserved
loop-region-preserved c = appends_more (frames_of octagon_model) c.args.regions.now c.loop-region.region-index _ _ c.args.output.now c.loop-region.output c.put_one.new.output c.loop-region-test.true refl c.loop-region.invariant c.put_one.ensures
