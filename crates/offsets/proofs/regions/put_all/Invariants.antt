use Rattle.std.proofs.Common.{take}
use Rattle.std.specs.List.{flat_map}
use Rattle.octagon.specs.Octagons.{octagon_model}
use Rattle.offsets.specs.Entry.{frames_of}
use Rattle.wire.specs.Appending.{Appends}
use Rattle.offsets.proofs.regions.put_all.Given as goal

-- the regions that were passed are written
abbrev pub invariant-loop-region : goal.invariant-loop-region
invariant-loop-region l = Appends l.initial.output l.output (flat_map (frames_of octagon_model) (take l.region-index l.regions))
