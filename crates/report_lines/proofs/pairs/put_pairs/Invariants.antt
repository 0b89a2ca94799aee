use Rattle.std.specs.List.{range_with_len, flat_map}
use Rattle.wire.specs.Appending.{Appends}
use Rattle.report_lines.specs.RegionFrames.{pair_at}
use Rattle.report_lines.proofs.pairs.put_pairs.Given as goal

-- the pairs that were passed are appended
abbrev pub invariant-loop-k : goal.invariant-loop-k
invariant-loop-k l = Appends l.initial.out l.out (flat_map (pair_at l.reading) (range_with_len 0 l.k))
