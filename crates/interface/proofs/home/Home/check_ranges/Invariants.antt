use Rattle.std.proofs.Common.{◌≡◌, ◌-◌}
use Rattle.std.specs.List.{range_with_len, flat_map}
use Rattle.interface.specs.Grounds.{first_fault}
use Rattle.interface.specs.Homes.{range_grounds}
use Rattle.interface.proofs.home.Home.check_ranges.Given as goal

-- the grounds that are left give the result
abbrev pub invariant-loop-k : goal.invariant-loop-k
invariant-loop-k l = first_fault (flat_map (range_grounds l.self) (range_with_len l.k (l.self.n - l.k))) ≡ first_fault (flat_map (range_grounds l.self) (range_with_len 0 l.self.n))
