-- Which numbers make a cut. Assumes nothing.
use Rattle.std.specs.Prelude.{ℕ, Bool, not, ◌&&◌, ℤ, ◌==◌, nat_lt}
use Rattle.interface.specs.Nodes.{opp}
use Rattle.interface.specs.Numbers.{within}

-- nodes up to 15, not opposite, and a bound at most two million away from 0
abbrev pub valid_cut : ℕ → ℕ → ℤ → Bool
valid_cut p q c = nat_lt p 16 && (nat_lt q 16 && (not (q == opp p) && within 2000000 c))
