-- Widths of ranges: which is the widest, which hold one value, and how often they can be halved. Assumes nothing.
use Rattle.std.specs.Prelude.{◌≡◌, ℕ, ◌+◌, ◌*◌, ◌^◌, ◌<◌, ◌≤◌, Bool, List, length, ℤ, ◌-ℤ◌, sum_by, nat_eq, nat_le, slice_index, unsigned_abs}
use Rattle.std.specs.List.{list_all, position_or_len}
use Rattle.halving.specs.First.{first_below}

-- the width of a range is its high less its low, so a range of width w has w + 1 values
abbrev pub width : ℤ → ℤ → ℕ
width low high = unsigned_abs (high -ℤ low)

-- the least b with 2 ^ b at least m; m itself is always one such b
unfoldable pub bits_for : ℕ → ℕ
bits_for m = first_below (λ b. nat_le m (2 ^ b)) m

-- b is that number
abbrev pub LeastPower : ℕ → ℕ → Type 0
LeastPower m b = (m ≤ 2 ^ b) × ((a : ℕ) → m ≤ 2 ^ a → b ≤ a)

-- for each width the bits for its number of values, summed
abbrev pub halvings_of : List ℕ → ℕ
halvings_of ws = sum_by (λ w. bits_for (w + 1)) ws

-- the first place whose width is not below any other's
unfoldable pub widest_of : List ℕ → ℕ
widest_of ws = position_or_len (λ w. list_all (λ v. nat_le v w) ws) ws

-- no range has two values
abbrev pub all_single : List ℕ → Bool
all_single ws = list_all (λ w. nat_eq w 0) ws

-- The directions are the places of a list, with their widths before (ws) and after (vs).
abbrev pub Narrower : List ℕ → List ℕ → Type 0
Narrower vs ws = (length vs ≡ length ws) × ((k : ℕ) → slice_index vs k ≤ slice_index ws k)

-- a direction of at least two values is left with at most half its width
abbrev pub HalvedAt : List ℕ → List ℕ → ℕ → Type 0
HalvedAt vs ws k = (k < length ws) × (0 < slice_index ws k) × (2 * slice_index vs k ≤ slice_index ws k)

-- widths that do not grow do not raise the halvings, and halving one direction lowers them
abbrev pub HalvingLowers : Type 0
HalvingLowers = (vs ws : List ℕ) → Narrower vs ws → (halvings_of vs ≤ halvings_of ws) × ((k : ℕ) → HalvedAt vs ws k → halvings_of vs < halvings_of ws)
