-- The pairs of a region in words of their own: each that says more than the ranges is written, no other, and they ascend. Assumes nothing.
use Rattle.std.specs.Prelude.{◌≡◌, ℕ, ◌+◌, ◌*◌, ◌<◌, List, [], ◌∷◌, ◌+ℤ◌, ◌<ℤ◌, slice_index}
use Rattle.std.specs.List.{Contains, All}
use Rattle.interface.specs.declared.reading.Reading.{Reading}
use Rattle.interface.specs.Nodes.{opp}
use Rattle.interface.specs.Numbers.{half}
use Rattle.interface.specs.Readings.{limit_at}
use Rattle.report_lines.specs.RegionFrames.{pair_frame}

-- two nodes on the line, in their order and not opposite, whose limit is below what the ranges alone give
pub record Told (g : Reading) (p q : ℕ) : Type 0 where
  pub order : p < q
  pub on_line : q < 2 * g.n
  pub not_opposite : q ≡ opp p → ⊥
  pub below : limit_at g p q <ℤ half (limit_at g p p +ℤ limit_at g q q)

-- where a pair stands: by its first node, and then by its second
abbrev pub rank : List ℕ → ℕ
rank f = 16 * slice_index f 1 + slice_index f 2

-- each frame ranks below all that follow it, so none comes twice
abbrev pub Ascending : List (List ℕ) → Type 0
Ascending [] = Unit {0}
Ascending (f ∷ fs) = All (λ e. rank f < rank e) fs × Ascending fs

-- no node is above 15
pub record PairsTold (g : Reading) (fs : List (List ℕ)) : Type 0 where
  pub each : (p q : ℕ) → q < 16 → Told g p q → Contains fs (pair_frame g p q)
  pub only : All (λ f. (p : ℕ) × (q : ℕ) × Told g p q × (f ≡ pair_frame g p q)) fs
  pub ascending : Ascending fs
