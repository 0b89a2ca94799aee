-- What the octagon's answers are by definition: those of the limits of the home and the cuts that made it. Assumes nothing.
use Rattle.std.specs.Prelude.{◌≡◌, ℕ, ◌+◌, ◌-◌, ◌*◌, ◌<◌, ◌≤◌, true, false, ◌⊎◌, List, [], ◌∷◌, ◌++◌, drop, replicate, ℤ, pos, Some, None, Option}
use Rattle.interface.specs.declared.cut.Cut.{Cut}
use Rattle.interface.specs.declared.home.Home.{Home}
use Rattle.interface.specs.declared.point.Point.{Point}
use Rattle.interface.specs.Cuts.{cut_of}
use Rattle.interface.specs.Homes.{Passes}
use Rattle.interface.specs.Points.{values_of, NoLater}
use Rattle.interface.specs.Shapes.{Made, range_of, built}
use Rattle.octagon_theory.specs.Limits.{void, limit}
use Rattle.octagon_theory.specs.Matrices.{TightlyClosed}
use Rattle.octagon_theory.specs.Theorems.{Within}
use Rattle.octagon.specs.declared.matrix.Octagon.{Octagon}
use Rattle.octagon.specs.Octagons.{octagon_model, limit_at}
use Rattle.octagon.specs.Ranges.{low_at, high_at, is_open, widest_at, middle_at, up_to, from_next}

-- P of every home that passes its check and all cuts that made the octagon
abbrev pub ForMade : Octagon → (Home → List Cut → Type 0) → Type 0
ForMade s P = (h : Home) (ts : List Cut) → Passes h → s ≡ built octagon_model h ts → P h ts

-- none is offered where there is no point, else the least point, setting 0 compared first, with 0 past its last setting
pub record LeastOffered (h : Home) (ts : List Cut) (r : Option Point) : Type 0 where
  pub none : void h ts ≡ true → r ≡ None
  pub some : void h ts ≡ false → (x : Point) × (r ≡ Some x) × (x.n ≡ h.n) × (drop h.n x.values ≡ replicate (8 - h.n) (pos 0)) × Within h ts (values_of x) × ((y : List ℤ) → Within h ts y → NoLater (values_of x) y)

-- one cut more for each part: values up to the middle of the widest range, and values from the next on; both are the octagon itself if it is not open
pub record SplitInTwo (h : Home) (ts : List Cut) (r : Octagon × Octagon) : Type 0 where
  pub whole : is_open (void h ts) (limit h ts) ≡ false → r ≡ (built octagon_model h ts, built octagon_model h ts)
  pub parts : is_open (void h ts) (limit h ts) ≡ true → (t u : Cut) → cut_of (2 * widest_at (limit h ts)) (2 * widest_at (limit h ts)) (up_to (middle_at (limit h ts) (widest_at (limit h ts)))) ≡ Some t → cut_of (2 * widest_at (limit h ts) + 1) (2 * widest_at (limit h ts) + 1) (from_next (middle_at (limit h ts) (widest_at (limit h ts)))) ≡ Some u → r ≡ (built octagon_model h (ts ++ (t ∷ [])), built octagon_model h (ts ++ (u ∷ [])))
  -- and there are such cuts
  pub cuts : is_open (void h ts) (limit h ts) ≡ true → (t u : Cut) × (cut_of (2 * widest_at (limit h ts)) (2 * widest_at (limit h ts)) (up_to (middle_at (limit h ts) (widest_at (limit h ts)))) ≡ Some t) × (cut_of (2 * widest_at (limit h ts) + 1) (2 * widest_at (limit h ts) + 1) (from_next (middle_at (limit h ts) (widest_at (limit h ts)))) ≡ Some u)

-- the range of a setting is from its lowest to its highest value, and 0 to 0 past the last
abbrev pub RangesAreThoseOfLimits : Type 0
RangesAreThoseOfLimits = (h : Home) (ts : List Cut) → Passes h → (k : ℕ) → (k < h.n → range_of octagon_model (built octagon_model h ts) k ≡ (low_at (limit h ts) k, high_at (limit h ts) k)) × (h.n ≤ k → range_of octagon_model (built octagon_model h ts) k ≡ (pos 0, pos 0))

-- every octagon that is made is void or tightly closed
abbrev pub MadeIsTight : Type 0
MadeIsTight = (s : Octagon) → Made octagon_model s → (s.void ≡ true) ⊎ TightlyClosed s.n (limit_at s)

-- made octagons with the same settings, extent and limits are the same
abbrev pub LimitsTellApart : Type 0
LimitsTellApart = (s t : Octagon) → Made octagon_model s → Made octagon_model t → s.n ≡ t.n → octagon_model.extent s ≡ octagon_model.extent t → ((p q : ℕ) → limit_at s p q ≡ limit_at t p q) → s ≡ t
