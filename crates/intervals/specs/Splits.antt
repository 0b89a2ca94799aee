-- The parts of an open box are what two cuts leave of it. Assumes nothing.
use Rattle.std.specs.Prelude.{◌≡◌, ℕ, ◌+◌, ◌*◌, ℤ, pos, ◌+ℤ◌, neg_ℤ, Some}
use Rattle.interface.specs.declared.cut.Cut.{Cut}
use Rattle.interface.specs.declared.extent.Extent.TheVariants.{Open}
use Rattle.interface.specs.Cuts.{cut_of}
use Rattle.interface.specs.Shapes.{Made}
use Rattle.halving.specs.Halvings.{widest_of}
use Rattle.intervals.specs.declared.interval_box.IntervalBox.{IntervalBox}
use Rattle.intervals.specs.Boxes.{widths_of}
use Rattle.intervals.specs.Answers.{cut_box, lower_box, upper_box, middle, extent_box}
use Rattle.intervals.specs.Model.{box_model}

-- the cut (p, p, c + c), which bounds v(p) by c, leaves r of s
abbrev pub LeftBy : IntervalBox → ℕ → ℤ → IntervalBox → Type 0
LeftBy s p c r = (t : Cut) × (cut_of p p (c +ℤ c) ≡ Some t) × (r ≡ cut_box s t)

-- the lower part has the widest setting at most its middle, the upper part its negative at most that of the next value
abbrev pub SplitByCuts : Type 0
SplitByCuts = (s : IntervalBox) → Made box_model s → extent_box s ≡ Open → LeftBy s (2 * widest_of (widths_of s)) (middle s (widest_of (widths_of s))) (lower_box s) × LeftBy s (2 * widest_of (widths_of s) + 1) (neg_ℤ (middle s (widest_of (widths_of s)) +ℤ pos 1)) (upper_box s)
