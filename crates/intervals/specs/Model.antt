-- The interval box as a shape: its answers under their common names. Assumes nothing.
use Rattle.interface.specs.Shapes.{ShapeModel}
use Rattle.intervals.specs.declared.interval_box.IntervalBox.{IntervalBox}
use Rattle.intervals.specs.Answers.{start_box, cut_box, lower_box, upper_box, extent_box, limit_box, holds_box, offer_box, halvings_box}

abbrev pub box_model : ShapeModel IntervalBox
box_model = record { n = λ s. s.n; start = start_box; cut = cut_box; lower = lower_box; upper = upper_box; extent = extent_box; limit = limit_box; holds = holds_box; offer = offer_box; halvings = halvings_box }
