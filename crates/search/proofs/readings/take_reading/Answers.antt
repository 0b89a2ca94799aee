-- A reading is all limits at once.
use Rattle.search_theory.specs.Regions.{read}
use Rattle.search.proofs.readings.take_reading.Goals as goal

pub returns : goal.returns
unfolding read
returns g c = c.reading.ensures
