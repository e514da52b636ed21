-- `places::length_place` meets its contract.
use Rattle.derivatives_frame.proofs.PlaceSteps.{length_part}
use Rattle.derivatives_frame.proofs.places.length_place.Goals as goal

pub returns : goal.returns
returns c = let a = c.args in length_part a.line.now a.at c.first_bad_from.result c.first_bad_from.ensures
