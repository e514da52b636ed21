-- `places::head_place` meets its contract.
use Rattle.derivatives_frame.proofs.PlaceSteps.{head-part}
use Rattle.derivatives_frame.proofs.places.head_place.Goals as goal

pub returns : goal.returns
returns c = head-part c.args.f.now c.requires.1 c.first_bad_from.result c.first_bad_from.ensures
