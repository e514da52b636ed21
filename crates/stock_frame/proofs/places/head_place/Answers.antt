-- `places::head_place` meets its contract.
use Rattle.stock_frame.proofs.PlaceSteps.{head-part}
use Rattle.stock_frame.proofs.places.head_place.Goals as goal

pub returns : goal.returns
returns c = head-part c.args.f.now c.place_in.result c.place_in.ensures
