-- `places::place_in` meets its contract.
use mathlib.Core.Path.{◌∙◌}
use Rattle.layout.specs.Places.{cells_of}
use Rattle.stock_frame.proofs.PlaceSteps.{all-looked}
use Rattle.stock_frame.proofs.places.place_in.Goals as goal

pub returns : goal.returns
returns c = c.first_bad_from.ensures ∙ all-looked (cells_of c.args.cells.now) c.args.s.now c.args.before c.requires
