-- `places::bad_digit` meets its contract.
use native.Mathlib.Omega.{arith}
use Rattle.layout.specs.Places.{cells_of}
use Rattle.stock_frame.proofs.PlaceSteps.{body-long, body-digit}
use Rattle.stock_frame.proofs.places.bad_digit.Goals as goal

pub returns-then-n-gt-LONGEST : goal.returns-then-n-gt-LONGEST
returns-then-n-gt-LONGEST c =
    let a = c.args in
    body-long (cells_of a.cells.now) a.body.now (omega arith)

pub returns : goal.returns
returns c =
    let a = c.args in
    body-digit (cells_of a.cells.now) a.body.now (omega arith) c.place_in-place.result c.place_in-place.ensures
