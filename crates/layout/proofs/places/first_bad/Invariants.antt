-- `places::first_bad` meets its contract. The loop's invariant: looking on from here is looking from the start.
use mathlib.Core.Path.{◌≡◌}
use Rattle.digits.specs.Halves.{looked}
use Rattle.layout.specs.Places.{first_bad, cells_of}
use Rattle.layout.proofs.PlaceSteps.{left_bad}
use Rattle.layout.proofs.places.first_bad.Given as goal

abbrev pub invariant-loop-n : goal.invariant-loop-n
invariant-loop-n l = left_bad l.cells (looked l.s) l.at l.n-index ≡ first_bad (cells_of l.cells) 0 (looked l.s)
