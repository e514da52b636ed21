-- `places::first_bad` meets its contract. The loop's invariant: looking on from here is looking from the start.
use mathlib.Core.Path.{◌∙◌}
use native.Mathlib.Omega.{arith}
use Rattle.digits.specs.Halves.{looked}
use Rattle.layout.proofs.PlaceLaws.{length-take-less}
use Rattle.layout.proofs.PlaceSteps.{left-past, left-bad, left-turn}
use Rattle.layout.proofs.places.first_bad.Goals as goal

pub returns-then-s-at : goal.returns-then-s-at
returns-then-s-at c =
    let a = c.args in
    let l = c.loop-n in
    left-past a.cells.now (looked a.s.now) l.at l.n-index (omega (arith, length-take-less 65535 a.s.now)) ∙ l.invariant

pub returns-in-Some : goal.returns-in-Some
returns-in-Some c =
    let a = c.args in
    let l = c.loop-n in
    left-bad a.cells.now (looked a.s.now) l.at l.n-index (omega arith) c.bad_half.result c.bad_half.ensures _ c.in-Some.is ∙ l.invariant

pub loop-n-preserved : goal.loop-n-preserved
loop-n-preserved c =
    let a = c.args in
    let l = c.loop-n in
    left-turn a.cells.now (looked a.s.now) l.at l.n-index (omega arith) c.bad_half.result c.bad_half.ensures c.in_default.is c.cell_size-at.result c.cell_size-at.ensures.0
    ∙ l.invariant
