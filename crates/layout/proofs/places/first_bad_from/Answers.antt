-- `places::first_bad_from` meets its contract: the halves before the bytes are added.
use mathlib.Core.Path.{◌∙◌}
use native.Mathlib.Omega.{arith}
use Rattle.layout.specs.Places.{cells_of}
use Rattle.layout.proofs.PlaceSteps.{from-half, from-none, half-small}
use Rattle.layout.proofs.places.first_bad_from.Goals as goal

pub overflow_add-result : goal.overflow_add-result
overflow_add-result c =
    let a = c.args in
    record { fits = omega (arith, half-small (cells_of a.cells.now) a.s.now c.first_bad.result c.first_bad.ensures c.in_ok-p.p (c.in_ok-p.was)) }

pub returns-in_err-p : goal.returns-in_err-p
returns-in_err-p c =
    let a = c.args in
    c.from_residual.ensures ∙ from-none (cells_of a.cells.now) a.s.now c.first_bad.result c.first_bad.ensures a.before (c.in_err-p.was)

pub returns : goal.returns
returns c =
    let a = c.args in
    from-half (cells_of a.cells.now) a.s.now c.first_bad.result c.first_bad.ensures a.before c.in_ok-p.p (c.in_ok-p.was)
