-- `look` meets its contract.
use native.Mathlib.Omega.{arith}
use mathlib.Core.Path.{◌≡◌, sym, ◌∙◌}
use mathlib.Core.Bool.{true, false}
use lib.ListN.{length}
use Rattle.ledger.specs.Ends.{places}
use Rattle.ledger_ends.proofs.SeenLaws.{seen-order}
use Rattle.ledger_ends.proofs.look.Goals as goal

pub returns-then-not-floor_fits : goal.returns-then-not-floor_fits
returns-then-not-floor_fits c =
    let a = c.args in
    let whole : length a.ends.now ≡ places = omega (arith, c.if-ends-ne-PLACES.false) in
    seen-order a.n a.ends.now a.floor a.given whole c.reach-to.result c.reach-to.ensures c.in_ok-from.from
    (sym c.in_ok-from.was ∙ c.look_over.ensures) false (sym c.if-not-floor_fits.true ∙ c.floor_fits.ensures)

pub returns : goal.returns
returns c =
    let a = c.args in
    let whole : length a.ends.now ≡ places = omega (arith, c.if-ends-ne-PLACES.false) in
    seen-order a.n a.ends.now a.floor a.given whole c.reach-to.result c.reach-to.ensures c.in_ok-from.from
    (sym c.in_ok-from.was ∙ c.look_over.ensures) true (sym c.if-not-floor_fits.false ∙ c.floor_fits.ensures)
