-- `judging::slots_fit` meets its contract. The loop's invariant: the slots from i on fit where all do.
use mathlib.Core.Path.{refl, sym, ◌∙◌}
use native.Mathlib.Omega.{arith}
use Rattle.stock_prices.proofs.Shapes.{some_slot, codes-long}
use Rattle.stock_prices_write.proofs.WriteLaws.{fits-fails, fits-again, fits-done}
use Rattle.stock_prices_write.proofs.judging.slots_fit.Goals as goal

pub loop-i-init : goal.loop-i-init
loop-i-init c = refl

pub returns-then-not-slot_fits : goal.returns-then-not-slot_fits
returns-then-not-slot_fits c =
    let l = c.loop-i in
    let k = codes-long 10 c.args.slots _ c.well_formed.0 in
    sym (fits-fails c.args.slots k.0 k.1 some_slot l.i (omega arith) l.invariant
    (sym c.slot_fits.ensures ∙ c.if-not-slot_fits.true))

pub loop-i-preserved : goal.loop-i-preserved
loop-i-preserved c =
    let l = c.loop-i in
    let k = codes-long 10 c.args.slots _ c.well_formed.0 in
    fits-again c.args.slots k.0 k.1 some_slot l.i (omega arith) l.invariant
    (sym c.slot_fits.ensures ∙ c.if-not-slot_fits.false)

pub returns : goal.returns
returns c =
    let l = c.loop-i in
    let k = codes-long 10 c.args.slots _ c.well_formed.0 in
    sym (fits-done c.args.slots k.0 k.1 l.i (omega arith) (omega arith) l.invariant)
