-- `judging::ruled` meets its contract. The loop's invariant: the test that goes on from slot i is the test of all.
use mathlib.Core.Path.{sym, ◌∙◌}
use native.Mathlib.Omega.{arith}
use Rattle.stock_prices.specs.Prices.{slot_ruled}
use Rattle.stock_prices.proofs.Shapes.{some_slot, codes-long}
use Rattle.stock_prices_write.proofs.PassLaws.{pass-start, pass-fails, pass-again, pass-done}
use Rattle.stock_prices_write.proofs.judging.ruled.Goals as goal

pub loop-i-init : goal.loop-i-init
loop-i-init c =
    let k = codes-long 10 c.args.slots _ c.well_formed.0 in
    pass-start slot_ruled c.args.slots k.0 k.1 c.args.n

pub returns-then-not-slot_right : goal.returns-then-not-slot_right
returns-then-not-slot_right c =
    let l = c.loop-i in
    let k = codes-long 10 c.args.slots _ c.well_formed.0 in
    sym (pass-fails slot_ruled c.args.slots k.0 k.1 c.args.n some_slot l.i (omega arith) l.invariant
    (sym c.slot_right.ensures ∙ c.if-not-slot_right.true))

pub loop-i-preserved : goal.loop-i-preserved
loop-i-preserved c =
    let l = c.loop-i in
    let k = codes-long 10 c.args.slots _ c.well_formed.0 in
    pass-again slot_ruled c.args.slots k.0 k.1 c.args.n some_slot l.i (omega arith) l.invariant
    (sym c.slot_right.ensures ∙ c.if-not-slot_right.false)

pub returns : goal.returns
returns c =
    let l = c.loop-i in
    let k = codes-long 10 c.args.slots _ c.well_formed.0 in
    sym (pass-done slot_ruled c.args.slots k.0 k.1 c.args.n l.i (omega arith) (omega arith) l.invariant)
