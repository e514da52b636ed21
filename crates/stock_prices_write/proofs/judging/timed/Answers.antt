-- `judging::timed` meets its contract. The loop's invariant: the test that goes on from slot i is the test of all.
use mathlib.Core.Path.{sym, ◌∙◌}
use native.Mathlib.Omega.{arith}
use lib.ListN.{get_or}
use lib.Dec.{ltb}
use Rattle.stock_prices.specs.Prices.{slot_timed}
use Rattle.stock_prices.proofs.Shapes.{some_slot, codes-long}
use Rattle.stock_prices.proofs.RuleLaws.{timed-is}
use Rattle.stock_prices_write.proofs.PassLaws.{codes_at, pass-start, pass-fails, pass-again, pass-done}
use Rattle.stock_prices_write.proofs.judging.timed.Goals as goal

pub loop-i-init : goal.loop-i-init
loop-i-init c =
    let k = codes-long 10 c.args.slots _ c.well_formed.0 in
    pass-start slot_timed c.args.slots k.0 k.1 c.args.n

pub returns-then-not-time_timed : goal.returns-then-not-time_timed
returns-then-not-time_timed c =
    let l = c.loop-i in
    let k = codes-long 10 c.args.slots _ c.well_formed.0 in
    sym (pass-fails slot_timed c.args.slots k.0 k.1 c.args.n some_slot l.i (omega arith) l.invariant
    (timed-is (get_or c.args.slots l.i some_slot) (codes_at c.args.slots l.i some_slot k.1 (omega arith)) (ltb l.i c.args.n) ∙ sym c.time_timed.ensures ∙ c.if-not-time_timed.true))

pub loop-i-preserved : goal.loop-i-preserved
loop-i-preserved c =
    let l = c.loop-i in
    let k = codes-long 10 c.args.slots _ c.well_formed.0 in
    pass-again slot_timed c.args.slots k.0 k.1 c.args.n some_slot l.i (omega arith) l.invariant
    (timed-is (get_or c.args.slots l.i some_slot) (codes_at c.args.slots l.i some_slot k.1 (omega arith)) (ltb l.i c.args.n) ∙ sym c.time_timed.ensures ∙ c.if-not-time_timed.false)

pub returns : goal.returns
returns c =
    let l = c.loop-i in
    let k = codes-long 10 c.args.slots _ c.well_formed.0 in
    sym (pass-done slot_timed c.args.slots k.0 k.1 c.args.n l.i (omega arith) (omega arith) l.invariant)
