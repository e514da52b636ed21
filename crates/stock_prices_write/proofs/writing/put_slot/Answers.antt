-- `writing::put_slot` meets its contract.
use Prim.Native.Nat.{◌+◌}
use mathlib.Core.Path.{◌≡◌, ap, ◌∙◌}
use native.Mathlib.Omega.{arith}
use lib.ListN.{length}
use lib.Seq.{sets, length-sets}
use Rattle.digits.proofs.FieldLaws.{put-fits}
use Rattle.layout.specs.Cells.{encode}
use Rattle.stock_prices.specs.Prices.{slot_cells, slot_values}
use Rattle.stock_prices.proofs.Shapes.{code-long}
use Rattle.stock_prices_write.proofs.WriteLaws.{total-small, time-small, slot-put}
use Rattle.stock_prices_write.proofs.writing.put_slot.Goals as goal

pub unwrap-requires-5 : goal.unwrap-requires-5
unwrap-requires-5 c =
    let s = c.args.s in
    rw (c.write-5.ensures.0
    ∙ (put-fits s.total.0 4 c.write-4.new.buf (c.args.at + 26) (omega arith) (omega (arith, c.requires.0, c.put_code.auto.buf, c.write.auto.buf, c.write-2.auto.buf, c.write-3.auto.buf, c.write-4.auto.buf)) (total-small s (code-long s _ c.well_formed.0) c.requires.1)).0)

pub unwrap-requires-6 : goal.unwrap-requires-6
unwrap-requires-6 c =
    let s = c.args.s in
    rw (c.write-6.ensures.0
    ∙ (put-fits s.time 6 c.write-5.new.buf (c.args.at + 30) (omega arith) (omega (arith, c.requires.0, c.put_code.auto.buf, c.write.auto.buf, c.write-2.auto.buf, c.write-3.auto.buf, c.write-4.auto.buf, c.write-5.auto.buf)) (time-small s (code-long s _ c.well_formed.0) c.requires.1)).0)

pub shape_of-buf : goal.shape_of-buf
shape_of-buf c =
    let put : c.write-6.new.buf ≡ sets c.args.buf.now c.args.at (encode slot_cells (slot_values c.args.s)) = slot-put c.args.s (code-long c.args.s _ c.well_formed.0) c.requires.1 c.args.buf.now c.put_code.new.buf c.write.new.buf c.write-2.new.buf c.write-3.new.buf c.write-4.new.buf c.write-5.new.buf c.write-6.new.buf c.args.at c.requires.0 c.put_code.ensures c.write.ensures.1 c.write-2.ensures.1 c.write-3.ensures.1 c.write-4.ensures.1 c.write-5.ensures.1 c.write-6.ensures.1 in
    ap length put ∙ length-sets c.args.buf.now c.args.at (encode slot_cells (slot_values c.args.s))

pub returns : goal.returns
returns c =
    let put : c.write-6.new.buf ≡ sets c.args.buf.now c.args.at (encode slot_cells (slot_values c.args.s)) = slot-put c.args.s (code-long c.args.s _ c.well_formed.0) c.requires.1 c.args.buf.now c.put_code.new.buf c.write.new.buf c.write-2.new.buf c.write-3.new.buf c.write-4.new.buf c.write-5.new.buf c.write-6.new.buf c.args.at c.requires.0 c.put_code.ensures c.write.ensures.1 c.write-2.ensures.1 c.write-3.ensures.1 c.write-4.ensures.1 c.write-5.ensures.1 c.write-6.ensures.1 in
    put
