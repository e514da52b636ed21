-- `writing::put_slots` meets its contract. The loop's invariant: putting the bytes of the slots from i on is putting those of all.
use Prim.Native.Nat.{ℕ, ◌+◌, ◌*◌}
use mathlib.Core.Path.{◌≡◌, refl, sym, ap, ◌∙◌}
use native.Mathlib.Omega.{arith}
use lib.ListN.{length, get_or}
use lib.Seq.{sets, length-sets}
use Rattle.layout.specs.Cells.{encode}
use Rattle.stock_prices.specs.Prices.{slot_cells, slot_values}
use Rattle.stock_prices.proofs.Shapes.{some_slot, codes-long}
use Rattle.stock_prices_write.proofs.WriteLaws.{bytes_from, this-fits, others-fit, put-turn, bytes-done}
use Rattle.stock_prices_write.proofs.writing.put_slots.Goals as goal

pub loop-i-init : goal.loop-i-init
loop-i-init c = (refl, c.requires.1, refl)

pub put_slot-requires : goal.put_slot-requires
put_slot-requires c =
    let l = c.loop-i in
    let k = codes-long 10 c.args.slots _ c.well_formed.0 in
    (omega (arith, c.requires.0, l.invariant.0), this-fits c.args.slots k.0 k.1 some_slot l.i (omega arith) l.invariant.1)

pub loop-i-preserved : goal.loop-i-preserved
loop-i-preserved c =
    let l = c.loop-i in
    let k = codes-long 10 c.args.slots _ c.well_formed.0 in
    let at = 11 + 36 * l.i in
    let next : 11 + 36 * (l.i + 1) ≡ at + 36 = omega arith in (
      ap length c.put_slot.ensures ∙ length-sets l.buf at (encode slot_cells (slot_values (get_or c.args.slots l.i some_slot))) ∙ l.invariant.0,
      others-fit c.args.slots k.0 k.1 some_slot l.i (omega arith) l.invariant.1,
      ap (λ (j : ℕ). sets c.put_slot.new.buf j (bytes_from c.args.slots k.0 k.1 (l.i + 1))) next
          ∙ put-turn c.args.slots k.0 k.1 some_slot l.i (omega arith) l.invariant.1 at l.buf c.put_slot.new.buf c.put_slot.ensures ∙ l.invariant.2,
    )

pub shape_of-buf : goal.shape_of-buf
shape_of-buf c = c.loop-i.invariant.0

pub returns : goal.returns
returns c =
    let l = c.loop-i in
    let k = codes-long 10 c.args.slots _ c.well_formed.0 in
    sym (ap (sets l.buf (11 + 36 * l.i)) (bytes-done c.args.slots k.0 k.1 l.i (omega arith) (omega arith))) ∙ l.invariant.2
