-- `writing::put_slots` meets its contract. The loop's invariant: putting the bytes of the slots from i on is putting those of all.
use Prim.Native.Nat.{◌+◌, ◌-◌, ◌*◌}
use mathlib.Core.Path.{◌≡◌}
use mathlib.Core.Bool.{true}
use lib.ListN.{length, drop}
use lib.Seq.{sets}
use Rattle.layout.specs.Cells.{fits, encode}
use Rattle.stock_prices.specs.Prices.{slots_cells, slots_values}
use Rattle.stock_prices_write.proofs.writing.put_slots.Given as goal

abbrev pub invariant-loop-i : goal.invariant-loop-i
invariant-loop-i l =
    (length l.buf ≡ length l.initial.buf) × (fits (slots_cells (10 - l.i)) (slots_values (drop l.i l.slots)) ≡ true)
    × (sets l.buf (11 + 36 * l.i) (encode (slots_cells (10 - l.i)) (slots_values (drop l.i l.slots))) ≡ sets l.initial.buf 11 (encode (slots_cells 10) (slots_values l.slots)))
