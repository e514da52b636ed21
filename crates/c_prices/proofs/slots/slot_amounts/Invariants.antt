-- `slots::slot_amounts` meets its contract. The loop's invariant: putting what the slots from i on tell is putting what all tell.
use Prim.Native.Nat.{◌*◌, ◌≤◌}
use mathlib.Core.Path.{◌≡◌}
use lib.ListN.{length, drop, replicate}
use lib.Seq.{sets}
use Rattle.c_prices.specs.Slots.{spread, amounts_in}
use Rattle.c_prices.proofs.slots.slot_amounts.Given as goal

abbrev pub invariant-loop-i : goal.invariant-loop-i
invariant-loop-i l = (l.i ≤ 10) × (length l.amounts ≡ 50) × (sets l.amounts (5 * l.i) (spread amounts_in (drop l.i l.fn.slots)) ≡ sets (replicate 50 0) 0 (spread amounts_in l.fn.slots))
