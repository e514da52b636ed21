-- `slots::slot_codes` meets its contract. The loop's invariant: putting what the slots from i on tell is putting what all tell.
use Prim.Native.Nat.{◌*◌, ◌≤◌}
use mathlib.Core.Path.{◌≡◌}
use lib.ListN.{length, drop, replicate}
use lib.Seq.{sets}
use Rattle.c_prices.specs.Slots.{spread, code_in}
use Rattle.c_prices.proofs.slots.slot_codes.Given as goal

abbrev pub invariant-loop-i : goal.invariant-loop-i
invariant-loop-i l = (l.i ≤ 10) × (length l.codes ≡ 60) × (sets l.codes (6 * l.i) (spread code_in (drop l.i l.fn.slots)) ≡ sets (replicate 60 0) 0 (spread code_in l.fn.slots))
