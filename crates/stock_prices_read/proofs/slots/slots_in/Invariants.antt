-- `slots::slots_in` meets its contract. The loop's invariant: the slots filled and those of the bytes from here on are all slots,
-- and a test of all is what it gave so far with the test from here on.
use Prim.Native.Nat.{◌+◌, ◌-◌, ◌*◌}
use mathlib.Core.Path.{◌≡◌}
use mathlib.Core.Bool.{◌&&◌}
use mathlib.Core.List.{◌++◌}
use lib.ListN.{length, take}
use Rattle.stock_prices.specs.Prices.{slot_timed, slot_ruled}
use Rattle.stock_prices_read.proofs.SlotsRead.{good_from, slots_from, pass_from}
use Rattle.stock_prices_read.proofs.slots.slots_in.Given as goal

abbrev pub invariant-loop-i : goal.invariant-loop-i
invariant-loop-i l =
    (length l.slots ≡ 10) × (good_from l.body (10 - l.i) (1 + 36 * l.i) ≡ good_from l.body 10 1)
    × (take l.i l.slots ++ slots_from l.body (10 - l.i) (1 + 36 * l.i) ≡ slots_from l.body 10 1)
    × ((l.timed && pass_from l.body slot_timed (10 - l.i) (l.n - l.i) (1 + 36 * l.i)) ≡ pass_from l.body slot_timed 10 l.n 1)
    × ((l.ruled && pass_from l.body slot_ruled (10 - l.i) (l.n - l.i) (1 + 36 * l.i)) ≡ pass_from l.body slot_ruled 10 l.n 1)
