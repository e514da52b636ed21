-- `judging::timed` meets its contract. The loop's invariant: the test that goes on from slot i is the test of all.
use Prim.Native.Nat.{◌-◌}
use mathlib.Core.Path.{◌≡◌}
use lib.ListN.{drop}
use Rattle.stock_prices.specs.Prices.{slots_pass, slot_timed, slots_values}
use Rattle.stock_prices_write.proofs.judging.timed.Given as goal

abbrev pub invariant-loop-i : goal.invariant-loop-i
invariant-loop-i l = slots_pass slot_timed (10 - l.i) (l.n - l.i) (slots_values (drop l.i l.slots)) ≡ slots_pass slot_timed 10 l.n (slots_values l.slots)
