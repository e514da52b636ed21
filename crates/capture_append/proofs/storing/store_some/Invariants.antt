-- `storing::store_some` meets its contract: at each turn of both loops memory is as after so many stores.
use Prim.Native.Nat.{min}
use mathlib.Core.Path.{◌≡◌}
use lib.ListN.{length}
use Rattle.capture_append.specs.Stores.{stored_from}
use Rattle.capture_append.proofs.storing.store_some.Given as goal

abbrev pub invariant-loop-j : goal.invariant-loop-j
invariant-loop-j l = (length l.capture ≡ length l.fn.capture) × (l.capture ≡ stored_from l.fn.capture l.start l.block l.j)

abbrev pub invariant-loop-j-2 : goal.invariant-loop-j-2
invariant-loop-j-2 l = (length l.capture ≡ length l.fn.capture) × (l.capture ≡ stored_from l.fn.capture l.start l.block (min l.j (min l.count 512)))
