-- `halves::bad_from` meets its contract. The loop's invariant: looking on from here is looking from the start.
use Prim.Native.Nat.{◌*◌, ◌+◌}
use mathlib.Core.Path.{◌≡◌}
use lib.ListN.{take, drop}
use Rattle.digits.specs.Halves.{bad_from}
use Rattle.digits.proofs.halves.bad_from.Given as goal

abbrev pub invariant-loop-k : goal.invariant-loop-k
invariant-loop-k l = bad_from (2 * (l.at + l.k)) (drop l.k l.b-items) ≡ bad_from (2 * l.at) (take l.n (drop l.at l.s))
