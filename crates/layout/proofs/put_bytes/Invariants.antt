-- `bytes::put_bytes` meets its contract. The loop's invariant: the first i bytes stand at their place.
use Prim.Native.Nat.{◌≤◌}
use mathlib.Core.Path.{◌≡◌}
use lib.ListN.{length, take}
use lib.Seq.{sets}
use Rattle.layout.proofs.put_bytes.Given as goal

abbrev pub invariant-loop-i : goal.invariant-loop-i
invariant-loop-i l = (l.i ≤ length l.s) × (l.buf ≡ sets l.initial.buf l.at (take l.i l.s))
