-- `fields::put_each` meets its contract. The loop's invariant: from k on the last digits are written, and w is the rest.
use Prim.Native.Nat.{◌+◌, ◌-◌, ◌/◌, ◌^◌, ◌≤◌}
use mathlib.Core.Path.{◌≡◌}
use lib.Seq.{sets}
use Rattle.digits.specs.Packed.{packed}
use Rattle.digits.proofs.fields.put_each.Given as goal

abbrev pub invariant-loop-k : goal.invariant-loop-k
invariant-loop-k l = (l.at ≤ l.k) × (l.w ≡ l.v / 100 ^ (l.at + l.n - l.k)) × (l.buf ≡ sets l.initial.buf l.k (packed (l.at + l.n - l.k) l.v))
