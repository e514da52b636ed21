-- `fields::read_by` meets its contract. The loop's invariant: reading on from here is reading from the start.
use Prim.Native.Nat.{◌*◌, ◌^◌, ◌<◌}
use mathlib.Core.Path.{◌≡◌}
use lib.ListN.{drop}
use Rattle.digits.specs.Lent.{field_from_by, field_by}
use Rattle.digits.proofs.fields.read_by.Given as goal

abbrev pub invariant-loop-k : goal.invariant-loop-k
invariant-loop-k l = (l.v < 100 ^ l.k) × (field_from_by l.table l.v (2 * l.k) (drop l.k l.b-items) ≡ field_by l.table l.s l.at l.n)
