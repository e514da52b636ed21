-- `side_right` meets its contract. The loop's invariant: the test of the pairs left is the test of all.
use Prim.Native.Nat.{◌-◌}
use mathlib.Core.Path.{◌≡◌}
use lib.ListN.{drop}
use Rattle.stock_quotes_write.specs.Steps.{part_right}
use Rattle.stock_quotes_write.proofs.side_right.Given as goal

abbrev pub invariant-loop-i : goal.invariant-loop-i
invariant-loop-i l = part_right (l.count - l.i) (drop l.i l.pairs) ≡ part_right l.count l.pairs
