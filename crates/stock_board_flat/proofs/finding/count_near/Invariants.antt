-- `finding::count_near` meets its contract. The loop's invariant: those counted and those from here on are all.
use Prim.Native.Nat.{◌+◌, ◌≤◌}
use mathlib.Core.Path.{◌≡◌}
use lib.ListN.{length, drop}
use Rattle.stock_board_flat.specs.Steps.{near_count}
use Rattle.stock_board_flat.proofs.finding.count_near.Given as goal

abbrev pub invariant-loop-head : goal.invariant-loop-head
invariant-loop-head l = (l.head-index ≤ length l.heads) × (l.n ≤ l.head-index) × (l.n + near_count l.low (drop l.head-index l.heads) ≡ near_count l.low l.heads)
