-- `finding::scan` meets its contract. The loop's invariant: what is found from here on is what is found from the start.
use Prim.Native.Nat.{◌+◌, ◌≤◌}
use mathlib.Core.Path.{◌≡◌}
use lib.ListN.{length, drop}
use Rattle.stock_board_flat.specs.Steps.{first_of}
use Rattle.stock_board_flat.proofs.finding.scan.Given as goal

abbrev pub invariant-loop-at : goal.invariant-loop-at
invariant-loop-at l = (l.at ≤ length l.heads) × (l.at + first_of l.code (drop l.at l.heads) ≡ first_of l.code l.heads)
