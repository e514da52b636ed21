-- `blocks::all_zero` meets its contract: what is added up so far and what is left say it of all.
use Prim.Native.Nat.{◌*◌, ◌≤◌}
use mathlib.Core.Path.{◌≡◌}
use mathlib.Core.Bool.{◌&&◌}
use lib.ListN.{drop}
use lib.Dec.{eqb}
use Rattle.capture.specs.Blocks.{all_zero}
use Rattle.capture.proofs.blocks.all_zero.Given as goal

abbrev pub invariant-loop-b : goal.invariant-loop-b
invariant-loop-b l = (l.sum ≤ 255 * l.b-index) × ((eqb l.sum 0 && all_zero (drop l.b-index l.bytes)) ≡ all_zero l.bytes)
