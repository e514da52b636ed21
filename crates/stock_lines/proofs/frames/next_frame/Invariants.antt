-- `frames::next_frame` meets its contract: the next frame is the same from turn to turn.
use Prim.Native.Nat.{◌-◌}
use mathlib.Core.Path.{◌≡◌}
use lib.ListN.{length}
use Rattle.stock_lines.specs.Lines.{next_frame}
use Rattle.stock_lines.proofs.frames.next_frame.Given as goal

abbrev pub invariant-loop-at : goal.invariant-loop-at
invariant-loop-at l = next_frame l.closed l.at l.line ≡ next_frame l.closed l.initial.at l.line

abbrev pub decreases-loop-at : goal.decreases-loop-at
decreases-loop-at l = length l.line - l.at
