-- `pieces::next_rows` meets its contract: what is still to give stays the same from turn to turn.
use Prim.Native.Nat.{◌-◌}
use mathlib.Core.Path.{◌≡◌}
use lib.ListN.{length}
use Rattle.walk.proofs.TurnLaws.{to_give}
use Rattle.lines.proofs.LineLaws.{line_on}
use Rattle.lines.proofs.pieces.next_rows.Given as goal

abbrev pub invariant-loop-at : goal.invariant-loop-at
invariant-loop-at l = to_give (line_on l.exchange) l.closed l.line l.kept l.at ≡ to_give (line_on l.exchange) l.closed l.line l.initial.kept l.initial.at

abbrev pub decreases-loop-at : goal.decreases-loop-at
decreases-loop-at l = length l.line - l.at
