-- `figures::figures` meets its contract: what is counted and what is ahead are the walk's figures together.
use Prim.Native.Nat.{◌-◌}
use lib.ListN.{length}
use Rattle.walk.proofs.TurnLaws.{Counted}
use Rattle.lines.proofs.LineLaws.{line_on}
use Rattle.lines.proofs.figures.figures.Given as goal

abbrev pub invariant-loop-at : goal.invariant-loop-at
invariant-loop-at l = Counted (line_on l.exchange) l.closed l.line l.t l.at

abbrev pub decreases-loop-at : goal.decreases-loop-at
decreases-loop-at l = length l.line - l.at
