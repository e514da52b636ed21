-- `side_at` meets its contract. The loop's invariant: the pairs read, the pairs left and the zeros are the whole side.
use Rattle.stock_quotes_read.proofs.SideLaws.{SideSoFar}
use Rattle.stock_quotes_read.proofs.side_at.Given as goal

abbrev pub invariant-loop-i : goal.invariant-loop-i
invariant-loop-i l = SideSoFar l.body l.at l.count l.pairs l.i
