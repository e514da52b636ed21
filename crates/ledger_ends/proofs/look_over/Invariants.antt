-- The ends so far are in order and those left decide; the ends counted so far and those left are all.
use Rattle.std.proofs.Common.{◌≡◌, ◌+◌, ◌≤◌, ◌&&◌, drop}
use Rattle.ledger.specs.Ends.{falling, ends_from}
use Rattle.ledger.specs.Calls.{most_number}
use Rattle.ledger_ends.proofs.look_over.Given as goal

abbrev pub invariant-loop-end : goal.invariant-loop-end
invariant-loop-end l = (l.from ≤ l.end-index) × ((l.falls && falling l.above (drop l.end-index l.ends)) ≡ falling (most_number + 1) l.ends) × (l.from + ends_from l.n (drop l.end-index l.ends) ≡ ends_from l.n l.ends)
