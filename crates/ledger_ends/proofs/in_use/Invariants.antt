-- The ends counted so far and those left are all.
use Rattle.std.proofs.Common.{◌≡◌, ◌+◌, ◌≤◌, drop}
use Rattle.ledger.specs.Ends.{ends_from}
use Rattle.ledger_ends.proofs.in_use.Given as goal

abbrev pub invariant-loop-end : goal.invariant-loop-end
invariant-loop-end l = (l.count ≤ l.end-index) × (l.count + ends_from 1 (drop l.end-index l.ends) ≡ ends_from 1 l.ends)
