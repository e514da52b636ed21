-- What is still to spell stands before what is spelt.
use Rattle.std.proofs.Common.{◌-◌, ◌≤◌}
use Rattle.printing.proofs.TextLaws.{Spelt}
use Rattle.printing.proofs.spell.Given as goal

abbrev pub invariant-loop-i : goal.invariant-loop-i
invariant-loop-i l = (1 ≤ l.i) × Spelt l.fn.n (l.i - 1) l.rest l.digits
