-- `searches::numbered_behind` meets its contract: looking on from here is looking from the start.
use Prim.Native.Nat.{◌+◌, ◌-◌}
use mathlib.Core.Path.{◌≡◌}
use Rattle.capture.specs.Captures.{numbered, first_from}
use Rattle.capture.specs.Searches.{numbered_behind}
use Rattle.capture.proofs.searches.numbered_behind.Given as goal

abbrev pub invariant-loop-i : goal.invariant-loop-i
invariant-loop-i l = first_from (numbered l.capture) (128 - l.i) (l.i + 1) ≡ numbered_behind l.capture l.n
