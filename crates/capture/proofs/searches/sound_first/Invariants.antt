-- `searches::sound_first` meets its contract: counting on from here is counting from the start.
use Prim.Native.Nat.{◌+◌, ◌-◌}
use mathlib.Core.Path.{◌≡◌}
use Rattle.capture.specs.Searches.{sound_from, sound_first}
use Rattle.capture.proofs.searches.sound_first.Given as goal

abbrev pub invariant-loop-n : goal.invariant-loop-n
invariant-loop-n l = l.n + sound_from l.capture (128 - l.n) (l.n + 1) ≡ sound_first l.capture
