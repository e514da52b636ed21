-- `stretch::noise` meets its contract: what was passed and the noise ahead are the noise from the place on.
use Prim.Native.Nat.{◌+◌}
use mathlib.Core.Path.{◌≡◌}
use lib.ListN.{drop}
use Rattle.walk.specs.Noise.{noise_length}
use Rattle.walk.proofs.stretch.noise.Given as goal

abbrev pub invariant-loop-i : goal.invariant-loop-i
invariant-loop-i l = noise_length (drop l.at l.line) ≡ l.i + noise_length (drop l.i l.b-items)
