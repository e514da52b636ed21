-- `xor::xor_of` meets its contract. The loop's invariant: the number gathered of the eights before, with the bytes left, gives what all give.
use Prim.Native.Nat.{◌*◌}
use mathlib.Core.Path.{◌≡◌}
use Rattle.words.specs.Xor.{xor_of}
use Rattle.words.specs.Steps.{gathered}
use Rattle.words.proofs.xor.xor_of.Given as goal

abbrev pub invariant-loop-k : goal.invariant-loop-k
invariant-loop-k l = gathered l.x (8 * l.k) l.s ≡ xor_of l.s
