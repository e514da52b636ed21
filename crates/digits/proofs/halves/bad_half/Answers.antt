-- `halves::bad_half` meets its contract: the bytes up to the least of the two counts are those that are looked at.
use mathlib.Core.Path.{ap, ◌∙◌}
use mathlib.Core.List.{List}
use Prim.Native.Nat.{ℕ}
use Rattle.std.specs.Prelude.{take}
use Rattle.std.proofs.lemmas.List.{take_min}
use Rattle.digits.specs.Halves.{bad_in}
use Rattle.digits.proofs.halves.bad_half.Goals as goal

pub returns : goal.returns
returns c =
    let a = c.args in
    c.bad_in.ensures ∙ ap (λ (s : List ℕ). bad_in s a.at a.n) (ap (λ (k : ℕ). take k a.s.now) c.min.ensures ∙ take_min 65535 a.s.now)
