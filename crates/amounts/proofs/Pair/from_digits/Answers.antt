-- `Pair::from_digits` meets its contract: outside or a first byte above 9, and a pair.
use Prim.Native.Nat.{◌+◌}
use mathlib.Core.Path.{sym, ◌∙◌}
use native.Mathlib.Omega.{arith}
use Rattle.digits.proofs.Places.{inside, outside}
use Rattle.amounts.proofs.Readings.{pair-over, pair_is}
use Rattle.amounts.proofs.Pair.from_digits.Goals as goal
use Rattle.amounts.proofs.Pair.from_digits.Goals.{then-s-lt9-via-then-s-lt9, then-s-lt9-via-else-s-lt9+then-s-at, then-s-lt9-via-else-s-lt9+else-s-at+then-s-at-gt-NINE}

pub returns-then-s-lt9 : goal.returns-then-s-lt9
returns-then-s-lt9 c =
    let a = c.args in
    elim c.then-s-lt9.branch [
      | then-s-lt9-via-then-s-lt9 w ↦ sym (outside 9 a.at a.s.now _ _ (omega arith))
      | then-s-lt9-via-else-s-lt9+then-s-at w ↦ sym (outside 9 a.at a.s.now _ _ (omega arith))
      | then-s-lt9-via-else-s-lt9+else-s-at+then-s-at-gt-NINE w ↦ pair-over a.at a.s.now (omega arith) w.if-s-at-gt-NINE.true
    ]

pub returns-then-h : goal.returns-then-h
returns-then-h c =
    let a = c.args in
    pair_is a.at a.s.now (omega arith) (c.eight_at-h.ensures ∙ inside 8 (a.at + 1) a.s.now _ _ (omega arith)) c.if-s-at-gt-NINE.false c.if-h.true
