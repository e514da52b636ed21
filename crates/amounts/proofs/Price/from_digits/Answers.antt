-- `Price::from_digits` meets its contract: outside or a first byte above 9, and a price.
use Prim.Native.Nat.{◌+◌}
use mathlib.Core.Path.{sym, ◌∙◌}
use native.Mathlib.Omega.{arith}
use Rattle.digits.proofs.Places.{inside, outside}
use Rattle.amounts.proofs.Readings.{price-over, price-is}
use Rattle.amounts.proofs.Price.from_digits.Goals as goal
use Rattle.amounts.proofs.Price.from_digits.Goals.{then-s-lt5-via-then-s-lt5, then-s-lt5-via-else-s-lt5+then-s-at, then-s-lt5-via-else-s-lt5+else-s-at+then-s-at-gt-NINE}

pub returns-then-s-lt5 : goal.returns-then-s-lt5
returns-then-s-lt5 c =
    let a = c.args in
    elim c.then-s-lt5.branch [
      | then-s-lt5-via-then-s-lt5 w ↦ sym (outside 5 a.at a.s.now _ _ (omega arith))
      | then-s-lt5-via-else-s-lt5+then-s-at w ↦ sym (outside 5 a.at a.s.now _ _ (omega arith))
      | then-s-lt5-via-else-s-lt5+else-s-at+then-s-at-gt-NINE w ↦ price-over a.at a.s.now (omega arith) w.if-s-at-gt-NINE.true
    ]

pub returns-then-h : goal.returns-then-h
returns-then-h c =
    let a = c.args in
    price-is a.at a.s.now (omega arith) (c.four_at-h.ensures ∙ inside 4 (a.at + 1) a.s.now _ _ (omega arith)) c.if-s-at-gt-NINE.false c.if-h.true
