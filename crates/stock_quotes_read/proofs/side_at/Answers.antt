-- `side_at` meets its contract. The loop's invariant: the pairs read, the pairs left and the zeros are the whole side.
use Prim.Native.Nat.{◌+◌, ◌*◌}
use mathlib.Core.Path.{sym, ◌∙◌}
use native.Mathlib.Omega.{arith}
use Rattle.stock_quotes_read.proofs.SideLaws.{side-bad, side-turn, side-ends, pair-good, pair-bad}
use Rattle.stock_quotes_read.proofs.side_at.Goals as goal

pub returns-in_err-pairs : goal.returns-in_err-pairs
returns-in_err-pairs c =
    let a = c.args in
    let l = c.loop-i in
    let b = a.body.now in
    let e = sym c.from_digits.ensures ∙ c.in_err-pairs.was in
    rw c.from_residual.ensures (sym (side-bad b a.at a.count l.pairs l.i l.invariant (omega arith) (pair-bad b (a.at + 9 * l.i) (omega arith) e)))

pub loop-i-preserved : goal.loop-i-preserved
loop-i-preserved c =
    let a = c.args in
    let l = c.loop-i in
    let b = a.body.now in
    let p = c.in_ok-pairs.field-0 in
    let g = pair-good b (a.at + 9 * l.i) (omega arith) p (sym c.from_digits.ensures ∙ c.in_ok-pairs.was) in
    side-turn b a.at a.count l.pairs l.i l.invariant (omega arith) p (omega arith) g.0 g.1

pub returns : goal.returns
returns c =
    let a = c.args in
    let l = c.loop-i in
    let e = side-ends a.body.now a.at a.count l.pairs l.i l.invariant (omega arith) (omega arith) in
    (sym e.0, e.1)
