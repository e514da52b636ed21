-- `fields::put_each` meets its contract. The loop's invariant: from k on the last digits are written, and w is the rest.
use Prim.Native.Nat.{◌+◌}
use native.Mathlib.Omega.{arith}
use Rattle.digits.proofs.WriteSteps.{write-left, write-turn, write-ends}
use Rattle.digits.proofs.fields.put_each.Goals as goal

pub loop-k-preserved : goal.loop-k-preserved
loop-k-preserved c =
    let a = c.args in
    let l = c.loop-k in (
      omega arith,
      write-left a.v l.w (a.at + a.n) l.k l.buf a.buf.now (omega arith) (omega arith) l.invariant.1 l.invariant.2,
      write-turn a.v l.w (a.at + a.n) l.k l.buf a.buf.now (omega arith) (omega arith) l.invariant.1 l.invariant.2,
    )

pub returns : goal.returns
returns c =
    let a = c.args in
    let l = c.loop-k in
    write-ends a.v a.n a.buf.now a.at l.k l.buf (omega arith) l.invariant.2
