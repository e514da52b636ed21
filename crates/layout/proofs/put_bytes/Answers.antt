-- `bytes::put_bytes` meets its contract. The loop's invariant: the first i bytes stand at their place.
use mathlib.Core.Path.{refl, ap, ◌∙◌}
use borrow.Author.Rules.{rules}
use native.Mathlib.Omega.{arith}
use lib.ListN.{length, take}
use lib.Seq.{sets, length-sets, take_all}
use Rattle.layout.proofs.PutLaws.{put-turns, bytes-out, bytes-in}
use Rattle.layout.proofs.put_bytes.Goals as goal

pub returns-then-buf-s : goal.returns-then-buf-s
returns-then-buf-s c = let a = c.args in bytes-out a.s.now a.buf.now a.at (omega arith)

pub loop-i-init : goal.loop-i-init
loop-i-init c = (search rules, refl)

pub bounds-buf-at : goal.bounds-buf-at
bounds-buf-at c =
    let a = c.args in
    let l = c.loop-i in
    omega (arith, ap length l.invariant.1, length-sets a.buf.now a.at (take l.i a.s.now))

pub loop-i-preserved : goal.loop-i-preserved
loop-i-preserved c =
    let a = c.args in
    let l = c.loop-i in
    (search rules, put-turns a.s.now a.buf.now l.buf a.at l.i l.invariant.1 (search rules))

pub shape_of-buf : goal.shape_of-buf
shape_of-buf c =
    let a = c.args in
    let l = c.loop-i in
    ap length l.invariant.1 ∙ length-sets a.buf.now a.at (take l.i a.s.now)

pub returns : goal.returns
returns c =
    let a = c.args in
    let l = c.loop-i in
    l.invariant.1 ∙ ap (sets a.buf.now a.at) (take_all l.i a.s.now (omega arith))
    ∙ bytes-in a.s.now a.buf.now a.at (omega arith)
