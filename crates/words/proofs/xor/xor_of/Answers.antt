-- `xor::xor_of` meets its contract. The loop's invariant: the number gathered of the eights before, with the bytes left, gives what all give.
use Prim.Native.Nat.{◌+◌, ◌*◌}
use mathlib.Core.Path.{ap, ◌∙◌}
use native.Mathlib.Omega.{arith}
use Rattle.words.specs.Steps.{gathered}
use Rattle.words.proofs.XorLaws.{gathered-more, gathered_none, gathered-all}
use Rattle.words.proofs.xor.xor_of.Goals as goal

pub loop-k-init : goal.loop-k-init
loop-k-init c = gathered_none c.args.s.now

pub loop-k-preserved : goal.loop-k-preserved
loop-k-preserved c =
    let s = c.args.s.now in
    let l = c.loop-k in
    let w = c.eight-x in
    gathered-more 8 0 (8 * l.k) (8 * (l.k + 1)) l.x w.result s (omega arith) (omega arith) (omega arith) w.ensures.1 ∙ l.invariant

pub returns : goal.returns
returns c =
    let l = c.loop-k in
    let s = c.args.s.now in
    let one = c.last_one in
    c.fold.ensures ∙ gathered-all one.result s ∙ one.ensures ∙ c.last_two.ensures ∙ c.last_four.ensures
    ∙ ap (λ at. gathered l.x at s) (omega arith)
    ∙ l.invariant
