-- `searches::numbered_behind` meets its contract: looking on from here is looking from the start.
use Prim.Native.Nat.{◌+◌}
use mathlib.Core.Path.{refl, ap, ◌∙◌}
use Rattle.capture.specs.Blocks.{number}
use Rattle.capture.specs.Searches.{numbered_behind}
use Rattle.capture.proofs.SearchLaws.{found-numbered, past-unfinished, none-behind, some-place}
use native.Mathlib.Omega.{arith}
use Rattle.capture.proofs.searches.numbered_behind.Goals as goal

pub loop-i-init : goal.loop-i-init
unfolding numbered_behind
loop-i-init c = refl

pub returns-then-block_number-ne0 : goal.returns-then-block_number-ne0
returns-then-block_number-ne0 c =
    let l = c.loop-i in
    let m = c.args.capture.now in
    let r = c.block_number in
    some-place (l.i + 1) (numbered_behind m c.args.n)
    (found-numbered m l.i (omega arith) r.result (r.ensures ∙ ap number c.block_at.ensures) (λ e. omega (arith, e)) ∙ l.invariant)
    (λ e. omega (arith, e))

pub loop-i-preserved : goal.loop-i-preserved
loop-i-preserved c =
    let l = c.loop-i in
    let r = c.block_number in
    past-unfinished c.args.capture.now l.i (omega arith) r.result (r.ensures ∙ ap number c.block_at.ensures) (omega arith) ∙ l.invariant

pub returns : goal.returns
returns c = none-behind c.args.capture.now c.loop-i.i (numbered_behind c.args.capture.now c.args.n) (omega arith) c.loop-i.invariant
