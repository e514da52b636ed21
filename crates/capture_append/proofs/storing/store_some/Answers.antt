-- `storing::store_some` meets its contract: at each turn of both loops memory is as after so many stores.
use Prim.Native.Nat.{◌+◌, min}
use mathlib.Core.Path.{◌≡◌, ap, ◌∙◌}
use Rattle.capture_append.specs.Stores.{stored_from}
use Rattle.capture_append.proofs.StoreLaws.{store-next, store_long}
use native.Mathlib.Omega.{arith}
use Rattle.capture_append.proofs.storing.store_some.Goals as goal

pub loop-j-2-preserved : goal.loop-j-2-preserved
loop-j-2-preserved c =
    let l = c.loop-j-2 in
    let a = c.args in
    let here : min l.j (min a.count 512) ≡ l.j = omega arith in
    let next : l.j + 1 ≡ min (l.j + 1) (min a.count 512) = omega arith in
    let put = c.store-in-loop-j-2 in (
      store_long a.capture.now l.capture put.new.capture a.start a.block.now l.j l.invariant.0 put.ensures,
      store-next a.capture.now a.start a.block.now l.j l.capture put.new.capture (l.invariant.1 ∙ ap (stored_from a.capture.now a.start a.block.now) here) put.ensures
          ∙ ap (stored_from a.capture.now a.start a.block.now) next,
    )
