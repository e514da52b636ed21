-- `outline::own_outline` meets its contract: each check that fails answers.
use Prim.Native.Nat.{◌≤◌}
use mathlib.Core.Path.{◌≡◌}
use mathlib.Core.Bool.{false}
use native.Mathlib.Omega.{arith}
use lib.ListN.{length}
use Rattle.frame.specs.Header.{head_good}
use Rattle.derivatives_frame.specs.Outline.{header}
use Rattle.derivatives_frame.proofs.HeadSteps.{bad-block, bad-high, bad-low, all-good, head-is}
use Rattle.derivatives_frame.proofs.OutlineSteps.{own-return, own-feed, own-check, own-head, own-whole}
use Rattle.derivatives_frame.proofs.outline.own_outline.Goals as goal
use Rattle.derivatives_frame.proofs.outline.own_outline.Goals.{then-f-n-ne13-via-then-f-n-ne13, then-f-n-ne13-via-else-f-n-ne13+then-f-n-ne10}
use Rattle.derivatives_frame.proofs.outline.own_outline.Goals.{else-h-via-then-h+then-high-le9+else-low-le9, else-h-via-then-h+else-high-le9, else-h-via-else-h}

pub returns-then-f-n-ne13 : goal.returns-then-f-n-ne13
returns-then-f-n-ne13 c =
    elim c.then-f-n-ne13.branch [
      | then-f-n-ne13-via-then-f-n-ne13 w ↦ own-return c.args.f.now w.if-f-n-ne13.true
      | then-f-n-ne13-via-else-f-n-ne13+then-f-n-ne10 w ↦ own-feed c.args.f.now w.if-f-n-ne13.false w.if-f-n-ne10.true
    ]

pub returns-then-f-n : goal.returns-then-f-n
returns-then-f-n c =
    own-check c.args.f.now c.if-f-n-ne13.false c.if-f-n-ne10.false c.xor_of-x.result c.xor_of-x.ensures
    c.if-f-n.true

pub returns-then-low-le9 : goal.returns-then-low-le9
returns-then-low-le9 c =
    let long : 12 ≤ length c.args.f.now = omega (arith, c.requires.0) in
    own-whole c.args.f.now c.if-f-n-ne13.false c.if-f-n-ne10.false c.xor_of-x.result c.xor_of-x.ensures c.if-f-n.false
    (all-good c.args.f.now long c.eight_at-h.result c.eight_at-h.ensures c.if-h.true c.if-high-le9.true c.if-low-le9.true)
    _ (head-is c.args.f.now long c.eight_at-h.result c.eight_at-h.ensures)

pub returns : goal.returns
returns c =
    let long : 12 ≤ length c.args.f.now = omega (arith, c.requires.0) in
    let bad-head : head_good header c.args.f.now ≡ false = elim c.else-h.branch [
      | else-h-via-then-h+then-high-le9+else-low-le9 w ↦ bad-low c.args.f.now long c.eight_at-h.result c.eight_at-h.ensures w.if-low-le9.false
      | else-h-via-then-h+else-high-le9 w ↦ bad-high c.args.f.now long c.eight_at-h.result c.eight_at-h.ensures w.if-high-le9.false
      | else-h-via-else-h w ↦ bad-block c.args.f.now long c.eight_at-h.result c.eight_at-h.ensures w.if-h.false
    ] in
    own-head c.args.f.now c.if-f-n-ne13.false c.if-f-n-ne10.false c.xor_of-x.result c.xor_of-x.ensures c.if-f-n.false
    bad-head c.head_place.result c.head_place.ensures
