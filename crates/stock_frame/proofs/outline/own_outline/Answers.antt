-- `outline::own_outline` meets its contract: each check that fails answers.
use native.Mathlib.Omega.{arith}
use Rattle.stock_frame.proofs.OutlineLaws.{right-length}
use Rattle.stock_frame.proofs.OutlineSteps.{own-return, own-feed, own-check, own-whole, own-head}
use Rattle.stock_frame.proofs.outline.own_outline.Goals as goal
use Rattle.stock_frame.proofs.outline.own_outline.Goals.{then-f-n-ne13-via-then-f-n-ne13, then-f-n-ne13-via-else-f-n-ne13+then-f-n-ne10}

pub returns-then-f-n-ne13 : goal.returns-then-f-n-ne13
returns-then-f-n-ne13 c =
    let f = c.args.f.now in
    elim c.then-f-n-ne13.branch [
      | then-f-n-ne13-via-then-f-n-ne13 w ↦ own-return f c.requires.0 c.requires.1 c.requires.2 c.requires.3 w.if-f-n-ne13.true
      | then-f-n-ne13-via-else-f-n-ne13+then-f-n-ne10 w ↦ own-feed f c.requires.0 c.requires.1 c.requires.2 c.requires.3 w.if-f-n-ne13.false w.if-f-n-ne10.true
    ]

pub returns-then-f-n : goal.returns-then-f-n
returns-then-f-n c =
    let f = c.args.f.now in
    own-check f c.requires.0 c.requires.1 c.requires.2 c.requires.3 c.if-f-n-ne13.false c.if-f-n-ne10.false c.xor_of-x.result c.xor_of-x.ensures c.if-f-n.true

pub returns-then-h : goal.returns-then-h
returns-then-h c =
    let f = c.args.f.now in
    own-whole f c.requires.0 c.requires.1 c.requires.2 c.requires.3 c.if-f-n-ne13.false c.if-f-n-ne10.false c.xor_of-x.result c.xor_of-x.ensures c.if-f-n.false
    c.eight_at-h.result c.eight_at-h.ensures c.if-h.true

pub head_place-requires : goal.head_place-requires
head_place-requires c = (c.requires.0, omega (arith, (right-length c.args.f.now c.requires.2).1, c.requires.3))

pub returns : goal.returns
returns c =
    let f = c.args.f.now in
    own-head f c.requires.0 c.requires.1 c.requires.2 c.requires.3 c.if-f-n-ne13.false c.if-f-n-ne10.false c.xor_of-x.result c.xor_of-x.ensures c.if-f-n.false
    c.eight_at-h.result c.eight_at-h.ensures c.if-h.false c.head_place.result c.head_place.ensures
