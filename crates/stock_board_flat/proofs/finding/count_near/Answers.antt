-- `finding::count_near` meets its contract. The loop's invariant: those counted and those from here on are all.
use native.Mathlib.Omega.{arith}
use borrow.Author.Rules.{rules}
use Rattle.stock_board_flat.proofs.FindLaws.{near-count-next, near-count-end}
use Rattle.stock_board_flat.proofs.finding.count_near.Goals as goal

pub loop-head-init : goal.loop-head-init
loop-head-init c = (search rules, search rules, omega arith)

pub loop-head-preserved : goal.loop-head-preserved
loop-head-preserved c =
    let l = c.loop-head in
    let a = c.args in
    let next = near-count-next a.low a.heads.now l.head-index (omega arith) in
    (search rules, omega (arith, c.one_near-n.ensures.1), omega (arith, l.invariant.2, c.one_near-n.ensures.0, next))

pub returns : goal.returns
returns c =
    let l = c.loop-head in
    let a = c.args in
    omega (arith, l.invariant.2, near-count-end a.low a.heads.now l.head-index (omega arith))
