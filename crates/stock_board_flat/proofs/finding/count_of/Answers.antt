-- `finding::count_of` meets its contract. The loop's invariant: those counted and those from here on are all.
use native.Mathlib.Omega.{arith}
use borrow.Author.Rules.{rules}
use Rattle.stock_board_flat.proofs.FindLaws.{count_next, count-end}
use Rattle.stock_board_flat.proofs.finding.count_of.Goals as goal

pub loop-head-init : goal.loop-head-init
loop-head-init c = (search rules, search rules, omega arith)

pub loop-head-preserved : goal.loop-head-preserved
loop-head-preserved c =
    let l = c.loop-head in
    let a = c.args in
    let next = count_next a.code a.heads.now l.head-index (omega arith) in
    (search rules, omega (arith, c.one_of-n.ensures.1), omega (arith, l.invariant.2, c.one_of-n.ensures.0, next))

pub returns : goal.returns
returns c =
    let l = c.loop-head in
    let a = c.args in
    (omega (arith, l.invariant.2, count-end a.code a.heads.now l.head-index (omega arith)), search rules)
