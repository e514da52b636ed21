-- `finding::find` meets its contract. The loop's invariant: what is found from here on is what is found from the start.
use Prim.Native.Nat.{◌+◌, ◌-◌}
use lib.ListN.{length}
use native.Mathlib.Omega.{arith}
use borrow.Author.Rules.{rules}
use Rattle.stock_board_flat.proofs.FindLaws.{block-has, block_none, rest_has, first-most}
use Rattle.stock_board_flat.proofs.finding.find.Goals as goal

pub loop-at-init : goal.loop-at-init
loop-at-init c = (search rules, omega arith)

pub returns-then-i-lt-BLOCK : goal.returns-then-i-lt-BLOCK
returns-then-i-lt-BLOCK c =
    let l = c.loop-at in
    let a = c.args in
    block-has a.code 32 (l.at + 32 - l.at) l.at a.heads.now (omega arith) (omega arith) l.invariant.1 c.in_block-i.result c.in_block-i.ensures c.if-i-lt-BLOCK.true

pub loop-at-preserved : goal.loop-at-preserved
loop-at-preserved c =
    let l = c.loop-at in
    let a = c.args in
    (search rules, block_none a.code 32 (l.at + 32 - l.at) l.at a.heads.now (omega arith) (omega arith) l.invariant.1 c.in_block-i.result c.in_block-i.ensures c.if-i-lt-BLOCK.false)

pub overflow_add-result-2 : goal.overflow_add-result-2
overflow_add-result-2 c =
    let l = c.loop-at in
    let a = c.args in
    omega (arith, first-most a.code a.heads.now, rest_has a.code l.at a.heads.now (length a.heads.now - l.at) c.scan.result l.invariant.1 c.scan.ensures (omega arith))

pub returns : goal.returns
returns c =
    let l = c.loop-at in
    let a = c.args in
    rest_has a.code l.at a.heads.now (length a.heads.now - l.at) c.scan.result l.invariant.1 c.scan.ensures (omega arith)
