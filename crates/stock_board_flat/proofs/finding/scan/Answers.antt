-- `finding::scan` meets its contract. The loop's invariant: what is found from here on is what is found from the start.
use mathlib.Core.Path.{◌≡◌, sym, ◌∙◌}
use lib.ListN.{length}
use native.Mathlib.Omega.{arith}
use borrow.Author.Rules.{rules}
use Rattle.stock_board_flat.proofs.FindLaws.{first-here, first_on, first-end}
use Rattle.stock_board_flat.proofs.finding.scan.Goals as goal

pub loop-at-init : goal.loop-at-init
loop-at-init c = (search rules, omega arith)

pub returns-then-is_of : goal.returns-then-is_of
returns-then-is_of c =
    let a = c.args in
    let l = c.loop-at in
    first-here a.code a.heads.now l.at (omega arith) l.invariant.1 (sym c.is_of.ensures ∙ c.if-is_of.true)

pub loop-at-preserved : goal.loop-at-preserved
loop-at-preserved c =
    let a = c.args in
    let l = c.loop-at in
    (search rules, first_on a.code a.heads.now l.at (omega arith) l.invariant.1 (sym c.is_of.ensures ∙ c.if-is_of.false))

pub returns : goal.returns
returns c =
    let a = c.args in
    let l = c.loop-at in
    let all : length a.heads.now ≡ l.at = omega arith in
    all ∙ first-end a.code a.heads.now l.at (omega arith) l.invariant.1
