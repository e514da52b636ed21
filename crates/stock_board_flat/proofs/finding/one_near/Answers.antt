-- `finding::one_near` meets its contract.
use borrow.Author.Tests.{eq-eqb, ne_eqb}
use borrow.Author.Rules.{rules}
use Rattle.stock_board_flat.proofs.finding.one_near.Goals as goal

pub returns-then-head-low : goal.returns-then-head-low
returns-then-head-low c = (rw (eq-eqb _ _ c.if-head-low.true), search rules)

pub returns-else-head-low : goal.returns-else-head-low
returns-else-head-low c = (rw (ne_eqb _ _ c.if-head-low.false), search rules)
