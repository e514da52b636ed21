-- `finding::one_of` meets its contract.
use borrow.Author.Tests.{eq-eqb, ne_eqb}
use borrow.Author.Rules.{rules}
use Rattle.stock_board_flat.proofs.finding.one_of.Goals as goal

pub returns-then-head-code : goal.returns-then-head-code
returns-then-head-code c = (rw (eq-eqb _ _ c.if-head-code.true), search rules)

pub returns-else-head-code : goal.returns-else-head-code
returns-else-head-code c = (rw (ne_eqb _ _ c.if-head-code.false), search rules)
