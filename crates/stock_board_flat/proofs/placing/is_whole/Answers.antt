-- `placing::is_whole` meets its contract: one length after the other.
use Rattle.stock_board_flat.proofs.WholeLaws.{heads-wrong, cells_say}
use Rattle.stock_board_flat.proofs.placing.is_whole.Goals as goal
use borrow.Author.Tests.{ne_eqb}
use mathlib.Core.Path.{◌∙◌}

pub returns-then-heads-eq-ROWS : goal.returns-then-heads-eq-ROWS
returns-then-heads-eq-ROWS c = cells_say _ c.if-heads-eq-ROWS.true

pub returns-else-heads-eq-ROWS : goal.returns-else-heads-eq-ROWS
returns-else-heads-eq-ROWS c = ne_eqb _ 256 c.if-heads-eq-ROWS.false ∙ heads-wrong _ c.if-heads-eq-ROWS.false
