-- `Row::after` meets its contract.
use Rattle.stock_board.specs.Rows.{row_after}
use Rattle.stock_board.proofs.Row.after.Goals as goal

pub returns : goal.returns
unfolding row_after
returns c = rw (c.trade_after.ensures, c.side_after.ensures, c.side_after-2.ensures)
