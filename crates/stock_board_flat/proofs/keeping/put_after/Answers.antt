-- `keeping::put_after` meets its contract.
use Rattle.stock_board_flat.specs.Steps.{flat, with_trade}
use Rattle.stock_board_flat.proofs.StoreLaws.{stored-by}
use Rattle.stock_board_flat.proofs.keeping.put_after.Goals as goal

pub returns : goal.returns
returns c =
    stored-by (flat c.args.heads.now c.args.cells.now) c.args.at (with_trade c.args.last) c.args.m c.head_of.result c.cells_after.result c.put.new.cells
    c.head_of.ensures c.cells_after.ensures c.put.ensures
