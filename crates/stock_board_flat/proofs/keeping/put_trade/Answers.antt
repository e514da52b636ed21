-- `keeping::put_trade` meets its contract: six cells are put, and those of the levels stay.
use Rattle.stock_board_flat.specs.Steps.{flat}
use Rattle.stock_board_flat.proofs.StoreLaws.{trade-stored}
use mathlib.Core.Path.{refl}
use Rattle.stock_board_flat.proofs.keeping.put_trade.Goals as goal

pub returns : goal.returns
returns c =
    let a = c.args in
    trade-stored (flat a.heads.now a.cells.now) c.requires.0 a.at c.requires.1 a.m c.requires.2 a.last c.trade_after-trade.result _ c.head_of.result c.first_cells.result c.last_cells.result
    c.put.new.cells c.put-2.new.cells c.requires.3 c.trade_after-trade.ensures refl c.head_of.ensures c.first_cells.ensures c.last_cells.ensures c.put.ensures c.put-2.ensures
