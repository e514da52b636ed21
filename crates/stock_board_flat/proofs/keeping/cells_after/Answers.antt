-- `keeping::cells_after` meets its contract.
use mathlib.Core.Path.{◌∙◌}
use Rattle.stock_board_flat.proofs.StoreLaws.{cells-made}
use Rattle.stock_board_flat.proofs.keeping.cells_after.Goals as goal

pub returns : goal.returns
returns c =
    let a = c.args in
    c.cells_from.ensures
    ∙ cells-made a.last c.trade_after-trade.result a.m c.requires c.quote_amounts.result c.trade_bit.result c.shown_of-shown.result c.pair_of.result c.trade_after-trade.ensures c.quote_amounts.ensures c.pair_of.ensures
    c.trade_bit.ensures.0 c.shown_of-shown.ensures
