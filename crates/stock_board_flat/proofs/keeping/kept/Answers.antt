-- `keeping::kept` meets its contract.
use Rattle.stock_board_flat.specs.Flat.{kept_of}
use Rattle.stock_board_flat.proofs.keeping.kept.Goals as goal

pub returns : goal.returns
unfolding kept_of
returns c = rw (c.pair_of-trade.ensures, c.shown_of-reveal.ensures, c.trade_bit.ensures.0)
