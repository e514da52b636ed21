-- `sides_at` meets its contract: the three sides, up to the first with a bad digit.
use mathlib.Core.Path.{refl}
use mathlib.Core.Bool.{true, false}
use Rattle.stock_quotes_read.proofs.ReadLaws.{sides-say, sides-told}
use Rattle.stock_quotes_read.proofs.sides_at.Goals as goal

pub returns-in_err-trades : goal.returns-in_err-trades
returns-in_err-trades c =
    let a = c.args in
    rw c.from_residual.ensures (sides-say a.body.now a.shown c.requires false _ _ c.in_err-trades.ensures refl refl)

pub returns-in_err-bids : goal.returns-in_err-bids
returns-in_err-bids c =
    let a = c.args in
    rw c.from_residual-in_err-bids.ensures (sides-say a.body.now a.shown c.requires true false _ c.in_ok-trades.ensures.0 c.in_err-bids.ensures refl)

pub returns-in_err-asks : goal.returns-in_err-asks
returns-in_err-asks c =
    let a = c.args in
    rw c.from_residual-in_err-asks.ensures (sides-say a.body.now a.shown c.requires true true false c.in_ok-trades.ensures.0 c.in_ok-bids.ensures.0 c.in_err-asks.ensures)

pub returns : goal.returns
returns c =
    let a = c.args in (
      sides-say a.body.now a.shown c.requires true true true c.in_ok-trades.ensures.0 c.in_ok-bids.ensures.0 c.in_ok-asks.ensures.0,
      sides-told a.body.now a.shown c.requires c.in_ok-trades.trades c.in_ok-bids.bids c.in_ok-asks.asks c.in_ok-trades.ensures.1 c.in_ok-bids.ensures.1 c.in_ok-asks.ensures.1,
    )
