-- A stock's row is told by its own messages, part by part.
use mathlib.Core.Path.{◌≡◌, refl}
use mathlib.Core.Bool.{Bool, true, false, cond, ◌&&◌}
use mathlib.Core.List.{List, [], ◌∷◌}
use lib.Dec.{eqb}
use Rattle.stock_quotes.specs.Reveal.{revealed}
use Rattle.stock_quotes.specs.declared.Levels.{Levels}
use Rattle.stock_quotes.specs.declared.Levels.TheVariants.{Shown, NotShown}
use Rattle.stock_quotes.specs.declared.Quote.{Quote}
use Rattle.std.specs.Prelude.{Some}
use Rattle.stock_board.specs.declared.Row.{Row}
use Rattle.stock_board.specs.Rows.{side, side_after, row_after}
use Rattle.stock_board.specs.Board.{same_code}
use Rattle.laws_board.specs.History.{Code, taken, said}
use Rattle.laws_board.specs.Own.{own, shows, showing, trading, latest_bids, latest_asks, latest_trade, Parts}

-- one message more
next-parts : (row : Row) (m : Quote) (ms : List Quote) → Parts row ms → Parts (row_after row m) (m ∷ ms)
unfolding row_after
next-parts row m ms p = record {
  bids = bids-next m.levels p.bids;
  asks = asks-next m.levels p.asks;
  trade = trade-next (eqb (revealed m.reveal).trades 0) p.trade;
  rest = (refl, refl, refl, refl);
}
  where
    bids-next : (l : Levels) → row.bids ≡ latest_bids (showing ms)
        → side_after row.bids l (side (revealed m.reveal).bids m.bids) ≡ latest_bids (cond (shows l) (m ∷ showing ms) (showing ms))
    bids-next Shown e = refl
    bids-next NotShown e = e

    asks-next : (l : Levels) → row.asks ≡ latest_asks (showing ms)
        → side_after row.asks l (side (revealed m.reveal).asks m.asks) ≡ latest_asks (cond (shows l) (m ∷ showing ms) (showing ms))
    asks-next Shown e = refl
    asks-next NotShown e = e

    trade-next : (t : Bool) → row.trade ≡ latest_trade (trading ms) → cond t row.trade (Some m.trade) ≡ latest_trade (cond t (trading ms) (m ∷ trading ms))
    trade-next true e = e
    trade-next false e = refl

-- after any series of messages a stock's row is what its own messages say, part by part
pub said-parts : (code : Code) (ms : List Quote) → Parts (said code ms) (own code ms)
said-parts code [] = record { bids = refl; asks = refl; trade = refl; rest = refl }
said-parts code (m ∷ ms) = go (taken ms m && same_code code m.code) (said-parts code ms)
  where
    go : (t : Bool) → Parts (said code ms) (own code ms) → Parts (cond t (row_after (said code ms) m) (said code ms)) (cond t (m ∷ own code ms) (own code ms))
    go true p = next-parts (said code ms) m (own code ms) p
    go false p = p
