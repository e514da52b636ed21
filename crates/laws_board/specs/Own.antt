-- What a stock's row says, part by part, of its own messages that were taken.
use Rattle.std.specs.Prelude.{◌≡◌, Bool, true, false, cond, ◌&&◌, List, [], ◌∷◌, eqb, Option, Some, None}
use Rattle.amounts.specs.declared.Pair.{Pair}
use Rattle.stock_quotes.specs.Reveal.{revealed}
use Rattle.stock_quotes.specs.declared.Levels.{Levels}
use Rattle.stock_quotes.specs.declared.Quote.{Quote}
use Rattle.stock_board.specs.declared.Row.{Row}
use Rattle.stock_board.specs.declared.Side.{Side}
use Rattle.stock_board.specs.Rows.{side, free_row}
use Rattle.stock_board.specs.Board.{same_code}
use Rattle.laws_board.specs.History.{Code, taken}

-- a stock's own messages that were taken, the latest first
abbrev pub own : Code → List Quote → List Quote
own code [] = []
own code (m ∷ ms) = cond (taken ms m && same_code code m.code) (m ∷ own code ms) (own code ms)

-- a message that shows its levels, and one that sends a trade; those of a list
abbrev pub shows : Levels → Bool
shows Levels.Shown = true
shows Levels.NotShown = false

abbrev pub showing : List Quote → List Quote
showing [] = []
showing (m ∷ ms) = cond (shows m.levels) (m ∷ showing ms) (showing ms)

abbrev pub trading : List Quote → List Quote
trading [] = []
trading (m ∷ ms) = cond (eqb (revealed m.reveal).trades 0) (trading ms) (m ∷ trading ms)

-- the sides and the trade of the latest of some messages; of none, no levels and no trade yet
abbrev pub latest_bids : List Quote → Side
latest_bids [] = free_row.bids
latest_bids (m ∷ ms) = side (revealed m.reveal).bids m.bids

abbrev pub latest_asks : List Quote → Side
latest_asks [] = free_row.asks
latest_asks (m ∷ ms) = side (revealed m.reveal).asks m.asks

abbrev pub latest_trade : List Quote → Option Pair
latest_trade [] = None
latest_trade (m ∷ ms) = Some m.trade

-- time, limit, status and total are the latest message's
abbrev pub Latest : Row → List Quote → Type 0
Latest row [] = row ≡ free_row
Latest row (m ∷ ms) = (row.time ≡ m.time) × (row.limit ≡ m.limit) × (row.status ≡ m.status) × (row.total ≡ m.total)

-- a row of its stock's own messages: both sides are those of the latest that shows its levels, the trade that of the latest that sends
-- one, and everything else the latest's
pub record Parts (row : Row) (ms : List Quote) : Type 0 where
  pub bids : row.bids ≡ latest_bids (showing ms)
  pub asks : row.asks ≡ latest_asks (showing ms)
  pub trade : row.trade ≡ latest_trade (trading ms)
  pub rest : Latest row ms
