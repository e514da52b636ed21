-- A row of the board: code, time, last trade, both sides, limit and status bytes, total quantity; and what a message leaves of it.
use Rattle.std.specs.Prelude.{ℕ, cond, List, replicate, eqb, Option, Some, None}
use Rattle.amounts.specs.Amounts.{as_quantity}
use Rattle.amounts.specs.declared.Pair.{Pair}
use Rattle.stock_quotes.specs.Reveal.{revealed, side_room}
use Rattle.stock_quotes.specs.Quotes.{no_pair}
use Rattle.stock_quotes.specs.declared.Levels.{Levels}
use Rattle.stock_quotes.specs.declared.Levels.TheVariants.{Shown, NotShown}
use Rattle.stock_quotes.specs.declared.Quote.{Quote}
use Rattle.stock_board.specs.declared.Side.{Side}
use Rattle.stock_board.specs.declared.Row.{Row}

-- the code of a free row, which no stock has
abbrev pub free_code : List ℕ
free_code = replicate 6 0

-- a side: how many levels there are, and the levels, best first
abbrev pub side : ℕ → List Pair → Side
side n levels = record { count = n; levels = levels }

-- a free row: six zero bytes for its code, no trade yet, no levels, and zeros elsewhere
abbrev pub free_row : Row
free_row = record {
  code = free_code;
  time = 0;
  limit = 0;
  status = 0;
  total = as_quantity 0;
  trade = None;
  bids = side 0 (replicate side_room no_pair);
  asks = side 0 (replicate side_room no_pair);
}

-- a frame with a trade pair tells the last trade; one without keeps it
abbrev pub last_trade : Option Pair → Pair → ℕ → Option Pair
last_trade last sent reveal = cond (eqb (revealed reveal).trades 0) last (Some sent)

-- a frame that shows its levels tells both sides, with no level too; one that does not keeps them
abbrev pub side_after : Side → Levels → Side → Side
side_after before Shown shown = shown
side_after before NotShown shown = before

-- the row behind a message of its stock: the last trade and the sides as above, and everything else the message's own
unfoldable pub row_after : Row → Quote → Row
row_after row m = record {
  code = m.code;
  time = m.time;
  limit = m.limit;
  status = m.status;
  total = m.total;
  trade = last_trade row.trade m.trade m.reveal;
  bids = side_after row.bids m.levels (side (revealed m.reveal).bids m.bids);
  asks = side_after row.asks m.levels (side (revealed m.reveal).asks m.asks);
}
