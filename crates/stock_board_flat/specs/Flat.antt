-- The board as lists of numbers, one to a field: the rows that they hold, and a row put into them.
use Rattle.std.specs.Prelude.{ℕ, ◌+◌, ◌*◌, ◌/◌, ◌%◌, Bool, ◌&&◌, List, [], ◌∷◌, ◌++◌, length, get_or, set, take, drop, eqb, cond, Option, is_some, unwrap_or}
use Rattle.std.proofs.lemmas.List.Edits.{sets}
use Rattle.amounts.specs.declared.Pair.{Pair}
use Rattle.words.specs.Words.{bytes}
use Rattle.stock_quotes.specs.Quotes.{no_pair}
use Rattle.stock_quotes.specs.declared.Levels.TheVariants.{Shown}
use Rattle.stock_quotes.specs.declared.Quote.{Quote}
use Rattle.stock_quotes_numbers.specs.Numbers.{quote_amounts, quote_from}
use Rattle.stock_board.specs.declared.Row.{Row}
use Rattle.stock_board.specs.Rows.{free_row, row_after}
use Rattle.stock_board.specs.Board.{row_count}

-- the lists: of each row one head and 26 cells
pub record Flat : Type 0 where
  pub heads : List ℕ
  pub cells : List ℕ

abbrev pub per_row : ℕ
per_row = 26

-- both lists are as long as 256 rows make them
unfoldable pub whole : Flat → Bool
whole f = eqb (length f.heads) row_count && eqb (length f.cells) (row_count * per_row)

-- a head is eight bytes as one number, the first lowest: code, limit, status
abbrev pub number_of : List ℕ → ℕ
number_of [] = 0
number_of (b ∷ s) = b + 256 * number_of s

abbrev pub head_of : List ℕ → ℕ → ℕ → ℕ
head_of code limit status = number_of (code ++ (limit ∷ status ∷ []))

-- a quote's nine bytes: code, what is shown, limit, status
abbrev pub marks_of : ℕ → ℕ → List ℕ
marks_of head shown = take 6 (bytes 8 head) ++ (shown ∷ drop 6 (bytes 8 head))

-- a row is kept as the quote that leaves it of a free row: its levels are shown, and bit 7 of its reveal byte says that there is a
-- last trade
abbrev pub pair_of : Option Pair → Pair
pair_of trade = unwrap_or trade no_pair

abbrev pub trade_bit : Option Pair → ℕ
trade_bit trade = cond (is_some trade) 1 0

abbrev pub shown_of : Row → ℕ
shown_of row = 128 * trade_bit row.trade + (16 * (row.bids.count % 8) + 2 * (row.asks.count % 8))

unfoldable pub kept_of : Row → Quote
kept_of row = record {
  seq = 0;
  code = row.code;
  time = row.time;
  reveal = shown_of row;
  limit = row.limit;
  status = row.status;
  total = row.total;
  trade = pair_of row.trade;
  levels = Shown;
  bids = row.bids.levels;
  asks = row.asks.levels;
}

-- the cells: a quote's 23 amounts, what is shown, of which bit 0 counts for nothing, and the time in two parts, the low one first
abbrev pub half : ℕ
half = 4294967296

abbrev pub cells_of : Quote → List ℕ
cells_of q = quote_amounts q ++ (q.reveal ∷ q.time % half ∷ q.time / half ∷ [])

abbrev pub shown_in : List ℕ → ℕ
shown_in cells = get_or cells 23 0 % 256 / 2 * 2

abbrev pub time_in : List ℕ → ℕ
time_in cells = get_or cells 24 0 + half * get_or cells 25 0

-- the row of its numbers
abbrev pub quote_in : ℕ → List ℕ → Quote
quote_in head cells = quote_from 0 (marks_of head (shown_in cells)) (time_in cells) cells

abbrev pub row_from : ℕ → List ℕ → Row
row_from head cells = row_after free_row (quote_in head cells)

-- the rows, one to a head
abbrev pub rows_from : List ℕ → List ℕ → List Row
rows_from [] cells = []
rows_from (head ∷ heads) cells = row_from head (take per_row cells) ∷ rows_from heads (drop per_row cells)

abbrev pub rows_of : Flat → List Row
rows_of f = rows_from f.heads f.cells

-- a row put at its place; a place behind the last changes nothing
abbrev pub stored_at : Flat → ℕ → Row → Flat
stored_at f at row =
    let q = kept_of row in
    record {
      heads = set f.heads at (head_of q.code q.limit q.status);
      cells = sets f.cells (per_row * at) (cells_of q);
    }
