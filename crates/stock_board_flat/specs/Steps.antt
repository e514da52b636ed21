-- What the steps of a call hand on to each other.
use Rattle.std.specs.Prelude.{ℕ, suc, ◌+◌, ◌*◌, ◌/◌, ◌%◌, ◌<◌, ◌≡◌, Bool, true, false, cond, not, List, [], ◌∷◌, length, get_or, take, drop, eqb, ltb, Option, Some, None, Result, Ok, Err}
use Rattle.amounts.specs.declared.Pair.{Pair}
use Rattle.stock_frame.specs.Codec.{legal}
use Rattle.stock_quotes.specs.Reveal.{revealed}
use Rattle.stock_quotes.specs.Quotes.{six_codec}
use Rattle.stock_quotes.specs.declared.Levels.{Levels}
use Rattle.stock_quotes.specs.declared.Quote.{Quote}
use Rattle.stock_quotes_numbers.specs.Numbers.{pair_at}
use Rattle.stock_board.specs.declared.Row.{Row}
use Rattle.stock_board.specs.declared.BoardError.{BoardError}
use Rattle.stock_board.specs.Rows.{side, free_row, last_trade, side_after, row_after}
use Rattle.stock_board.specs.Board.{row_count}
use Rattle.stock_board_flat.specs.Flat.{Flat, per_row, pair_of, trade_bit, half, shown_in, row_from, rows_of}
use Rattle.stock_board_flat.specs.Calls.{change_flat}
use Rattle.stock_board_flat.specs.declared.placing.Place.{Place}

-- the lists as one
abbrev pub flat : List ℕ → List ℕ → Flat
flat heads cells = record { heads = heads; cells = cells }

-- a head of a code, which stands in its low six bytes
abbrev pub codes : ℕ
codes = 281474976710656

abbrev pub of_code : ℕ → ℕ → Bool
of_code code head = eqb (head % codes) code

-- a head that begins with a code's first four bytes
abbrev pub near_code : ℕ → ℕ → Bool
near_code low head = eqb (head % 4294967296) low

-- how many heads have a code, and how many are near it; the place of the first that has it
abbrev pub count_of : ℕ → List ℕ → ℕ
count_of code [] = 0
count_of code (head ∷ heads) = cond (of_code code head) 1 0 + count_of code heads

abbrev pub near_count : ℕ → List ℕ → ℕ
near_count low [] = 0
near_count low (head ∷ heads) = cond (near_code low head) 1 0 + near_count low heads

abbrev pub first_of : ℕ → List ℕ → ℕ
first_of code [] = 0
first_of code (head ∷ heads) = cond (of_code code head) 0 (suc (first_of code heads))

-- the lists' lengths on a whole board
pub record Whole (f : Flat) : Type 0 where
  pub heads-long : length f.heads ≡ row_count
  pub cells-long : length f.cells ≡ row_count * per_row

-- a free row but for its last trade; of a row before a message that tells its sides nothing else counts
abbrev pub with_trade : Option Pair → Row
with_trade last = record {
  code = free_row.code;
  time = 0;
  limit = 0;
  status = 0;
  total = free_row.total;
  trade = last;
  bids = free_row.bids;
  asks = free_row.asks;
}

-- the last trade in a row's cells
abbrev pub trade_in : List ℕ → Option Pair
trade_in cells = last_trade None (pair_at cells 1) (shown_in cells)

-- a message's own sides are those of a new row behind it: it shows them, or there are none
pub record OwnSides (m : Quote) : Type 0 where
  pub bids-own : side_after free_row.bids m.levels (side (revealed m.reveal).bids m.bids) ≡ side (revealed m.reveal).bids m.bids
  pub asks-own : side_after free_row.asks m.levels (side (revealed m.reveal).asks m.asks) ≡ side (revealed m.reveal).asks m.asks

-- a message keeps the sides of the row that it goes to: it does not show its own, and the row is no new one
abbrev pub keeps_sides : Levels → Bool → Bool
keeps_sides Levels.Shown new = false
keeps_sides Levels.NotShown new = not new

-- a row's cells before its levels, and behind them, where the levels stay
abbrev pub first_cells : Option Pair → Quote → List ℕ
first_cells trade m = m.total.0 ∷ (pair_of trade).price.0 ∷ (pair_of trade).quantity.0 ∷ []

abbrev pub last_cells : Option Pair → ℕ → ℕ → List ℕ
last_cells trade shown time =
    (128 * trade_bit trade + (16 * (shown / 16 % 8 % 8) + 2 * (shown / 2 % 8 % 8))) ∷ time % half ∷ time / half ∷ []

-- the row at a place, and the one before a message, which is a free one where it is taken anew
abbrev pub row_in : Flat → ℕ → Row
row_in f at = row_from (get_or f.heads at 0) (take per_row (drop (per_row * at) f.cells))

abbrev pub row_before : Flat → Place → Row
row_before f p = cond p.new free_row (row_in f p.at)

-- the first row of a code, else the first free one
abbrev pub found_of : ℕ → List ℕ → Option Place
found_of code heads =
    cond (ltb (first_of code heads) row_count) (Some (record { at = first_of code heads; new = false }))
    (cond (ltb (first_of 0 heads) row_count) (Some (record { at = first_of 0 heads; new = true })) None)

-- what a message changes, by the place of its row: on a whole board it can be written, and leaves that row
pub record PlacedAt (f : Flat) (m : Quote) (p : Place) : Type 0 where
  pub there : p.at < row_count
  pub long : Whole f
  pub right : legal six_codec m ≡ true
  pub row_is : change_flat f m ≡ Ok (Some (record { at = p.at; row = row_after (row_before f p) m }))

-- by a place, by none, or by a refusal
abbrev pub Placed : Flat → Quote → Result (Option Place) BoardError → Type 0
Placed f m (Ok (Some p)) = PlacedAt f m p
Placed f m (Ok None) = change_flat f m ≡ Ok None
Placed f m (Err e) = change_flat f m ≡ Err e

-- what a question is answered, by the place of a row: on a whole board with that row
pub record ToldAt (f : Flat) (at : ℕ) (told : Result Row BoardError) : Type 0 where
  pub there : at < row_count
  pub long : Whole f
  pub row_is : told ≡ Ok (get_or (rows_of f) at free_row)

-- by a place, or by a refusal
abbrev pub Told : Flat → Result ℕ BoardError → Result Row BoardError → Type 0
Told f (Ok at) told = ToldAt f at told
Told f (Err e) told = told ≡ Err e
