-- The board over a line: the quotes that its walk accepts, in the line's order, and nothing else.
use Rattle.std.specs.Prelude.{ℕ, ◌≡◌, Bool, true, List, [], ◌∷◌}
use Rattle.walk.specs.Walk.{Move, walk}
use Rattle.stock_frame.specs.Codec.{legal}
use Rattle.stock_quotes.specs.Quotes.{six_codec}
use Rattle.stock_quotes.specs.declared.Quote.{Quote}
use Rattle.stock_lines.specs.Lines.{Message, none, notice, quote, prices, halt, Saying, sayings}
use Rattle.stock_board.specs.Board.{change_of, changed, clear_board}
use Rattle.stock_board.specs.declared.Row.{Row}
use Rattle.stock_board_flat.specs.Flat.{rows_of}
use Rattle.laws_board.specs.History.{AllOf, board_of}
use Rattle.laws_board.specs.Kept.{Held, Bytes, after_flat}

-- the board behind a move: a quote is taken; noise, a refused frame and a frame of another format change no row
abbrev pub moved_by : List Row → Message → List Row
moved_by rows none = rows
moved_by rows (notice m) = rows
moved_by rows (quote m) = changed rows (change_of rows m)
moved_by rows (prices m) = rows
moved_by rows (halt m) = rows

-- the board behind all moves of a walk
abbrev pub board_over : List Row → List (Move Saying) → List Row
board_over rows [] = rows
board_over rows (v ∷ vs) = board_over (moved_by rows v.said.message) vs

-- the quotes among some moves, put in front of those before: the latest first
abbrev pub with_message : Message → List Quote → List Quote
with_message none ms = ms
with_message (notice m) ms = ms
with_message (quote m) ms = m ∷ ms
with_message (prices m) ms = ms
with_message (halt m) ms = ms

abbrev pub quotes_in : List (Move Saying) → List Quote → List Quote
quotes_in [] ms = ms
quotes_in (v ∷ vs) ms = quotes_in vs (with_message v.said.message ms)

-- the quotes of a line, open or closed
abbrev pub quotes_of : Bool → List ℕ → List Quote
quotes_of closed line = quotes_in (walk sayings closed line) []

pub record LineBoard (closed : Bool) (line : List ℕ) : Type 0 where
  -- the board over a line holds what each stock's own quotes say, among those that the walk accepts
  pub board : board_over clear_board (walk sayings closed line) ≡ board_of (quotes_of closed line)
  -- each of them could be written, so that none is answered 14
  pub legal-all : AllOf (λ m. legal six_codec m ≡ true) (quotes_of closed line)
  -- and of a line of bytes each is as memory holds it, so that the lists of numbers keep the same rows
  pub held_all : Bytes line → AllOf Held (quotes_of closed line)
  pub kept : Bytes line → rows_of (after_flat (quotes_of closed line)) ≡ board_over clear_board (walk sayings closed line)
