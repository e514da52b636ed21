-- A series of messages from a clear board, the latest first: which of them are taken, and what a stock's own messages say.
use Rattle.std.specs.Prelude.{ℕ, ◌-◌, ◌≡◌, Bool, true, false, cond, not, ◌&&◌, ◌||◌, List, [], ◌∷◌, ◌++◌, map, length, get_or, replicate, ltb, Result, Ok, Err}
use Rattle.stock_frame.specs.Codec.{legal}
use Rattle.stock_quotes.specs.Quotes.{six_codec}
use Rattle.stock_quotes.specs.declared.Quote.{Quote}
use Rattle.stock_board.specs.Rows.{free_row, row_after}
use Rattle.stock_board.specs.Board.{row_count, same_code, last_of_day, Answer, change_of, answer_of, changed, clear_board, stock_code, asked_of, row_at_of, in_use_of}
use Rattle.stock_board.specs.declared.Row.{Row}
use Rattle.stock_board.specs.declared.BoardError.{BoardError}
use Rattle.stock_board.specs.declared.BoardError.TheVariants.{NotWritable, NoRow, Full}

-- ---- said of the messages alone
abbrev pub Code : Type 0
Code = List ℕ

-- a message that counts: it could be written, and is not the day's last
unfoldable pub counts : Quote → Bool
counts m = legal six_codec m && not (last_of_day m)

-- something holds of every message of a list
abbrev pub AllOf : (Quote → Type 0) → List Quote → Type 0
AllOf P [] = Unit {0}
AllOf P (m ∷ ms) = P m × AllOf P ms

-- a code is one of some
abbrev pub among : Code → List Code → Bool
among code [] = false
among code (c ∷ cs) = same_code code c || among code cs

-- the stocks that are listed, in the order in which their codes first came: a new one, while there are fewer than 256
abbrev pub listed : List Quote → List Code
listed [] = []
listed (m ∷ ms) =
    let cs = listed ms in
    cond (counts m && (not (among m.code cs) && ltb (length cs) row_count)) (cs ++ (m.code ∷ [])) cs

-- a message is taken if it counts and its stock is listed: so not 14, not the day's last, not 52
abbrev pub taken : List Quote → Quote → Bool
taken ms m = counts m && among m.code (listed (m ∷ ms))

-- what a stock's own messages say: each that was taken, in call order, from nothing
abbrev pub said : Code → List Quote → Row
said code [] = free_row
said code (m ∷ ms) = cond (taken ms m && same_code code m.code) (row_after (said code ms) m) (said code ms)

-- a message's answer: 14 if it could not be written; 0 if it is the day's last or is taken; else 52
abbrev pub answer_by : List Quote → Quote → Answer
answer_by ms m = cond (not (legal six_codec m)) (Err NotWritable) (cond (last_of_day m || taken ms m) (Ok tt) (Err Full))

-- the rows of the listed stocks, and free ones
abbrev pub board_of : List Quote → List Row
board_of ms = map (λ code. said code ms) (listed ms) ++ replicate (row_count - length (listed ms)) free_row

-- ---- the calls
-- the board that a series of calls leaves, and what a message is answered after it
abbrev pub after : List Quote → List Row
after [] = clear_board
after (m ∷ ms) = changed (after ms) (change_of (after ms) m)

abbrev pub answer_to : List Quote → Quote → Answer
answer_to ms m = answer_of (change_of (after ms) m)

-- ---- what the calls tell after a series
abbrev pub found : Row → Result Row BoardError
found row = Ok row

abbrev pub missing : Result Row BoardError
missing = Err NoRow

-- the four calls, however the board is kept: a message's answer, the row of a code, how many rows are in use, the row at a place
pub record CallsTell (ms : List Quote) (answer : Quote → Answer) (ask : Code → Result Row BoardError) (used : Result ℕ BoardError) (row : ℕ → Result Row BoardError) : Type 0 where
  -- a message is answered by the messages alone
  pub answers : (m : Quote) → answer m ≡ answer_by ms m
  -- the row of a code is what its messages say; a code that was never taken has none
  pub asked : (code : Code) → stock_code code ≡ true → ask code ≡ cond (among code (listed ms)) (found (said code ms)) missing
  -- the rows in use are those of the listed stocks, in their order
  pub in_use : used ≡ Ok (length (listed ms))
  pub row_at : (at : ℕ) → row at ≡ cond (ltb at (length (listed ms))) (found (said (get_or (listed ms) at []) ms)) missing

-- a board of rows
pub record Tells (ms : List Quote) : Type 0 where
  -- the board is the rows of the listed stocks, each what its own messages say, and free rows
  pub board : after ms ≡ board_of ms
  pub calls : CallsTell ms (answer_to ms) (asked_of (after ms)) (in_use_of (after ms)) (row_at_of (after ms))
