-- What each call says of a flat board: 50 where a list has another length, else what is said of its rows.
use Rattle.std.specs.Prelude.{ℕ, ◌*◌, cond, List, replicate, Some, None, Result, Ok, Err}
use Rattle.stock_quotes.specs.declared.Quote.{Quote}
use Rattle.stock_board.specs.declared.BoardError.{BoardError}
use Rattle.stock_board.specs.declared.BoardError.TheVariants.{WrongLength}
use Rattle.stock_board.specs.declared.Row.{Row}
use Rattle.stock_board.specs.Board.{row_count, Answer, Changes, change_of, answer_of, asked_of, row_at_of, in_use_of}
use Rattle.stock_board_flat.specs.Flat.{Flat, per_row, whole, rows_of, stored_at}

-- what is said of the rows, on a whole board alone
abbrev pub on_whole : {A : Type 0} → Flat → Result A BoardError → Result A BoardError
on_whole f a = cond (whole f) a (Err WrongLength)

-- a message: what it changes, its answer, and the board afterwards
unfoldable pub change_flat : Flat → Quote → Changes
change_flat f m = on_whole f (change_of (rows_of f) m)

abbrev pub taken_answer : Flat → Quote → Answer
taken_answer f m = answer_of (change_flat f m)

abbrev pub stored : Flat → Changes → Flat
stored f (Ok (Some c)) = stored_at f c.at c.row
stored f (Ok None) = f
stored f (Err e) = f

unfoldable pub taken_flat : Flat → Quote → Flat
taken_flat f m = stored f (change_flat f m)

-- the clear board, and clearing
unfoldable pub clear_flat : Flat
clear_flat = record { heads = replicate row_count 0; cells = replicate (row_count * per_row) 0 }

abbrev pub cleared_answer : Flat → Answer
cleared_answer f = on_whole f (Ok tt)

abbrev pub cleared_flat : Flat → Flat
cleared_flat f = cond (whole f) clear_flat f

-- the row of a code, the row at a place, how many rows are in use
unfoldable pub asked_flat : Flat → List ℕ → Result Row BoardError
asked_flat f code = on_whole f (asked_of (rows_of f) code)

unfoldable pub row_at_flat : Flat → ℕ → Result Row BoardError
row_at_flat f at = on_whole f (row_at_of (rows_of f) at)

unfoldable pub in_use_flat : Flat → Result ℕ BoardError
in_use_flat f = on_whole f (in_use_of (rows_of f))
