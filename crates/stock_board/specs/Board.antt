-- The board, a list of 256 rows: what each call answers, in the order of the rules, and the row that a message changes.
use Rattle.std.specs.Prelude.{ℕ, suc, ◌+◌, Bool, true, false, cond, not, ◌&&◌, List, [], ◌∷◌, length, get_or, set, replicate, eqb, ltb, Option, Some, None, Result, Ok, Err}
use Rattle.codes_times.specs.Times.{nines, code_right, zero_code}
use Rattle.stock_frame.specs.Codec.{legal}
use Rattle.stock_quotes.specs.Quotes.{six_codec}
use Rattle.stock_quotes.specs.declared.Quote.{Quote}
use Rattle.stock_board.specs.declared.Row.{Row}
use Rattle.stock_board.specs.declared.BoardError.{BoardError}
use Rattle.stock_board.specs.declared.BoardError.TheVariants.{NotWritable, WrongLength, NoRow, Full}
use Rattle.stock_board.specs.Rows.{free_code, free_row, row_after}

-- the rows of a board
abbrev pub row_count : ℕ
row_count = 256

-- the number of a refusal, and of any answer
abbrev pub refusal_number : BoardError → ℕ
refusal_number NotWritable = 14
refusal_number WrongLength = 50
refusal_number NoRow = 51
refusal_number Full = 52

abbrev pub board_number : {A : Type 0} → Result A BoardError → ℕ
board_number (Ok a) = 0
board_number (Err e) = refusal_number e

-- the values beside them: of a message and of clearing none, of how many rows are in use the rows
abbrev pub board_values : Result (Unit {0}) BoardError → List ℕ
board_values a = []

abbrev pub in_use_values : Result ℕ BoardError → List ℕ
in_use_values (Ok n) = n ∷ []
in_use_values (Err e) = []

-- a call that tells nothing beside its answer
abbrev pub Answer : Type 0
Answer = Result (Unit {0}) BoardError

-- the row that a message changes, by its place
pub record Change : Type 0 where
  pub at : ℕ
  pub row : Row

-- what a message changes: a row, or none, or it is refused
abbrev pub Changes : Type 0
Changes = Result (Option Change) BoardError

-- two codes are the same, byte for byte
abbrev pub same_code : List ℕ → List ℕ → Bool
same_code [] [] = true
same_code [] (b ∷ t) = false
same_code (a ∷ s) [] = false
same_code (a ∷ s) (b ∷ t) = eqb a b && same_code s t

-- a row of a stock, and a free one
abbrev pub has_code : List ℕ → Row → Bool
has_code code row = same_code code row.code

abbrev pub is_free : Row → Bool
is_free row = has_code free_code row

-- the place of the first row that passes a test; behind the last one where none does
abbrev pub first_place : (Row → Bool) → List Row → ℕ
first_place p [] = 0
first_place p (row ∷ rows) = cond (p row) 0 (suc (first_place p rows))

-- the first row with a code, and the first free one
abbrev pub place_of : List ℕ → List Row → ℕ
place_of code rows = first_place (has_code code) rows

abbrev pub free_place : List Row → ℕ
free_place rows = first_place is_free rows

-- the day's last frame
abbrev pub last_of_day : Quote → Bool
last_of_day m = zero_code m.code && eqb m.time (nines 6)

-- a message on n rows: 50; 14 if it could not be written; the day's last touches no row; the first row with its code, else the first
-- free one, emptied; 52 if there is neither
unfoldable pub change_by : ℕ → ℕ → Row → ℕ → Quote → Changes
change_by n own row free m =
    cond (not (eqb n row_count)) (Err WrongLength)
    (cond (not (legal six_codec m)) (Err NotWritable)
    (cond (last_of_day m) (Ok None)
    (cond (ltb own row_count) (Ok (Some (record { at = own; row = row_after row m })))
    (cond (ltb free row_count) (Ok (Some (record { at = free; row = row_after free_row m })))
    (Err Full)))))

unfoldable pub change_of : List Row → Quote → Changes
change_of rows m = change_by (length rows) (place_of m.code rows) (get_or rows (place_of m.code rows) free_row) (free_place rows) m

-- what a message is answered
abbrev pub answer_of : Changes → Answer
answer_of (Ok c) = Ok tt
answer_of (Err e) = Err e

-- the board behind a change: that row, and no other
abbrev pub changed : List Row → Changes → List Row
changed rows (Ok (Some c)) = set rows c.at c.row
changed rows (Ok None) = rows
changed rows (Err e) = rows

-- the clear board
abbrev pub clear_board : List Row
clear_board = replicate row_count free_row

-- clearing: 50, else every row is free
abbrev pub clear_answer : List Row → Answer
clear_answer rows = cond (eqb (length rows) row_count) (Ok tt) (Err WrongLength)

abbrev pub cleared : List Row → List Row
cleared rows = cond (eqb (length rows) row_count) clear_board rows

-- a code that a stock can have: bytes 32 to 126, and not `000000`
abbrev pub stock_code : List ℕ → Bool
stock_code code = code_right code && not (zero_code code)

-- the row at a place, or a refusal
abbrev pub asked : Bool → ℕ → List Row → Result Row BoardError
asked there at rows = cond there (Ok (get_or rows at free_row)) (Err NoRow)

abbrev pub asked_by : {A : Type 0} → List Row → Result A BoardError → Result A BoardError
asked_by rows a = cond (eqb (length rows) row_count) a (Err WrongLength)

-- asking for a code: 50; 51 if no stock can have it or no row has it
unfoldable pub asked_of : List Row → List ℕ → Result Row BoardError
asked_of rows code = asked_by rows (asked (stock_code code && ltb (place_of code rows) row_count) (place_of code rows) rows)

-- the row at a place, the first at 0: 50; 51 if there is no such place or its row is free
unfoldable pub row_at_of : List Row → ℕ → Result Row BoardError
row_at_of rows at = asked_by rows (asked (ltb at row_count && not (is_free (get_or rows at free_row))) at rows)

-- the rows that are not free
abbrev pub used_rows : List Row → ℕ
used_rows [] = 0
used_rows (row ∷ rows) = cond (is_free row) 0 1 + used_rows rows

-- how many rows are in use: 50, else their number
abbrev pub in_use_of : List Row → Result ℕ BoardError
in_use_of rows = asked_by rows (Ok (used_rows rows))
