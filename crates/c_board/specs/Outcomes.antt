-- What the board's calls answer, in one number.
use Rattle.std.specs.Prelude.{ℕ, ◌*◌, Result, Ok, Err}
use Rattle.stock_board.specs.declared.BoardError.{BoardError}
use Rattle.stock_board.specs.Board.{refusal_number, board_number}

-- of an answer alone: its number
abbrev pub answer_outcome : {A : Type 0} → Result A BoardError → ℕ
answer_outcome answer = board_number answer

-- of how many rows are in use, which stands above the answer
abbrev pub rows_outcome : Result ℕ BoardError → ℕ
rows_outcome (Ok n) = 256 * n
rows_outcome (Err e) = refusal_number e
