-- The memory that is lent for a row: its numbers are those of the quote that it is kept as.
use Rattle.std.specs.Prelude.{ℕ, List, Result, Ok, Err}
use Rattle.stock_quotes_numbers.specs.Numbers.{quote_bytes, quote_amounts}
use Rattle.stock_board.specs.declared.BoardError.{BoardError}
use Rattle.stock_board.specs.declared.Row.{Row}
use Rattle.stock_board_flat.specs.Flat.{kept_of}

-- what is new of the row where the answer is 0, else as it came
abbrev pub lent : {A : Type 0} → Result Row BoardError → (Row → A) → A → A
lent (Ok row) new old = new row
lent (Err e) new old = old

-- code, reveal, limit and status bytes
abbrev pub lent_bytes : Result Row BoardError → List ℕ → List ℕ
lent_bytes asked old = lent asked (λ row. quote_bytes (kept_of row)) old

-- the time
abbrev pub lent_time : Result Row BoardError → ℕ → ℕ
lent_time asked old = lent asked (λ row. (kept_of row).time) old

-- total, trade, bids and asks
abbrev pub lent_amounts : Result Row BoardError → List ℕ → List ℕ
lent_amounts asked old = lent asked (λ row. quote_amounts (kept_of row)) old
