-- A line of an exchange: what its own reading answers, and what the calls say of a walk over it.
use Rattle.std.specs.Prelude.{ℕ, Bool, List, Option, Result}
use Rattle.answers.specs.declared.Answer.{Answer}
use Rattle.stock_reading.specs.Reading as stock
use Rattle.derivatives_reading.specs.Reading as derivatives
use Rattle.stock_lines.specs.Lines as stock-line
use Rattle.derivatives_lines.specs.Lines as derivatives-line
use Rattle.walk.specs.Walk.{Reading}
use Rattle.walk.specs.Answers.{answering}
use Rattle.walk.specs.Lines as walk
use Rattle.walk.specs.declared.rows.Kept.{Kept}
use Rattle.walk.specs.declared.rows.Next.{Next}
use Rattle.walk.specs.declared.stretch.Stretch.{Stretch}
use Rattle.lines.specs.declared.exchanges.Exchange.{Exchange}
use Rattle.lines.specs.declared.exchanges.Exchange.TheVariants.{Stock, Derivatives}
use Rattle.walk.specs.declared.rows.Row.{Row}
use Rattle.walk.specs.declared.rows.RowsError.{RowsError}

-- the answer by the exchange's own reading
abbrev pub answer_on : Exchange → List ℕ → Answer
answer_on Stock = stock.answer_of
answer_on Derivatives = derivatives.answer_of

-- the reading of its frames, by their answers
abbrev pub answers_on : Exchange → Reading Answer
answers_on e = answering (answer_on e)

-- the longest frame of its line
abbrev pub longest_on : Exchange → ℕ
longest_on Stock = stock-line.longest
longest_on Derivatives = derivatives-line.longest

-- the move at a place of its line, or that the walk stops there
abbrev pub move_on : Exchange → Bool → ℕ → List ℕ → Option Row
move_on e closed at line = walk.move_at (answer_on e) closed at line

-- what a walk over it meets from a place on: the bytes before the next 27 at once, answered 1; at a 27 what the reading answers
abbrev pub stretch_on : Exchange → Bool → List ℕ → Stretch
stretch_on e closed t = walk.stretch_of (answer_on e) closed t

-- its next rows from a place on, with what is kept from the pieces before
abbrev pub next_rows_on : Exchange → Bool → Kept → ℕ → List ℕ → Result Next RowsError
next_rows_on e closed kept at line = walk.next_rows (answer_on e) closed kept at line
