-- Rows of answers while a line comes in pieces: what one move more gives.
use Rattle.std.specs.Prelude.{ℕ, ◌+◌, Bool, true, false, cond, ◌&&◌, List, [], ◌∷◌, eqb, leb, None, Ok, Err, Result}
use Rattle.answers.specs.Answers.{answer_number}
use Rattle.answers.specs.declared.Answer.{Answer}
use Rattle.answers.specs.declared.Answer.TheVariants.{NoFrame}
use Rattle.walk.specs.Walk.{Move}
use Rattle.walk.specs.Tally.{is_skipped, largest}
use Rattle.walk.specs.declared.rows.Row.{Row}
use Rattle.walk.specs.declared.rows.Kept.{Kept}
use Rattle.walk.specs.declared.rows.Told.{Told}
use Rattle.walk.specs.declared.rows.Next.{Next}
use Rattle.walk.specs.declared.rows.Next.TheVariants.{OneRow, TwoRows, Stopped}
use Rattle.walk.specs.declared.rows.Told.TheVariants.{Nothing, One, Two}
use Rattle.walk.specs.declared.rows.RowsError.TheVariants.{Full}
use Rattle.walk.specs.declared.rows.RowsError.{RowsError}

-- a row as a move, and a move as a row
abbrev pub move_of : Row → Move Answer
move_of r = record { at = r.at; said = r.answer; bytes = r.bytes }

abbrev pub row_of : Move Answer → Row
row_of m = record { at = m.at; answer = m.said; bytes = m.bytes }

-- no skipped bytes: none of them stands for the reason that bytes are skipped for, 1, which no digit is the cause of
abbrev pub no_row : Row
no_row = record { at = 0; bytes = 0; answer = NoFrame 1 None }

-- at a line's beginning
abbrev pub fresh : Kept
fresh = record { at = 0; skipped = no_row }

-- skipped bytes and more of them: one row, with the first one's place and reason
abbrev pub joined_row : Row → Row → Row
joined_row s r = cond (eqb s.bytes 0) r (record { at = s.at; bytes = s.bytes + r.bytes; answer = s.answer })

-- a frame's row, behind the row of the skipped bytes before it, if there are any
abbrev pub framed_row : Row → Row → ℕ → Told
framed_row s r at =
    let kept : Kept = record { at = at; skipped = no_row } in
    cond (eqb s.bytes 0) (One r kept) (Two s r kept)

-- the numbers that a move makes larger can hold it
abbrev pub holds : Kept → ℕ → Bool
holds k n = leb (k.at + n) largest && leb (k.skipped.bytes + n) largest

-- what one move more gives
unfoldable pub told_of : Kept → Answer → ℕ → Result Told RowsError
told_of k a n =
    let r : Row = record { at = k.at; bytes = n; answer = a } in
    cond (holds k n)
    (cond (is_skipped (answer_number a))
    (Ok (Nothing (record { at = k.at + n; skipped = joined_row k.skipped r })))
    (Ok (framed_row k.skipped r (k.at + n))))
    (Err Full)

-- what a call hands on of some moves: the next rows with the place behind them, or where the walk stopped
abbrev pub on_told : Result Told RowsError → ℕ → (Kept → ℕ → Result Next RowsError) → Result Next RowsError
on_told (Ok (Nothing k)) at more = more k at
on_told (Ok (One r k)) at more = Ok (OneRow r k at)
on_told (Ok (Two s r k)) at more = Ok (TwoRows s r k at)
on_told (Err Full) at more = Err Full

abbrev pub next_of : List (Move Answer) → Kept → ℕ → Result Next RowsError
next_of [] k at = Ok (Stopped k at)
next_of (m ∷ ms) k at = on_told (told_of k m.said m.bytes) (at + m.bytes) (next_of ms)

-- among some moves up to the next row stands one that the numbers cannot hold
abbrev pub passes : List (Move Answer) → Kept → Bool
passes [] k = false
passes (m ∷ ms) k =
    let r : Row = record { at = k.at; bytes = m.bytes; answer = m.said } in
    cond (holds k m.bytes)
    (is_skipped (answer_number m.said) && passes ms (record { at = k.at + m.bytes; skipped = joined_row k.skipped r }))
    true

-- the answer number of each case: 16 where the place would pass the largest number, 0 where nothing is refused
abbrev pub told_number : Result Told RowsError → ℕ
told_number (Ok (Nothing k)) = 0
told_number (Ok (One r k)) = 0
told_number (Ok (Two s r k)) = 0
told_number (Err Full) = 16

abbrev pub next_number : Result Next RowsError → ℕ
next_number (Ok (OneRow r k at)) = 0
next_number (Ok (TwoRows s r k at)) = 0
next_number (Ok (Stopped k at)) = 0
next_number (Err Full) = 16
