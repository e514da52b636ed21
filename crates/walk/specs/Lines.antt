-- What the calls say of a walk over a line, whatever its reading says of the bytes from a place on.
use Rattle.std.specs.Prelude.{ℕ, Bool, cond, List, [], ◌∷◌, drop, eqb, None, Option, Some, Result}
use Rattle.answers.specs.Answers.{answer_number, answer_values}
use Rattle.answers.specs.declared.Answer.{Answer}
use Rattle.answers.specs.declared.Answer.TheVariants.{NoFrame}
use Rattle.walk.specs.Walk.{taken, stops, walk_from}
use Rattle.walk.specs.Answers.{answering, past_of}
use Rattle.walk.specs.Noise.{noise_length}
use Rattle.walk.specs.Told.{next_of}
use Rattle.walk.specs.declared.rows.Kept.{Kept}
use Rattle.walk.specs.declared.rows.Next.{Next}
use Rattle.walk.specs.declared.stretch.Stretch.{Stretch}
use Rattle.walk.specs.declared.rows.Row.{Row}
use Rattle.walk.specs.declared.rows.RowsError.{RowsError}

-- the move at a place of a line, or that the walk stops there
abbrev pub move_at : (List ℕ → Answer) → Bool → ℕ → List ℕ → Option Row
move_at says closed at line =
    let t = drop at line in
    cond (stops (answering says) closed t) None (Some (record { at = at; bytes = taken (answering says) (says t); answer = says t }))

-- the answer number of a step: what the reading says there; a walk stops at a 2, which no bytes answer too
abbrev pub step_number : Option Row → ℕ
step_number (Some r) = answer_number r.answer
step_number None = 2

-- and the values beside it: the place and the bytes of a move, and the answer's own
abbrev pub step_values : Option Row → List ℕ
step_values (Some r) = r.at ∷ r.bytes ∷ answer_values r.answer
step_values None = []

-- what a walk meets from a place on: the bytes before the next 27 at once, answered 1; at a 27 what the reading answers
abbrev pub stretch_of : (List ℕ → Answer) → Bool → List ℕ → Stretch
stretch_of says closed t =
    let n = noise_length t in
    cond (eqb n 0) (record { answer = says t; bytes = past_of closed (says t) }) (record { answer = NoFrame 1 None; bytes = n })

-- the next rows of a line from a place on, with what is kept from the pieces before
abbrev pub next_rows : (List ℕ → Answer) → Bool → Kept → ℕ → List ℕ → Result Next RowsError
next_rows says closed kept at line = next_of (walk_from (answering says) closed kept.at (drop at line)) kept at
