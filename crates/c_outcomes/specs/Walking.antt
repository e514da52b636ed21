-- A move in one number, and a tally as four.
use Rattle.std.specs.Prelude.{ℕ, List, [], ◌∷◌, get_or, None, Option, Some}
use Rattle.answers.specs.declared.Answer.TheVariants.{NoFrame}
use Rattle.c_outcomes.specs.Outcomes.{read_outcome, past_outcome}
use Rattle.walk.specs.declared.tally.Tally.{Tally}
use Rattle.walk.specs.declared.rows.Row.{Row}

-- a move's outcome; where the walk stops it is 2, and no bytes
abbrev pub move_outcome : Option Row → ℕ
move_outcome (Some row) = past_outcome row.answer row.bytes
move_outcome None = read_outcome (NoFrame 2 None)

-- the tally of accepted, refused, skipped and waiting bytes, and its numbers
abbrev pub tally_from : List ℕ → Tally
tally_from ns = record { accepted = get_or ns 0 0; refused = get_or ns 1 0; skipped = get_or ns 2 0; waiting = get_or ns 3 0 }

abbrev pub tally_numbers : Tally → List ℕ
tally_numbers t = t.accepted ∷ t.refused ∷ t.skipped ∷ t.waiting ∷ []
