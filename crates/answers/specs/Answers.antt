-- The answers by their answer numbers.
use Rattle.std.specs.Prelude.{ℕ, cond, List, [], ◌∷◌, eqb, leb, Err, None, Ok, Option, Result, Some}
use Rattle.answers.specs.declared.Frame.{Frame}
use Rattle.answers.specs.declared.Answer.{Answer}
use Rattle.answers.specs.declared.Answer.TheVariants.{Accepted, NoFrame, Refused}
use Rattle.answers.specs.declared.WriteError.{WriteError}
use Rattle.answers.specs.declared.WriteError.TheVariants.{Illegal, NoRoom}

-- the number of a reading's answer
abbrev pub answer_number : Answer → ℕ
answer_number (Accepted f) = 0
answer_number (NoFrame n p) = n
answer_number (Refused n l p) = n

-- the length that stands beside it: of the frame, accepted or refused; 0 where there is none
abbrev pub answer_length : Answer → ℕ
answer_length (Accepted f) = f.length
answer_length (NoFrame n p) = 0
answer_length (Refused n l p) = l

-- where the first bad digit is, in halves from the frame's first byte: of a refusal that a digit is the cause of
abbrev pub answer_place : Answer → Option ℕ
answer_place (Accepted f) = None
answer_place (NoFrame n p) = p
answer_place (Refused n l p) = p

-- a place as a value: none, or one
abbrev pub place_values : Option ℕ → List ℕ
place_values None = []
place_values (Some p) = p ∷ []

-- the values that the rules name beside the number: of an accepted frame its format, number and length; of a refused one its length; and
-- the place of a bad digit, if it tells one
abbrev pub answer_values : Answer → List ℕ
answer_values (Accepted f) = f.format ∷ f.seq ∷ f.length ∷ []
answer_values (NoFrame n p) = place_values p
answer_values (Refused n l p) = l ∷ place_values p

-- the number of a writing's answer
abbrev pub written_number : Result ℕ WriteError → ℕ
written_number (Ok l) = 0
written_number (Err Illegal) = 14
written_number (Err NoRoom) = 15

-- the values beside it: the length of a frame that was written
abbrev pub written_values : Result ℕ WriteError → List ℕ
written_values (Ok l) = l ∷ []
written_values (Err Illegal) = []
written_values (Err NoRoom) = []

-- the answer of a number: 0 with the frame, 1 to 5 without a length, the others with it; a refusal with the place of a bad digit, if there is one
abbrev pub named : ℕ → Frame → Option ℕ → Answer
named n f p = cond (eqb n 0) (Accepted f) (cond (leb n 5) (NoFrame n p) (Refused n f.length p))
