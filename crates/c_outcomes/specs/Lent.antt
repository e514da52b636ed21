-- A message's lent memory behind a reading.
use Rattle.std.specs.Prelude.{ℕ, Bool, false, cond, eqb}
use Rattle.answers.specs.declared.Answer.{Answer}
use Rattle.answers.specs.declared.Answer.TheVariants.{Accepted, NoFrame, Refused}

-- a frame of this format is accepted
abbrev pub is_of : ℕ → Answer → Bool
is_of format (Accepted f) = eqb f.format format
is_of format (NoFrame n p) = false
is_of format (Refused n l p) = false

-- what the message says if a frame of its format is accepted, else as it came
abbrev pub lent : {A : Type 0} → ℕ → Answer → A → A → A
lent format a new old = cond (is_of format a) new old
