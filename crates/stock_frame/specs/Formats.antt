-- A list of formats: whether a number is one of theirs, and the format that it names.
use Rattle.std.specs.Prelude.{ℕ, Bool, false, cond, ◌||◌, List, [], ◌∷◌, eqb}
use Rattle.stock_frame.specs.Format.{Format}

-- a format of the list has this number
abbrev pub is_one_of : List Format → ℕ → Bool
is_one_of [] n = false
is_one_of (F ∷ []) n = eqb n F.number
is_one_of (F ∷ G ∷ Fs) n = eqb n F.number || is_one_of (G ∷ Fs) n

-- the first that has it; where none has, another
abbrev pub first_of : List Format → Format → ℕ → Format
first_of [] other n = other
first_of (F ∷ Fs) other n = cond (eqb n F.number) F (first_of Fs other n)
