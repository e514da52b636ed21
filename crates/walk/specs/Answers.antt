-- The walk over readings that say an answer.
use Rattle.std.specs.Prelude.{ℕ, Bool, cond, List, eqb}
use Rattle.answers.specs.Answers.{answer_number, answer_length}
use Rattle.answers.specs.declared.Answer.{Answer}
use Rattle.walk.specs.Walk.{Reading, is_whole}

-- a reading that says answers
abbrev pub answering : (List ℕ → Answer) → Reading Answer
answering says = record { says = says; number = answer_number; size = answer_length }

-- the bytes that an answer moves past where bytes are left; 0 where the walk stops
abbrev pub past_of : Bool → Answer → ℕ
past_of closed a = let n = answer_number a in cond (eqb n 2) (cond closed 1 0) (cond (is_whole n) (answer_length a) 1)
