-- The derivatives exchange's line: its reading, with and without the index values, and what the calls say of a walk over it.
use Rattle.std.specs.Prelude.{ℕ, Bool, List, Option}
use Rattle.answers.specs.Answers.{answer_number, answer_length}
use Rattle.answers.specs.declared.Answer.{Answer}
use Rattle.derivatives_frame.specs.Outline.{header}
use Rattle.derivatives_index.specs.declared.index.Index.{Index}
use Rattle.derivatives_reading.specs.Reading.{answer_of, index_in}
use Rattle.walk.specs.Walk.{Reading}
use Rattle.walk.specs.Answers.{answering}
use Rattle.walk.specs.Lines as lines
use Rattle.walk.specs.declared.rows.Row.{Row}

-- the reading of the frames, by their answers
abbrev pub answers : Reading Answer
answers = answering answer_of

-- the longest frame
abbrev pub longest : ℕ
longest = header.most

-- an answer with its index value
pub record Saying : Type 0 where
  pub answer : Answer
  pub index : Index

-- the reading of the frames, with their index values
abbrev pub sayings : Reading Saying
sayings = record {
  says = λ t. record { answer = answer_of t; index = index_in t };
  number = λ s. answer_number s.answer;
  size = λ s. answer_length s.answer;
}

-- the move at a place of a line, or that the walk stops there
abbrev pub move_at : Bool → ℕ → List ℕ → Option Row
move_at closed at line = lines.move_at answer_of closed at line
