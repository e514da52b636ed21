-- What a reading may say of the bytes from a place on a line of the derivatives exchange.
use Rattle.std.specs.Prelude.{ℕ, Bool, ◌||◌, List, eqb}
use Rattle.answers.specs.declared.Answer.{Answer}
use Rattle.frame.specs.Header.{body}
use Rattle.exchange.specs.Reading.{Exchange, answer_by}
use Rattle.exchange.specs.Trips.{message_by}
use Rattle.derivatives_frame.specs.Outline.{header, market, kind, sent, sequence, version}
use Rattle.derivatives_index.specs.Index.{number_of, cells_of, index_checks, index_codec, no_index}
use Rattle.derivatives_index.specs.declared.index.Index.{Index}
use Rattle.derivatives_index.specs.declared.index.IndexReading.{IndexReading}

-- the exchange of 2015: behind its header the checks of index values, which are called by their kind's number
abbrev pub derivatives : Exchange header
derivatives = record {
  checks = λ f. index_checks (market f) (kind f) (sent f) (version f) (body header f);
  cells = λ f. cells_of (body header f);
  format = λ f. number_of (kind f);
  seq = sequence;
}

-- the numbers of I060 and I064
abbrev pub is_index : ℕ → Bool
is_index n = eqb n 60 || eqb n 64

-- the answer, and the index value of an accepted frame
unfoldable pub answer_of : List ℕ → Answer
answer_of t = answer_by derivatives t

unfoldable pub index_in : List ℕ → Index
index_in t = message_by derivatives index_codec is_index no_index t

abbrev pub index_at : List ℕ → IndexReading
index_at t = record { answer = answer_of t; index = index_in t }
