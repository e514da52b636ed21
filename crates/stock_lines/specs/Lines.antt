-- The stock exchange's line: its reading, with and without the messages, and what the calls say of a walk over it.
use Rattle.std.specs.Prelude.{ℕ, ◌+◌, Bool, cond, List, [], ◌∷◌, drop, eqb, Err, Ok, Option, Result}
use Rattle.answers.specs.Answers.{answer_number, answer_length}
use Rattle.answers.specs.declared.Answer.{Answer}
use Rattle.answers.specs.declared.Answer.TheVariants.{Accepted, NoFrame, Refused}
use Rattle.stock_notices.specs.Notices.{five_codec, no_notice}
use Rattle.stock_notices.specs.declared.Notice.{Notice}
use Rattle.stock_quotes.specs.Quotes.{six_codec, no_quote}
use Rattle.stock_quotes.specs.declared.Quote.{Quote}
use Rattle.stock_prices.specs.Prices.{twelve_codec, no_prices}
use Rattle.stock_prices.specs.declared.Prices.{Prices}
use Rattle.stock_halts.specs.Halts.{nineteen_codec, no_halt}
use Rattle.stock_halts.specs.declared.Halt.{Halt}
use Rattle.stock_frame.specs.Outline.{outline_of}
use Rattle.stock_reading.specs.Reading.{answer_of, message_by}
use Rattle.walk.specs.Walk.{Reading, Move, walk_from}
use Rattle.walk.specs.Answers.{answering}
use Rattle.walk.specs.Lines as lines
use Rattle.stock_lines.specs.declared.frames.Ahead.{Ahead}
use Rattle.stock_lines.specs.declared.frames.Ahead.TheVariants.{Frame, Nothing}
use Rattle.stock_frame.specs.declared.head.Head.{Head}
use Rattle.walk.specs.declared.rows.Row.{Row}

-- the reading of the frames, by their answers
abbrev pub answers : Reading Answer
answers = answering answer_of

-- the longest frame
abbrev pub longest : ℕ
longest = 1024

-- the message of an accepted frame, of one of the four kinds
pub data Message : Type 0 where
  none : Message
  notice : Notice → Message
  quote : Quote → Message
  prices : Prices → Message
  halt : Halt → Message

abbrev pub message_in : Answer → List ℕ → Message
message_in (Accepted f) t =
    cond (eqb f.format 6) (quote (message_by six_codec no_quote t))
    (cond (eqb f.format 12) (prices (message_by twelve_codec no_prices t))
    (cond (eqb f.format 19) (halt (message_by nineteen_codec no_halt t))
    (notice (message_by five_codec no_notice t))))
message_in (NoFrame n p) t = none
message_in (Refused n l p) t = none

-- an answer with its message
pub record Saying : Type 0 where
  pub answer : Answer
  pub message : Message

-- the reading of the frames, with their messages
abbrev pub sayings : Reading Saying
sayings = record {
  says = λ t. record { answer = answer_of t; message = message_in (answer_of t) t };
  number = λ s. answer_number s.answer;
  size = λ s. answer_length s.answer;
}

-- the move at a place of a line, or that the walk stops there
abbrev pub move_at : Bool → ℕ → List ℕ → Option Row
move_at closed at line = lines.move_at answer_of closed at line

-- a frame whose outline is whole, or what is met further on
abbrev pub on_outline : Result Head Answer → ℕ → Ahead → Ahead
on_outline (Ok h) at further = Frame h at
on_outline (Err a) at further = further

-- the first such frame among some moves from a place on
abbrev pub ahead_of : List ℕ → List (Move Answer) → ℕ → Ahead
ahead_of line [] at = Nothing at
ahead_of line (m ∷ ms) at = on_outline (outline_of (drop at line)) at (ahead_of line ms (at + m.bytes))

-- the next frame of a line from a place on whose outline is whole, by its header and place
abbrev pub next_frame : Bool → ℕ → List ℕ → Ahead
next_frame closed at line = ahead_of line (walk_from answers closed at (drop at line)) at
