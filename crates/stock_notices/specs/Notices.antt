-- Format five, version 01, 14 to 74 bytes: a category, then 0 to 60 bytes of text, handed on unjudged.
use Rattle.std.specs.Prelude.{ℕ, ◌-◌, ◌≡◌, Bool, true, cond, ◌||◌, List, ◌∷◌, ◌++◌, length, get_or, take, drop, replicate, eqb}
use Rattle.layout.specs.Cells.{Cell, raw, digits}
use Rattle.layout.specs.Checks.{first_fail}
use Rattle.stock_frame.specs.Format.{Format, values_of, body_checks, body_answer}
use Rattle.codes_times.specs.Times.{every}
use Rattle.stock_frame.specs.Codec.{Codec}
use Rattle.layout.specs.Bytes.{bytes_over}
use Rattle.stock_notices.specs.declared.Notice.{Notice}
use Rattle.stock_notices.specs.declared.NoticeReading.{NoticeReading}

-- the category and n bytes of text
abbrev pub five_cells : ℕ → List Cell
five_cells n = digits 2 ∷ replicate n raw

-- check 13: the category is 00, 09, 90 or 99
abbrev pub five_ruled : List ℕ → Bool
five_ruled vs = let c = get_or vs 0 0 in eqb c 0 || (eqb c 9 || (eqb c 90 || eqb c 99))

abbrev pub five : Format
five = record {
  number = 5;
  version = 1;
  least = 14;
  most = 74;
  cells = λ b. five_cells (length b - 1);
  levels = λ vs. true;
  timed = λ vs. true;
  ruled = five_ruled;
}

-- the room for text in a message
abbrev pub room : ℕ
room = 60

-- the message: the text is what follows the category, and zeros up to its room
abbrev pub notice_of : ℕ → List ℕ → Notice
notice_of seq vs = record {
  seq = seq;
  category = get_or vs 0 0;
  length = length (drop 1 vs);
  text = drop 1 vs ++ replicate (room - length (drop 1 vs)) 0;
}

-- the numbers of a message, and that the text's unused places are zero
abbrev pub notice_values : Notice → List ℕ
notice_values m = m.category ∷ take m.length m.text

abbrev pub tidy_notice : Notice → Bool
tidy_notice m = every (eqb 0) (drop m.length m.text)

abbrev pub five_codec : Codec Notice
five_codec = record {
  form = five;
  seq = λ m. m.seq;
  cells = λ m. five_cells m.length;
  values = notice_values;
  tidy = tidy_notice;
  message = notice_of;
}

-- the notice of a number, a category and a text: zeros up to its room behind the text; a text beyond the room makes no legal notice
abbrev pub notice_from : ℕ → ℕ → List ℕ → Notice
notice_from seq category text = record {
  seq = seq;
  category = category;
  length = length text;
  text = bytes_over text (replicate room 0) 0;
}

-- a message's arrays have their lengths
pub record ShapedNotice (m : Notice) : Type 0 where
  pub text-long : length m.text ≡ room

-- the empty notice, which stands beside a refusal
abbrev pub no_notice : Notice
no_notice = record { seq = 0; category = 0; length = 0; text = replicate room 0 }

unfoldable pub notice_reading : ℕ → List ℕ → NoticeReading
notice_reading seq b = record {
  answer = body_answer five seq b;
  notice = cond (eqb (first_fail (body_checks five b)) 0) (notice_of seq (values_of five b)) no_notice;
}
