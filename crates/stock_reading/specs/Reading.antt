-- What a reading may say of the bytes from a place: the checks in their order, and the message of an accepted frame.
use Rattle.std.specs.Prelude.{ℕ, Bool, cond, ◌&&◌, List, [], ◌∷◌, ◌++◌, eqb, Option}
use Rattle.layout.specs.Checks.{Check, must, first_fail}
use Rattle.answers.specs.Answers.{named}
use Rattle.exchange.specs.Reading as common
use Rattle.exchange.specs.Reading.{Exchange, checks_of, frame_at}
use Rattle.stock_frame.specs.Outline.{header, own, body, business, format, version, sequence}
use Rattle.stock_frame.specs.Format.{Format, values_of, body_checks}
use Rattle.stock_frame.specs.Formats.{is_one_of, first_of}
use Rattle.stock_frame.specs.Codec.{Codec}
use Rattle.answers.specs.declared.Answer.{Answer}
use Rattle.stock_notices.specs.Notices.{five, five_codec, no_notice}
use Rattle.stock_notices.specs.declared.NoticeReading.{NoticeReading}
use Rattle.stock_quotes.specs.Quotes.{six, six_codec, no_quote}
use Rattle.stock_quotes.specs.declared.QuoteReading.{QuoteReading}
use Rattle.stock_prices.specs.Prices.{twelve, twelve_codec, no_prices}
use Rattle.stock_prices.specs.declared.PricesReading.{PricesReading}
use Rattle.stock_halts.specs.Halts.{nineteen, nineteen_codec, no_halt}
use Rattle.stock_halts.specs.declared.HaltReading.{HaltReading}

-- the stock exchange's formats
abbrev pub formats : List Format
formats = five ∷ six ∷ twelve ∷ nineteen ∷ []

-- the number of one of them
abbrev pub is_format : ℕ → Bool
is_format n = is_one_of formats n

-- the format of a number; check 7 keeps every number away that is none of theirs
unfoldable pub format_of : ℕ → Format
format_of n = first_of formats five n

-- business 01 and one of the formats, then its version
abbrev pub kind_checks : ℕ → ℕ → ℕ → List Check
kind_checks business format version =
    must 7 (eqb business 1 && is_format format)
    ∷ must 8 (eqb version (format_of format).version)
    ∷ []

-- the stock exchange: behind its header checks 7 and 8, and checks 9 to 13 of the format
abbrev pub stock : Exchange header
stock = record {
  checks = λ f. kind_checks (business f) (format f) (version f) ++ body_checks (format_of (format f)) (body f);
  cells = λ f. (format_of (format f)).cells (body f);
  format = format;
  seq = sequence;
}

-- the rules' table: checks 2 to 6 of the outline, and then those
unfoldable pub checks : List ℕ → List Check
checks t = checks_of stock t

-- where the bad digit is that an answer speaks of, in halves from the frame's first byte: beside 11 in the packed fields of the body,
-- beside 3 and 6 in the outline; beside no other
abbrev pub place_of : ℕ → List ℕ → Option ℕ
place_of n t = common.place_of stock n t

-- the answer: the first check that fails, with the place of the bad digit that it speaks of; or acceptance
unfoldable pub answer_of : List ℕ → Answer
answer_of t = let n = first_fail (checks t) in named n (frame_at stock t) (place_of n t)

-- the message of an accepted frame of a codec's format; of anything else, none
unfoldable pub message_by : {M : Type 0} → Codec M → M → List ℕ → M
message_by C none t =
    let f = own t in
    cond (eqb (first_fail (checks t)) 0 && eqb (format f) C.form.number) (C.message (sequence f) (values_of C.form (body f))) none

-- a reading of any frame, with the message if it is of the format that is asked for
abbrev pub notice_at : List ℕ → NoticeReading
notice_at t = record { answer = answer_of t; notice = message_by five_codec no_notice t }

abbrev pub quote_at : List ℕ → QuoteReading
quote_at t = record { answer = answer_of t; quote = message_by six_codec no_quote t }

abbrev pub prices_at : List ℕ → PricesReading
prices_at t = record { answer = answer_of t; prices = message_by twelve_codec no_prices t }

abbrev pub halt_at : List ℕ → HaltReading
halt_at t = record { answer = answer_of t; halt = message_by nineteen_codec no_halt t }
