-- What the steps of a reading hand on to each other: the checks behind the outline, by the header's six digits.
use Rattle.std.specs.Prelude.{ℕ, ◌+◌, ◌-◌, ◌*◌, ◌/◌, ◌%◌, ◌≤◌, ◌≡◌, Bool, false, List, ◌++◌, length, take, drop, eqb, Err, Ok, Result}
use Rattle.layout.specs.Checks.{first_fail}
use Rattle.answers.specs.Answers.{named}
use Rattle.stock_frame.specs.Format.{Format, body_checks, body_place, around}
use Rattle.answers.specs.declared.Answer.{Answer}
use Rattle.stock_frame.specs.Outline.{own, body, outline_of}
use Rattle.stock_notices.specs.Notices.{five}
use Rattle.stock_quotes.specs.Quotes.{six}
use Rattle.stock_prices.specs.Prices.{twelve}
use Rattle.stock_halts.specs.Halts.{nineteen}
use Rattle.stock_reading.specs.declared.reading.Whole.{Whole}
use Rattle.stock_reading.specs.Reading.{format_of, kind_checks, answer_of}
use Rattle.stock_frame.specs.declared.head.Head.{Head}

-- business, format and version as six digits
abbrev pub kind_of : Format → ℕ
kind_of F = (1 * 100 + F.number) * 100 + F.version

-- what the checks behind the outline answer
unfoldable pub after_outline : ℕ → ℕ → List ℕ → Answer
after_outline kind seq b =
    let format = kind / 100 % 100 in
    let n = first_fail (kind_checks (kind / 10000) format (kind % 100) ++ body_checks (format_of format) b) in
    named n (record { format = format; seq = seq; length = around + length b }) (body_place (format_of format) b n)

-- six digits that are no format's with its version
abbrev pub no_kind : ℕ → Type 0
no_kind kind = (kind ≡ kind_of six → ⊥) × (kind ≡ kind_of twelve → ⊥) × (kind ≡ kind_of nineteen → ⊥) × (kind ≡ kind_of five → ⊥)

-- an answer to such a header, whatever the body of a frame of n bytes holds
abbrev pub refuses_kind : Answer → ℕ → ℕ → Type 0
refuses_kind a kind n = (seq : ℕ) (b : List ℕ) → n ≡ around + length b → a ≡ after_outline kind seq b

-- a frame's outline is whole at a place: its header, and where its body stands on the line
pub record WholeAt (line : List ℕ) (at : ℕ) (w : Whole) : Type 0 where
  pub whole : outline_of (drop at line) ≡ Ok (record { kind = w.kind; seq = w.seq; length = w.length })
  pub in_order : w.start ≤ w.end
  pub in-line : w.end ≤ length line
  pub body-there : take (w.end - w.start) (drop w.start line) ≡ body (own (drop at line))

-- what finding a frame at a place says
abbrev pub found_says : Result Whole Answer → List ℕ → ℕ → Type 0
found_says (Ok w) line at = WholeAt line at w
found_says (Err a) line at = outline_of (drop at line) ≡ Err a

-- a whole outline whose header has these six digits
abbrev pub is_kind : ℕ → Result Head Answer → Bool
is_kind kind (Ok h) = eqb h.kind kind
is_kind kind (Err a) = false

-- what looking for a frame of a kind says
abbrev pub kind_says : Result Whole Answer → List ℕ → ℕ → ℕ → Type 0
kind_says (Ok w) line at kind = WholeAt line at w × (w.kind ≡ kind)
kind_says (Err a) line at kind = (a ≡ answer_of (drop at line)) × (is_kind kind (outline_of (drop at line)) ≡ false)
