-- The reading of the stock exchange's frames is sound, with and without the messages, so the laws of a walk hold of its lines.
use Rattle.std.specs.Prelude.{None}
use Prim.Native.Nat.{ℕ}
use mathlib.Core.Path.{◌≡◌, refl, ap, ◌∙◌}
use mathlib.Core.Bool.{cond}
use mathlib.Core.List.{List, ◌∷◌, ◌++◌}
use lib.Dec.{eqb}
use Rattle.answers.specs.Answers.{answer_number}
use Rattle.answers.specs.declared.Answer.{Answer}
use Rattle.answers.specs.declared.Answer.TheVariants.{Accepted, NoFrame, Refused}
use Rattle.exchange.proofs.SoundLaws as common
use Rattle.walk.specs.Sound.{Sound}
use Rattle.stock_frame.proofs.OutlineLaws.{header-law}
use Rattle.stock_notices.specs.Notices.{five_codec, no_notice}
use Rattle.stock_quotes.specs.Quotes.{six_codec, no_quote}
use Rattle.stock_prices.specs.Prices.{twelve_codec, no_prices}
use Rattle.stock_halts.specs.Halts.{nineteen_codec, no_halt}
use Rattle.stock_reading.specs.Reading.{stock, checks, answer_of}
use Rattle.stock_reading.proofs.Exchange.{behind}
use Rattle.stock_reading.proofs.MoreBytes.{message-more}
use Rattle.stock_lines.specs.Lines.{answers, longest, message_in, quote, prices, halt, notice, sayings}

-- ---- by answers
pub sound-answers : Sound answers longest
unfolding answer_of checks
sound-answers = common.sound-reading stock header-law behind

-- where no 27 stands the reading answers 1
pub quiet : (b : ℕ) (bs : List ℕ) → (b ≡ 27 → ⊥) → answer_of (b ∷ bs) ≡ NoFrame 1 None
unfolding answer_of checks
quiet = common.quiet stock header-law behind

-- ---- with messages
-- bytes that follow take no message back
message-stays : (t u : List ℕ) → (answer_number (answer_of t) ≡ 2 → ⊥) → (a : Answer) → message_in a (t ++ u) ≡ message_in a t
message-stays t u h (Accepted f) =
    let settled : answer_of t ≡ NoFrame 2 None → ⊥ = λ q. h (ap answer_number q) in λ i.
    cond (eqb f.format 6) (quote (message-more t u settled six_codec no_quote i))
    (cond (eqb f.format 12) (prices (message-more t u settled twelve_codec no_prices i))
    (cond (eqb f.format 19) (halt (message-more t u settled nineteen_codec no_halt i))
    (notice (message-more t u settled five_codec no_notice i))))
message-stays t u h (NoFrame n p) = refl
message-stays t u h (Refused n l p) = refl

pub sound-sayings : Sound sayings longest
sound-sayings = record {
  nothing = sound-answers.nothing;
  some = sound-answers.some;
  inside = sound-answers.inside;
  settled = λ t u h.
      let same = sound-answers.settled t u h in
      let text = ap (λ (a : Answer). message_in a (t ++ u)) same ∙ message-stays t u h (answer_of t) in
      λ i. record { answer = same i; message = text i };
  short = sound-answers.short;
}
