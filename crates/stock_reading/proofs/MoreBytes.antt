-- More bytes behind it take no answer and no message back: only "too few bytes yet" may change.
use Rattle.std.specs.Prelude.{None}
use Prim.Native.Nat.{ℕ}
use mathlib.Core.Path.{◌≡◌}
use mathlib.Core.List.{List, ◌++◌}
use lib.Dec.{eqb}
use Rattle.answers.specs.Answers.{answer_number}
use Rattle.answers.specs.declared.Answer.TheVariants.{NoFrame}
use Rattle.exchange.specs.Reading.{answer_by}
use Rattle.exchange.proofs.ReadingLaws.{waits-alone}
use Rattle.exchange.proofs.SoundLaws as common
use Rattle.stock_frame.specs.Codec.{Codec}
use Rattle.stock_frame.proofs.OutlineLaws.{header-law}
use Rattle.stock_frame.proofs.CodecLaws.{as_common}
use Rattle.stock_reading.specs.Reading.{stock, checks, answer_of, message_by}
use Rattle.stock_reading.proofs.Exchange.{behind}

module _ (t u : List ℕ) (settled : answer_of t ≡ NoFrame 2 None → ⊥) where
  is-settled : answer_number (answer_by stock t) ≡ 2 → ⊥
  unfolding answer_of checks
  is-settled e = settled (waits-alone stock t e)

  pub answer-more : answer_of (t ++ u) ≡ answer_of t
  unfolding answer_of checks
  answer-more = common.answer-more stock header-law behind t u is-settled

  pub message-more : {M : Type 0} (C : Codec M) (none : M) → message_by C none (t ++ u) ≡ message_by C none t
  unfolding message_by checks
  message-more C none = common.message-more stock header-law behind t u is-settled (as_common C) (λ n. eqb n C.form.number) none
