-- What the laws of a line's turns are taken at, for a line of either exchange.
use Rattle.std.specs.Prelude.{None}
use Prim.Native.Nat.{ℕ}
use mathlib.Core.Path.{◌≡◌}
use mathlib.Core.List.{List, ◌∷◌}
use Rattle.answers.specs.declared.Answer.TheVariants.{NoFrame}
use Rattle.walk.specs.Sound.{Sound, LineReading}
use Rattle.stock_lines.proofs.LineLaws as stock
use Rattle.derivatives_lines.proofs.LineLaws as derivatives
use Rattle.lines.specs.Lines.{answer_on, answers_on, longest_on}
use Rattle.lines.specs.declared.exchanges.Exchange.{Exchange}
use Rattle.lines.specs.declared.exchanges.Exchange.TheVariants.{Stock, Derivatives}

pub sound-on : (e : Exchange) → Sound (answers_on e) (longest_on e)
sound-on Stock = stock.sound-answers
sound-on Derivatives = derivatives.sound-answers

pub quiet-on : (e : Exchange) (b : ℕ) (bs : List ℕ) → (b ≡ 27 → ⊥) → answer_on e (b ∷ bs) ≡ NoFrame 1 None
quiet-on Stock = stock.quiet
quiet-on Derivatives = derivatives.quiet

abbrev pub line_on : Exchange → LineReading
line_on e = record { says = answer_on e; longest = longest_on e; sound = sound-on e; quiet = quiet-on e }
