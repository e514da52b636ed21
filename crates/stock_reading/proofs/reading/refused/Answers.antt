-- `reading::refused` meets its contract: 8 for another version of a format, 7 where there is none.
use Rattle.std.specs.Prelude.{None}
use Prim.Native.Nat.{ℕ}
use mathlib.Core.Path.{ap, ◌∙◌}
use Rattle.answers.specs.declared.Answer.TheVariants.{Refused}
use Rattle.stock_notices.specs.Notices.{five}
use Rattle.stock_quotes.specs.Quotes.{six}
use Rattle.stock_prices.specs.Prices.{twelve}
use Rattle.stock_halts.specs.Halts.{nineteen}
use Rattle.stock_frame.proofs.FormatsLaws.{no_more, ◌nor◌}
use Rattle.stock_reading.proofs.HeaderLaws.{five-listed, six-listed, twelve-listed, nineteen-listed, kind-seven, kind-eight}
use Rattle.stock_reading.proofs.reading.refused.Goals as goal

-- a format of the list, by another version
pub returns-then-format : goal.returns-then-format
returns-then-format c = λ seq b e. ap (λ (n : ℕ). Refused 8 n None) e ∙ kind-eight c.args.kind seq b six six-listed c.if-format.true c.requires.0

pub returns-then-format-2 : goal.returns-then-format-2
returns-then-format-2 c = λ seq b e. ap (λ (n : ℕ). Refused 8 n None) e ∙ kind-eight c.args.kind seq b twelve twelve-listed c.if-format-2.true c.requires.1

pub returns-then-format-3 : goal.returns-then-format-3
returns-then-format-3 c = λ seq b e. ap (λ (n : ℕ). Refused 8 n None) e ∙ kind-eight c.args.kind seq b nineteen nineteen-listed c.if-format-3.true c.requires.2

pub returns-then-format-4 : goal.returns-then-format-4
returns-then-format-4 c = λ seq b e. ap (λ (n : ℕ). Refused 8 n None) e ∙ kind-eight c.args.kind seq b five five-listed c.if-format-4.true c.requires.3

-- no format
pub returns : goal.returns
returns c = λ seq b e. ap (λ (n : ℕ). Refused 7 n None) e ∙ kind-seven c.args.kind seq b (c.if-format-4.false nor c.if-format.false nor c.if-format-2.false nor c.if-format-3.false nor no_more)
