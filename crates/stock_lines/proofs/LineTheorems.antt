-- What the laws of a walk say of the stock exchange's line.
use mathlib.Core.Path.{refl}
use Rattle.walk.specs.Promises.{LineSays}
use Rattle.walk.proofs.PromiseLaws as walk
use Rattle.stock_reading.specs.Reading.{answer_of}
use Rattle.stock_lines.specs.Lines.{longest, Saying, sayings}
use Rattle.stock_lines.proofs.LineLaws.{sound-answers, sound-sayings}

pub line-says : LineSays answer_of sayings (λ (s : Saying). s.answer) longest
line-says = walk.line-says answer_of sayings (λ (s : Saying). s.answer) longest sound-answers sound-sayings (λ t. refl) (λ s. refl) (λ s. refl)
