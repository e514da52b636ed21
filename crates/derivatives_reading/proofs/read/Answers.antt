-- `read` meets its contract: the answer of a reading with its index value.
use mathlib.Core.Path.{ap}
use Rattle.derivatives_index.specs.declared.index.IndexReading.{IndexReading}
use Rattle.derivatives_reading.proofs.read.Goals as goal

pub returns : goal.returns
returns c = ap (λ (r : IndexReading). r.answer) c.read_index-r.ensures
