-- `reading::read_halt` meets its contract.
use mathlib.Core.Path.{◌∙◌}
use Rattle.stock_halts.specs.Halts.{no_halt, nineteen_codec, halt_reading}
use Rattle.stock_reading.proofs.HeaderLaws.{nineteen-listed}
use Rattle.stock_reading.proofs.PlaceLaws.{KindFound, kind-found, kind-other}
use Rattle.stock_reading.proofs.reading.read_halt.Goals as goal

-- none is there
pub returns-in-Err : goal.returns-in-Err
returns-in-Err c =
    let a = c.args in
    let other = kind-other nineteen_codec no_halt nineteen-listed a.line.now a.at _ c.find_kind.ensures c.in-Err.answer c.in-Err.is in
    let none = c.empty.ensures ∙ other.1 in
    λ i. record { answer = other.0 i; halt = none i }

pub returns-in-Ok : goal.returns-in-Ok
unfolding halt_reading
returns-in-Ok c =
    let found : KindFound nineteen_codec no_halt c.args.line.now c.args.at c.in-Ok.w = let a = c.args in kind-found nineteen_codec no_halt nineteen-listed a.line.now a.at _ c.find_kind.ensures c.in-Ok.w c.in-Ok.is in
    let hit = found in
    c.read.ensures ∙ (λ i. record { answer = hit.answers i; halt = hit.means i })
