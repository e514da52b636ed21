-- `reading::read_notice` meets its contract.
use mathlib.Core.Path.{◌∙◌}
use Rattle.stock_notices.specs.Notices.{no_notice, five_codec, notice_reading}
use Rattle.stock_reading.proofs.HeaderLaws.{five-listed}
use Rattle.stock_reading.proofs.PlaceLaws.{KindFound, kind-found, kind-other}
use Rattle.stock_reading.proofs.reading.read_notice.Goals as goal

-- none is there
pub returns-in-Err : goal.returns-in-Err
returns-in-Err c =
    let a = c.args in
    let other = kind-other five_codec no_notice five-listed a.line.now a.at _ c.find_kind.ensures c.in-Err.answer c.in-Err.is in
    let none = c.empty.ensures ∙ other.1 in
    λ i. record { answer = other.0 i; notice = none i }

pub returns-in-Ok : goal.returns-in-Ok
unfolding notice_reading
returns-in-Ok c =
    let found : KindFound five_codec no_notice c.args.line.now c.args.at c.in-Ok.w = let a = c.args in kind-found five_codec no_notice five-listed a.line.now a.at _ c.find_kind.ensures c.in-Ok.w c.in-Ok.is in
    let hit = found in
    c.read.ensures ∙ (λ i. record { answer = hit.answers i; notice = hit.means i })
