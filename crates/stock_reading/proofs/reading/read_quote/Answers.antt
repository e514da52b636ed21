-- `reading::read_quote` meets its contract.
use mathlib.Core.Path.{◌∙◌}
use Rattle.stock_quotes.specs.Quotes.{no_quote, six_codec, quote_reading}
use Rattle.stock_reading.proofs.HeaderLaws.{six-listed}
use Rattle.stock_reading.proofs.PlaceLaws.{KindFound, kind-found, kind-other}
use Rattle.stock_reading.proofs.reading.read_quote.Goals as goal

-- none is there
pub returns-in-Err : goal.returns-in-Err
returns-in-Err c =
    let a = c.args in
    let other = kind-other six_codec no_quote six-listed a.line.now a.at _ c.find_kind.ensures c.in-Err.answer c.in-Err.is in
    let none = c.empty.ensures ∙ other.1 in
    λ i. record { answer = other.0 i; quote = none i }

pub returns-in-Ok : goal.returns-in-Ok
unfolding quote_reading
returns-in-Ok c =
    let found : KindFound six_codec no_quote c.args.line.now c.args.at c.in-Ok.w = let a = c.args in kind-found six_codec no_quote six-listed a.line.now a.at _ c.find_kind.ensures c.in-Ok.w c.in-Ok.is in
    let hit = found in
    c.read.ensures ∙ (λ i. record { answer = hit.answers i; quote = hit.means i })
