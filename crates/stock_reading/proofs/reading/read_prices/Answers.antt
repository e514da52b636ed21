-- `reading::read_prices` meets its contract.
use mathlib.Core.Path.{◌∙◌}
use Rattle.stock_prices.specs.Prices.{no_prices, twelve_codec, prices_reading}
use Rattle.stock_reading.proofs.HeaderLaws.{twelve-listed}
use Rattle.stock_reading.proofs.PlaceLaws.{KindFound, kind-found, kind-other}
use Rattle.stock_reading.proofs.reading.read_prices.Goals as goal

-- none is there
pub returns-in-Err : goal.returns-in-Err
returns-in-Err c =
    let a = c.args in
    let other = kind-other twelve_codec no_prices twelve-listed a.line.now a.at _ c.find_kind.ensures c.in-Err.answer c.in-Err.is in
    let none = c.empty.ensures ∙ other.1 in
    λ i. record { answer = other.0 i; prices = none i }

pub returns-in-Ok : goal.returns-in-Ok
unfolding prices_reading
returns-in-Ok c =
    let found : KindFound twelve_codec no_prices c.args.line.now c.args.at c.in-Ok.w = let a = c.args in kind-found twelve_codec no_prices twelve-listed a.line.now a.at _ c.find_kind.ensures c.in-Ok.w c.in-Ok.is in
    let hit = found in
    c.read.ensures ∙ (λ i. record { answer = hit.answers i; prices = hit.means i })
