-- `reading::answer_of` meets its contract: the header's six digits choose the format.
use mathlib.Core.Path.{refl, ap, ◌∙◌}
use Rattle.stock_notices.specs.Notices.{five, notice_reading}
use Rattle.stock_notices.specs.declared.NoticeReading.{NoticeReading}
use Rattle.stock_quotes.specs.Quotes.{six, quote_reading}
use Rattle.stock_quotes.specs.declared.QuoteReading.{QuoteReading}
use Rattle.stock_prices.specs.Prices.{twelve, prices_reading}
use Rattle.stock_prices.specs.declared.PricesReading.{PricesReading}
use Rattle.stock_halts.specs.Halts.{nineteen, halt_reading}
use Rattle.stock_halts.specs.declared.HaltReading.{HaltReading}
use Rattle.stock_reading.proofs.HeaderLaws.{five-listed, six-listed, twelve-listed, nineteen-listed, kind-hit}
use Rattle.stock_reading.proofs.reading.answer_of.Goals as goal

-- a format's body
pub returns-then-kind-eq-SIX : goal.returns-then-kind-eq-SIX
unfolding quote_reading
returns-then-kind-eq-SIX c =
    let a = c.args in
    ap (λ (r : QuoteReading). r.answer) c.read.ensures ∙ kind-hit a.kind a.seq a.body.now six six-listed c.if-kind-eq-SIX.true

pub returns-then-kind-eq-TWELVE : goal.returns-then-kind-eq-TWELVE
unfolding prices_reading
returns-then-kind-eq-TWELVE c =
    let a = c.args in
    ap (λ (r : PricesReading). r.answer) c.read-then-kind-eq-TWELVE.ensures ∙ kind-hit a.kind a.seq a.body.now twelve twelve-listed c.if-kind-eq-TWELVE.true

pub returns-then-kind-eq-NINETEEN : goal.returns-then-kind-eq-NINETEEN
unfolding halt_reading
returns-then-kind-eq-NINETEEN c =
    let a = c.args in
    ap (λ (r : HaltReading). r.answer) c.read-then-kind-eq-NINETEEN.ensures ∙ kind-hit a.kind a.seq a.body.now nineteen nineteen-listed c.if-kind-eq-NINETEEN.true

pub returns-then-kind-eq-FIVE : goal.returns-then-kind-eq-FIVE
unfolding notice_reading
returns-then-kind-eq-FIVE c =
    let a = c.args in
    ap (λ (r : NoticeReading). r.answer) c.read-then-kind-eq-FIVE.ensures ∙ kind-hit a.kind a.seq a.body.now five five-listed c.if-kind-eq-FIVE.true

-- none of them
pub refused-requires : goal.refused-requires
refused-requires c = (c.if-kind-eq-SIX.false, c.if-kind-eq-TWELVE.false, c.if-kind-eq-NINETEEN.false, c.if-kind-eq-FIVE.false)

pub returns : goal.returns
returns c =
    let a = c.args in
    c.refused.ensures a.seq a.body.now refl
