-- `pairs_right` meets its contract: one test after the other.
use mathlib.Core.Path.{◌≡◌, sym, ◌∙◌}
use mathlib.Core.Bool.{true}
use lib.Dec.{ltb}
use Rattle.stock_quotes.specs.Reveal.{levels_right}
use Rattle.stock_quotes_write.specs.Steps.{pair_right}
use Rattle.stock_quotes_write.proofs.LegalLaws.{pairs-wrong, asks-last}
use Rattle.stock_quotes_write.proofs.pairs_right.Goals as goal

pub returns-then-not-levels_right : goal.returns-then-not-levels_right
returns-then-not-levels_right c =
    let a = c.args in
    pairs-wrong a.shown a.m 0 (sym c.levels_right.ensures ∙ c.if-not-levels_right.true)

pub returns-then-not-pair_right : goal.returns-then-not-pair_right
returns-then-not-pair_right c =
    let a = c.args in
    pairs-wrong a.shown a.m 1 (sym c.pair_right.ensures ∙ c.if-not-pair_right.true)

pub returns-then-not-side_right : goal.returns-then-not-side_right
returns-then-not-side_right c =
    let a = c.args in
    pairs-wrong a.shown a.m 2 (sym c.side_right.ensures ∙ c.if-not-side_right.true)

pub returns : goal.returns
returns c =
    let levels-ok : levels_right c.args.shown ≡ true = sym c.levels_right.ensures ∙ c.if-not-levels_right.false in
    let trade-ok : let a = c.args in pair_right (ltb 0 a.shown.trades) a.m.trade ≡ true = sym c.pair_right.ensures ∙ c.if-not-pair_right.false in
    let a = c.args in
    c.side_right-2.ensures
    ∙ asks-last a.shown a.m levels-ok trade-ok (sym c.side_right.ensures ∙ c.if-not-side_right.false)
