-- `read` meets its contract: the checks up to the length that the reveal byte dictates, then the fields.
use mathlib.Core.Path.{◌≡◌, sym, ◌∙◌}
use mathlib.Core.Bool.{true}
use Rattle.stock_quotes.specs.Reveal.{levels_right}
use Rattle.stock_quotes_read.proofs.ReadLaws.{dictated}
use Rattle.stock_quotes_read.proofs.BodyLaws.{too_short, too_long, levels-fail, other_length}
use Rattle.stock_quotes_read.proofs.read.Goals as goal

pub returns-then-n-lt19 : goal.returns-then-n-lt19
returns-then-n-lt19 c =
    let a = c.args in
    c.refused.ensures ∙ too_short a.seq a.body.now c.if-n-lt19.true

pub returns-then-n-gt118 : goal.returns-then-n-gt118
returns-then-n-gt118 c =
    let a = c.args in
    c.refused-then-n-gt118.ensures ∙ too_long a.seq a.body.now c.if-n-gt118.true

pub returns-then-not-levels_right : goal.returns-then-not-levels_right
returns-then-not-levels_right c =
    c.refused-then-not-levels_right.ensures
    ∙ levels-fail c.args.seq c.args.body.now c.if-n-lt19.false c.if-n-gt118.false c.from_byte-shown.result c.from_byte-shown.ensures
    (sym c.levels_right.ensures ∙ c.if-not-levels_right.true)

pub returns-then-n-body_length : goal.returns-then-n-body_length
returns-then-n-body_length c =
    let levels-ok : levels_right c.from_byte-shown.result ≡ true = sym c.levels_right.ensures ∙ c.if-not-levels_right.false in
    c.refused-then-n-body_length.ensures
    ∙ other_length c.args.seq c.args.body.now c.if-n-lt19.false c.if-n-gt118.false c.from_byte-shown.result c.from_byte-shown.ensures levels-ok
    (λ q. c.if-n-body_length.true (q ∙ sym c.body_length.ensures))

pub fields-requires : goal.fields-requires
fields-requires c =
    let levels-ok : levels_right c.from_byte-shown.result ≡ true = sym c.levels_right.ensures ∙ c.if-not-levels_right.false in
    dictated c.args.body.now c.from_byte-shown.result c.from_byte-shown.ensures levels-ok (c.if-n-body_length.false ∙ c.body_length.ensures)
