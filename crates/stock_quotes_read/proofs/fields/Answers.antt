-- `fields` meets its contract: the checks from the digits on, one after the other.
use mathlib.Core.Path.{◌≡◌, sym, ap, ◌∙◌}
use mathlib.Core.Bool.{true, false}
use native.Mathlib.Omega.{arith}
use lib.ListN.{take}
use lib.Seq.{length-take-le}
use Rattle.layout.specs.Cells.{good_cells}
use Rattle.stock_frame.specs.Format.{values_of}
use Rattle.stock_quotes.specs.Reveal.{pair_count}
use Rattle.stock_quotes.specs.Quotes.{six_cells, quote_timed, six_timed, six}
use Rattle.stock_quotes_read.specs.Steps.{without_quote, SidesOf, fixed_good, FixedOf}
use Rattle.stock_quotes_read.proofs.ReadLaws.{bad-fixed, pairs-say}
use Rattle.stock_quotes_read.proofs.BodyLaws.{digits-fail, time-fails, code-fails, timed-is, accepts}
use Rattle.stock_quotes_read.proofs.fields.Goals as goal

pub returns-in_default : goal.returns-in_default
returns-in_default c =
    c.no_quote.ensures ∙ ap without_quote c.bad_answer.ensures
    ∙ digits-fail c.args.seq c.args.body.now c.args.shown c.requires
    (bad-fixed c.args.body.now c.args.shown c.requires (c.in_default.ensures))

pub returns-in_default-sides_at : goal.returns-in_default-sides_at
returns-in_default-sides_at c =
    let fixed-ok : fixed_good c.args.body.now ≡ true = c.in-Some.ensures.0 in
    c.no_quote-in_default-sides_at.ensures ∙ ap without_quote c.bad_answer-in_default-sides_at.ensures
    ∙ digits-fail c.args.seq c.args.body.now c.args.shown c.requires
    (pairs-say c.args.body.now c.args.shown c.requires fixed-ok false (c.in_default-sides_at.ensures))

pub slice_bounds-timed-end : goal.slice_bounds-timed-end
slice_bounds-timed-end c = sym (length-take-le 6 c.args.body.now (omega (arith, c.requires.as_long)))

pub returns-then-not-timed : goal.returns-then-not-timed
returns-then-not-timed c =
    let fixed-ok : fixed_good c.args.body.now ≡ true = c.in-Some.ensures.0 in
    let digits-ok : good_cells (six_cells (pair_count c.args.shown)) c.args.body.now ≡ true = pairs-say c.args.body.now c.args.shown c.requires fixed-ok true (c.in-Some-sides_at.ensures.0) in
    let fixed_told : let p = c.in-Some.p in FixedOf c.args.body.now p.first p.last p.total = c.in-Some.ensures.1 in
    let time-says : c.timed.result ≡ six_timed (values_of six c.args.body.now) = c.timed.ensures ∙ ap (quote_timed (take 6 c.args.body.now)) fixed_told.time-is ∙ sym (timed-is c.args.seq c.args.body.now c.args.shown c.requires) in
    c.refused.ensures
    ∙ time-fails c.args.seq c.args.body.now c.args.shown c.requires digits-ok (sym time-says ∙ c.if-not-timed.true)

pub slice_bounds-code_right-end : goal.slice_bounds-code_right-end
slice_bounds-code_right-end c = sym (length-take-le 6 c.args.body.now (omega (arith, c.requires.as_long)))

pub returns-then-not-code_right : goal.returns-then-not-code_right
returns-then-not-code_right c =
    let fixed-ok : fixed_good c.args.body.now ≡ true = c.in-Some.ensures.0 in
    let digits-ok : good_cells (six_cells (pair_count c.args.shown)) c.args.body.now ≡ true = pairs-say c.args.body.now c.args.shown c.requires fixed-ok true (c.in-Some-sides_at.ensures.0) in
    let fixed_told : let p = c.in-Some.p in FixedOf c.args.body.now p.first p.last p.total = c.in-Some.ensures.1 in
    let time-says : c.timed.result ≡ six_timed (values_of six c.args.body.now) = c.timed.ensures ∙ ap (quote_timed (take 6 c.args.body.now)) fixed_told.time-is ∙ sym (timed-is c.args.seq c.args.body.now c.args.shown c.requires) in
    let time-ok : six_timed (values_of six c.args.body.now) ≡ true = sym time-says ∙ c.if-not-timed.false in
    c.refused-then-not-code_right.ensures
    ∙ code-fails c.args.seq c.args.body.now c.args.shown c.requires digits-ok time-ok
    (sym c.code_right.ensures ∙ c.if-not-code_right.true)

pub returns : goal.returns
returns c =
    let fixed_told : let p = c.in-Some.p in FixedOf c.args.body.now p.first p.last p.total = c.in-Some.ensures.1 in
    let fixed-ok : fixed_good c.args.body.now ≡ true = c.in-Some.ensures.0 in
    let digits-ok : good_cells (six_cells (pair_count c.args.shown)) c.args.body.now ≡ true = pairs-say c.args.body.now c.args.shown c.requires fixed-ok true (c.in-Some-sides_at.ensures.0) in
    let sides-told : let s = c.in-Some-sides_at.sides in SidesOf c.args.body.now c.args.shown s.trade s.bids s.asks = c.in-Some-sides_at.ensures.1 in
    let time-says : c.timed.result ≡ six_timed (values_of six c.args.body.now) = c.timed.ensures ∙ ap (quote_timed (take 6 c.args.body.now)) fixed_told.time-is ∙ sym (timed-is c.args.seq c.args.body.now c.args.shown c.requires) in
    let time-ok : six_timed (values_of six c.args.body.now) ≡ true = sym time-says ∙ c.if-not-timed.false in
    let p = c.in-Some.p in
    let s = c.in-Some-sides_at.sides in
    c.accepted.ensures
    ∙ accepts c.args.seq c.args.body.now c.args.shown c.requires p.first p.last p.total s.trade s.bids s.asks
    fixed_told sides-told digits-ok time-ok
    (sym c.code_right.ensures ∙ c.if-not-code_right.false)
