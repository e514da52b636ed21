-- `write` meets its contract: a law for each answer.
use mathlib.Core.Path.{◌≡◌, sym, ◌∙◌}
use lib.ListN.{length}
use Rattle.stock_frame.specs.Codec.{legal, frame_of}
use Rattle.stock_halts.specs.Halts.{nineteen_codec, ShapedHalt}
use Rattle.stock_frame.proofs.MessageLaws.{write-illegal, message-short, message-closed}
use Rattle.stock_halts.proofs.HaltLaws.{halts-lawful}
use borrow.Author.Rules.{rules}
use Rattle.stock_halts_write.proofs.write.Goals as goal

pub returns-then-not-is_legal : goal.returns-then-not-is_legal
returns-then-not-is_legal c =
    let a = c.args in
    write-illegal (legal nineteen_codec a.m) (frame_of nineteen_codec a.m) a.buf.now (sym c.is_legal.ensures ∙ c.if-not-is_legal.true)

pub returns-then-buf-lt26 : goal.returns-then-buf-lt26
returns-then-buf-lt26 c =
    let a = c.args in
    let n : length a.m.code ≡ 6 = search rules in
    message-short nineteen_codec ShapedHalt halts-lawful a.m (record { code-long = n }) (sym c.is_legal.ensures ∙ c.if-not-is_legal.false) a.buf.now c.if-buf-lt26.true

pub put_body-requires : goal.put_body-requires
put_body-requires c = (search rules, sym c.is_legal.ensures ∙ c.if-not-is_legal.false)

pub returns : goal.returns
returns c =
    let a = c.args in
    let n : length a.m.code ≡ 6 = search rules in
    message-closed nineteen_codec ShapedHalt halts-lawful a.m (record { code-long = n })
    (sym c.is_legal.ensures ∙ c.if-not-is_legal.false) a.buf.now c.put_body.new.buf c.close.new.buf c.close.result
    c.if-buf-lt26.false c.put_body.ensures c.close.ensures.0 c.close.ensures.1
