-- `write` meets its contract: a law for each answer.
use mathlib.Core.Path.{◌≡◌, sym, ap, ◌∙◌}
use mathlib.Core.Bool.{true}
use native.Mathlib.Omega.{arith}
use lib.ListN.{length}
use Rattle.digits.proofs.FieldLaws.{put-fits, length-put_at}
use Rattle.stock_frame.specs.Codec.{legal, frame_of}
use Rattle.stock_prices.specs.Prices.{twelve_codec, ShapedPrices}
use Rattle.stock_prices.proofs.Shapes.{shaped}
use Rattle.stock_frame.proofs.MessageLaws.{write-illegal}
use Rattle.stock_prices_write.proofs.WriteLaws.{slots-fit, count-small, prices-short, prices-closed}
use Rattle.stock_prices_write.proofs.write.Goals as goal

pub returns-then-not-is_legal : goal.returns-then-not-is_legal
returns-then-not-is_legal c =
    let a = c.args in
    write-illegal (legal twelve_codec a.m) (frame_of twelve_codec a.m) a.buf.now (sym c.is_legal.ensures ∙ c.if-not-is_legal.true)

pub returns-then-buf-lt-FRAME : goal.returns-then-buf-lt-FRAME
returns-then-buf-lt-FRAME c =
    let shape : ShapedPrices c.args.m = shaped c.args.m _ c.well_formed.0 in
    let right : legal twelve_codec c.args.m ≡ true = sym c.is_legal.ensures ∙ c.if-not-is_legal.false in
    prices-short c.args.m shape right c.args.buf.now (omega (arith, c.if-buf-lt-FRAME.true))

pub unwrap-requires : goal.unwrap-requires
unwrap-requires c =
    let m = c.args.m in
    let right : legal twelve_codec m ≡ true = sym c.is_legal.ensures ∙ c.if-not-is_legal.false in
    rw (c.write.ensures.0 ∙ (put-fits m.count 1 c.args.buf.now 10 (omega arith) (omega (arith, c.if-buf-lt-FRAME.false)) (count-small m (shaped m _ c.well_formed.0) right)).0)

pub put_slots-requires : goal.put_slots-requires
put_slots-requires c =
    let shape : ShapedPrices c.args.m = shaped c.args.m _ c.well_formed.0 in
    let right : legal twelve_codec c.args.m ≡ true = sym c.is_legal.ensures ∙ c.if-not-is_legal.false in
    let a = c.args in (
      omega (arith, ap length c.write.ensures.1, length-put_at a.m.count 1 a.buf.now 10, c.if-buf-lt-FRAME.false),
      slots-fit a.m shape right,
    )

pub returns : goal.returns
returns c =
    let shape : ShapedPrices c.args.m = shaped c.args.m _ c.well_formed.0 in
    let right : legal twelve_codec c.args.m ≡ true = sym c.is_legal.ensures ∙ c.if-not-is_legal.false in
    let a = c.args in
    prices-closed a.m shape right a.buf.now c.write.new.buf c.put_slots.new.buf c.close.new.buf c.close.result
    c.if-buf-lt-FRAME.false c.write.ensures.1 c.put_slots.ensures c.close.ensures.0 c.close.ensures.1
