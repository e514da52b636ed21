-- `write` meets its contract: a law for each answer.
use mathlib.Core.Path.{◌≡◌, refl, sym, ap, ◌∙◌}
use mathlib.Core.Bool.{true}
use Prim.Native.Nat.{ℕ, ◌+◌}
use native.Mathlib.Omega.{arith}
use lib.ListN.{length}
use Rattle.stock_frame.specs.Codec.{legal, frame_of}
use Rattle.stock_frame.proofs.MessageLaws.{write-illegal}
use Rattle.stock_quotes.specs.Quotes.{six_codec, body_length, ShapedQuote}
use Rattle.stock_quotes.proofs.PairLaws.{length-mapped, length-small, length-dictated}
use Rattle.stock_quotes_write.proofs.WriteLaws.{quote-short, quote-closed, ready}
use borrow.Author.Rules.{rules}
use Rattle.stock_quotes_write.proofs.write.Goals as goal

pub returns-then-not-is_legal : goal.returns-then-not-is_legal
returns-then-not-is_legal c =
    let a = c.args in
    write-illegal (legal six_codec a.m) (frame_of six_codec a.m) a.buf.now (sym c.is_legal.ensures ∙ c.if-not-is_legal.true)

pub overflow_add-n : goal.overflow_add-n
overflow_add-n c = omega (arith, c.body_length-n.ensures, length-small c.args.m.reveal)

pub returns-then-buf-n : goal.returns-then-buf-n
returns-then-buf-n c =
    let shaped : ShapedQuote c.args.m = let n : length c.args.m.code ≡ 6 = search rules in let b : length c.args.m.bids ≡ 5 = search (rules, length-mapped) in let a : length c.args.m.asks ≡ 5 = search (rules, length-mapped) in record { code-long = n; bids-long = b; asks-long = a } in
    let is-legal : legal six_codec c.args.m ≡ true = sym c.is_legal.ensures ∙ c.if-not-is_legal.false in
    let whole : 13 + c.body_length-n.result ≡ 13 + body_length c.args.m.reveal = ap (λ (n : ℕ). 13 + n) c.body_length-n.ensures in
    quote-short c.args.m shaped is-legal c.args.buf.now _ whole c.if-buf-n.true

pub put_fixed-requires : goal.put_fixed-requires
put_fixed-requires c =
    let is-legal : legal six_codec c.args.m ≡ true = sym c.is_legal.ensures ∙ c.if-not-is_legal.false in
    (omega (arith, c.body_length-n.ensures, c.if-buf-n.false, length-dictated _ c.args.m.reveal refl), is-legal)

pub put_sides-requires : goal.put_sides-requires
put_sides-requires c =
    let shaped : ShapedQuote c.args.m = let n : length c.args.m.code ≡ 6 = search rules in let b : length c.args.m.bids ≡ 5 = search (rules, length-mapped) in let a : length c.args.m.asks ≡ 5 = search (rules, length-mapped) in record { code-long = n; bids-long = b; asks-long = a } in
    let is-legal : legal six_codec c.args.m ≡ true = sym c.is_legal.ensures ∙ c.if-not-is_legal.false in
    let whole : 13 + c.body_length-n.result ≡ 13 + body_length c.args.m.reveal = ap (λ (n : ℕ). 13 + n) c.body_length-n.ensures in
    ready c.args.m shaped is-legal c.from_byte.result _ c.from_byte.ensures (omega (arith, whole, c.if-buf-n.false))

pub returns : goal.returns
returns c =
    let shaped : ShapedQuote c.args.m = let n : length c.args.m.code ≡ 6 = search rules in let b : length c.args.m.bids ≡ 5 = search (rules, length-mapped) in let a : length c.args.m.asks ≡ 5 = search (rules, length-mapped) in record { code-long = n; bids-long = b; asks-long = a } in
    let is-legal : legal six_codec c.args.m ≡ true = sym c.is_legal.ensures ∙ c.if-not-is_legal.false in
    let whole : 13 + c.body_length-n.result ≡ 13 + body_length c.args.m.reveal = ap (λ (n : ℕ). 13 + n) c.body_length-n.ensures in
    quote-closed c.args.m shaped is-legal c.args.buf.now _ whole
    c.put_fixed.new.buf c.put_sides.new.buf c.close.new.buf c.close.result c.if-buf-n.false
    c.put_fixed.ensures c.put_sides.ensures c.close.ensures.0 c.close.ensures.1
