-- `put_fixed` meets its contract.
use mathlib.Core.Path.{◌≡◌, ◌∙◌}
use native.Mathlib.Omega.{arith}
use Rattle.digits.proofs.FieldLaws.{put-fits}
use lib.ListN.{length}
use Rattle.stock_quotes.specs.Quotes.{ShapedQuote}
use Rattle.stock_quotes.proofs.PairLaws.{length-mapped}
use Rattle.stock_quotes_write.proofs.WriteLaws.{time-small, total-small, fixed-put}
use borrow.Author.Rules.{rules}
use Rattle.stock_quotes_write.proofs.put_fixed.Goals as goal

pub unwrap-requires : goal.unwrap-requires
unwrap-requires c =
    let shaped : ShapedQuote c.args.m = let n : length c.args.m.code ≡ 6 = search rules in let b : length c.args.m.bids ≡ 5 = search (rules, length-mapped) in let a : length c.args.m.asks ≡ 5 = search (rules, length-mapped) in record { code-long = n; bids-long = b; asks-long = a } in
    rw (c.write.ensures.0 ∙ (put-fits c.args.m.time 6 c.put_bytes.new.buf 16 (omega arith) (omega (arith, c.requires.0, c.put_bytes.auto.buf)) (time-small c.args.m shaped c.requires.1)).0)

pub unwrap-requires-2 : goal.unwrap-requires-2
unwrap-requires-2 c =
    let shaped : ShapedQuote c.args.m = let n : length c.args.m.code ≡ 6 = search rules in let b : length c.args.m.bids ≡ 5 = search (rules, length-mapped) in let a : length c.args.m.asks ≡ 5 = search (rules, length-mapped) in record { code-long = n; bids-long = b; asks-long = a } in
    rw (c.write-2.ensures.0 ∙ (put-fits c.args.m.total.0 4 c.put_bytes-2.new.buf 25 (omega arith) (omega (arith, c.requires.0, c.put_bytes.auto.buf, c.write.auto.buf, c.put_bytes-2.auto.buf)) (total-small c.args.m shaped c.requires.1)).0)

pub returns : goal.returns
returns c =
    let shaped : ShapedQuote c.args.m = let n : length c.args.m.code ≡ 6 = search rules in let b : length c.args.m.bids ≡ 5 = search (rules, length-mapped) in let a : length c.args.m.asks ≡ 5 = search (rules, length-mapped) in record { code-long = n; bids-long = b; asks-long = a } in
    fixed-put c.args.m shaped c.requires.1 c.args.buf.now
    c.put_bytes.new.buf c.write.new.buf c.put_bytes-2.new.buf c.write-2.new.buf c.requires.0
    c.put_bytes.ensures c.write.ensures.1 c.put_bytes-2.ensures c.write-2.ensures.1
