-- `put_sides` meets its contract: the three sides one behind another.
use mathlib.Core.Path.{◌≡◌}
use lib.ListN.{length}
use Rattle.stock_quotes.specs.Quotes.{ShapedQuote}
use Rattle.stock_quotes.proofs.PairLaws.{length-mapped}
use Rattle.stock_quotes_write.proofs.WriteLaws.{sides-put}
use borrow.Author.Rules.{rules}
use Rattle.stock_quotes_write.proofs.put_sides.Goals as goal

pub returns : goal.returns
returns c =
    let shaped : ShapedQuote c.args.m = let n : length c.args.m.code ≡ 6 = search rules in let b : length c.args.m.bids ≡ 5 = search (rules, length-mapped) in let a : length c.args.m.asks ≡ 5 = search (rules, length-mapped) in record { code-long = n; bids-long = b; asks-long = a } in
    let a = c.args in
    sides-put a.m shaped a.shown (length a.buf.now) c.requires a.buf.now
    c.put_pairs.new.buf c.put_pairs-2.new.buf c.put_pairs-3.new.buf
    c.put_pairs.ensures c.put_pairs-2.ensures c.put_pairs-3.ensures
