-- `judging::is_legal` meets its contract: the last test, where all others hold.
use mathlib.Core.Path.{◌≡◌, sym, ◌∙◌}
use mathlib.Core.Bool.{true, ◌&&◌}
use native.Mathlib.Omega.{arith}
use lib.Dec.{leb, ltb}
use borrow.Author.Tests.{lt-ltb, le-leb}
use Rattle.digits.proofs.Bools.{and_both}
use Rattle.stock_prices.proofs.AndLaws.{holds}
use Rattle.stock_prices_write.proofs.WriteLaws.{legal_is}
use Rattle.stock_prices_write.proofs.judging.is_legal.Goals as goal

pub returns : goal.returns
returns c =
    let seq-fits : ltb c.args.m.seq 100000000 ≡ true = lt-ltb c.args.m.seq 100000000 (omega (arith, c.if-m-gt-MOST_SEQ.false)) in
    let count_fits : (leb 1 c.args.m.count && leb c.args.m.count 10) ≡ true = and_both (le-leb 1 c.args.m.count c.if-n-lt1.false) (le-leb c.args.m.count 10 c.if-n-gt10.false) in
    c.ruled.ensures
    ∙ sym (legal_is c.args.m ∙ holds _ seq-fits ∙ holds _ count_fits
    ∙ holds _ (sym c.slots_fit.ensures ∙ c.if-not-slots_fit.false)
    ∙ holds _ (sym c.timed.ensures ∙ c.if-not-timed.false))
