-- `quote_amounts` meets its contract.
use mathlib.Core.Path.{◌≡◌, ap₂}
use mathlib.Core.List.{List, ◌∷◌, ◌++◌}
use lib.ListN.{length}
use Rattle.amounts.specs.declared.Pair.{Pair}
use Rattle.stock_quotes.specs.Quotes.{no_pair, flat}
use Rattle.stock_quotes.proofs.PairLaws.{length-mapped}
use Rattle.layout.proofs.ListLaws.{listed-all}
use borrow.Author.Rules.{rules}
use Rattle.stock_quotes_numbers.proofs.quote_amounts.Goals as goal

pub returns : goal.returns
returns c =
    let q = c.args.q in
    let n : length q.bids ≡ 5 = search (rules, length-mapped) in
    let m : length q.asks ≡ 5 = search (rules, length-mapped) in
    ap₂ (λ (b a : List Pair). q.total.0 ∷ flat (q.trade ∷ (b ++ a))) (listed-all 5 no_pair q.bids n) (listed-all 5 no_pair q.asks m)
