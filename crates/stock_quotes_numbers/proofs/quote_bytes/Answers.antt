-- `quote_bytes` meets its contract.
use Prim.Native.Nat.{ℕ}
use mathlib.Core.Path.{◌≡◌, ap}
use mathlib.Core.List.{List, [], ◌∷◌, ◌++◌}
use lib.ListN.{length}
use Rattle.layout.proofs.ListLaws.{listed-all}
use borrow.Author.Rules.{rules}
use Rattle.stock_quotes_numbers.proofs.quote_bytes.Goals as goal

pub returns : goal.returns
returns c =
    let q = c.args.q in
    let n : length q.code ≡ 6 = search rules in
    ap (λ (x : List ℕ). x ++ (q.reveal ∷ q.limit ∷ q.status ∷ [])) (listed-all 6 0 q.code n)
