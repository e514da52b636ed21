-- `keeping::head_of` meets its contract.
use mathlib.Core.Path.{◌≡◌}
use lib.ListN.{length}
use borrow.Author.Rules.{rules}
use Rattle.stock_board_flat.proofs.CodeLaws.{head-made}
use Rattle.stock_board_flat.proofs.keeping.head_of.Goals as goal

pub returns : goal.returns
returns c =
    let a = c.args in
    let n : length a.code ≡ 6 = search rules in
    head-made a.code a.limit a.status c.four.result c.four-2.result n c.four.ensures.0 c.four-2.ensures.0
