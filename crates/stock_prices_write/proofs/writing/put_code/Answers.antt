-- `writing::put_code` meets its contract.
use mathlib.Core.Path.{◌≡◌, sym, ◌∙◌}
use native.Mathlib.Omega.{arith}
use lib.ListN.{length}
use Rattle.layout.proofs.PutLaws.{bytes-in}
use borrow.Author.Rules.{rules}
use Rattle.stock_prices_write.proofs.writing.put_code.Goals as goal

pub returns : goal.returns
returns c =
    let a = c.args in
    let n : length a.code ≡ 6 = search rules in
    c.put_bytes.ensures ∙ sym (bytes-in a.code a.buf.now a.at (omega arith))
