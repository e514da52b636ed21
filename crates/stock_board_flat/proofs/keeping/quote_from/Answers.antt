-- `keeping::quote_from` meets its contract.
use Prim.Native.Nat.{ℕ}
use mathlib.Core.Path.{◌≡◌, sym, ap, ap₂, ◌∙◌}
use mathlib.Core.List.{List}
use native.Mathlib.Omega.{arith}
use lib.ListN.{length}
use Rattle.layout.proofs.ListLaws.{listed-is}
use Rattle.stock_quotes_numbers.specs.Numbers.{quote_from}
use borrow.Author.Rules.{rules}
use Rattle.stock_board_flat.proofs.keeping.quote_from.Goals as goal

pub returns : goal.returns
returns c =
    let cells = c.args.cells.now in
    let long : length cells ≡ 26 = search rules in
    c.quote_of.ensures
    ∙ ap (quote_from 0 c.marks_of-marks.result c.time_of-time.result) (c.amounts_in.ensures ∙ sym (listed-is 23 0 0 cells (omega (arith, long))))
    ∙ ap₂ (λ (marks : List ℕ) (time : ℕ). quote_from 0 marks time cells) c.marks_of-marks.ensures c.time_of-time.ensures
