-- `keeping::row_in` meets its contract.
use mathlib.Core.Path.{ap₂, ◌∙◌}
use native.Mathlib.Omega.{arith}
use Rattle.stock_board.specs.Rows.{row_after}
use Rattle.stock_board_flat.proofs.RowLaws.{row_made}
use Rattle.stock_board_flat.proofs.keeping.row_in.Goals as goal

pub returns : goal.returns
returns c =
    let a = c.args in
    c.after.ensures ∙ ap₂ row_after c.free.ensures c.quote_from.ensures ∙ row_made a.heads.now a.cells.now a.at _ (omega (arith, c.requires.1, c.requires.0.heads-long)) (omega arith)
