-- `trivsome_board_rows` meets its contract: there are not too many rows for the outcome.
use mathlib.Core.Path.{ap}
use native.Mathlib.Omega.{arith}
use Rattle.stock_board_flat.specs.Steps.{flat}
use Rattle.c_board.specs.Outcomes.{rows_outcome}
use Rattle.c_board.proofs.RowsLaws.{rows_fit}
use Rattle.c_board.proofs.trivsome_board_rows.Goals as goal

pub overflow_mul-result : goal.overflow_mul-result
overflow_mul-result c =
    let a = c.args in
    let e = ap rows_outcome c.in-Ok.ensures in
    omega (arith, e, rows_fit (flat a.heads.now a.cells.now))
