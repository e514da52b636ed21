-- `keeping::put` meets its contract.
use native.Mathlib.Omega.{arith}
use Rattle.stock_board_flat.proofs.StoreLaws.{put-sets}
use Rattle.stock_board_flat.proofs.keeping.put.Goals as goal

pub returns : goal.returns
returns c = let a = c.args in put-sets a.at _ a.cells.now c.copy_from_slice.new.self a.numbers.now c.copy_from_slice.ensures.after (omega arith) c.requires
