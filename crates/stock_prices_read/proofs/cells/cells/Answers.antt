-- `cells::cells` meets its contract: cell by cell.
use mathlib.Core.Path.{refl}
use Rattle.stock_prices.specs.Prices.{slots_cells}
use Rattle.stock_prices_read.proofs.cells.cells.Goals as goal

pub returns : goal.returns
unfolding slots_cells
returns c = refl
