-- `cells::cells` meets its contract: cell by cell.
use mathlib.Core.Path.{refl}
use Rattle.stock_quotes.specs.Quotes.{pair_cells}
use Rattle.stock_quotes_read.proofs.cells.cells.Goals as goal

pub returns : goal.returns
unfolding pair_cells
returns c = refl
