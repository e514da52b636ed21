-- `keeping::last_trade` meets its contract.
use mathlib.Core.Path.{sym, ap₂}
use mathlib.Core.Bool.{Bool, cond}
use Rattle.std.specs.Prelude.{Option, None}
use Rattle.amounts.specs.declared.Pair.{Pair}
use Rattle.stock_board_flat.proofs.StoreLaws.{trade-there}
use Rattle.stock_board_flat.proofs.keeping.last_trade.Goals as goal

pub returns : goal.returns
returns c = ap₂ (λ (t : Bool) (l : Option Pair). cond t None l) (sym c.if-new.false) (trade-there c.args.cells.now c.args.at c.if-cells-from-eq0.false)
