-- `empty` meets its contract.
use mathlib.Core.Path.{ap}
use lib.ListN.{replicate}
use Rattle.stock_prices.specs.declared.Slot.{Slot}
use Rattle.stock_prices.proofs.empty.Goals as goal

pub returns : goal.returns
returns c = ap (λ (s : Slot). record { seq = 0; count = 0; slots = replicate 10 s }) c.no_slot-slot.ensures
