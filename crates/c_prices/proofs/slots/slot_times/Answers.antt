-- `slots::slot_times` meets its contract.
use mathlib.Core.Path.{ap}
use mathlib.Core.List.{map}
use Rattle.stock_prices.specs.declared.Slot.{Slot}
use Rattle.stock_prices.proofs.Shapes.{some_slot, codes-long}
use Rattle.layout.proofs.ListLaws.{listed-all}
use Rattle.c_prices.proofs.slots.slot_times.Goals as goal

pub returns : goal.returns
returns c =
    let k = codes-long 10 c.args.slots _ c.well_formed.0 in
    ap (map (λ (s : Slot). s.time)) (listed-all 10 some_slot c.args.slots k.0)
