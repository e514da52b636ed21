-- `slots::put_amounts` meets its contract.
use Rattle.c_prices.proofs.SlotLaws.{put_five}
use Rattle.c_prices.proofs.slots.put_amounts.Goals as goal

pub returns : goal.returns
returns c = let a = c.args in put_five a.amounts.now a.at a.s.opening.0 a.s.highest.0 a.s.lowest.0 a.s.last.0 a.s.total.0
