-- `slots::slot_at` meets its contract.
use Rattle.c_prices.proofs.slots.slot_at.Goals as goal

pub returns : goal.returns
returns c = simp c.code_at-code.ensures
