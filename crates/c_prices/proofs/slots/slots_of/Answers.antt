-- `slots::slots_of` meets its contract.
use Rattle.c_prices.proofs.slots.slots_of.Goals as goal

pub returns : goal.returns
returns c = simp (c.slot_at-10.ensures, c.slot_at-9.ensures, c.slot_at-8.ensures, c.slot_at-7.ensures, c.slot_at-6.ensures, c.slot_at-5.ensures, c.slot_at-4.ensures, c.slot_at-3.ensures, c.slot_at-2.ensures, c.slot_at.ensures)
