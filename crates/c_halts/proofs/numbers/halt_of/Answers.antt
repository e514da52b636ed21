-- `numbers::halt_of` meets its contract.
use Rattle.c_halts.proofs.numbers.halt_of.Goals as goal

pub returns : goal.returns
returns c = simp (c.event_of-event.ensures, c.sending_of-state.ensures)
