-- `numbers::halt_numbers` meets its contract.
use Rattle.c_halts.proofs.numbers.halt_numbers.Goals as goal

pub returns-in-RoundEnd : goal.returns-in-RoundEnd
returns-in-RoundEnd c = simp (c.state_byte-state.ensures, c.in-RoundEnd.is)

pub returns-in-Halted : goal.returns-in-Halted
returns-in-Halted c = simp (c.resume_number.ensures, c.state_byte-state.ensures, c.in-Halted.is)
