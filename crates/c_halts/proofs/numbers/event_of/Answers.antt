-- `numbers::event_of` meets its contract.
use borrow.Author.Tests.{eq-eqb, ne_eqb}
use Rattle.c_halts.proofs.numbers.event_of.Goals as goal

pub returns-then-event-eq0 : goal.returns-then-event-eq0
returns-then-event-eq0 c = simp (eq-eqb _ _ c.if-event-eq0.true)

pub returns : goal.returns
returns c = simp (c.resume_of.ensures, ne_eqb _ _ c.if-event-eq0.false)
