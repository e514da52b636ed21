-- `numbers::tells_halt` meets its contract.
use mathlib.Core.Path.{sym, ◌∙◌}
use borrow.Author.Tests.{eq-eqb, ne_eqb}
use Rattle.c_halts.proofs.numbers.tells_halt.Goals as goal

pub returns-then-not-known_state : goal.returns-then-not-known_state
returns-then-not-known_state c = simp (sym c.known_state.ensures ∙ c.if-not-known_state.true)

pub returns-then-event-eq0 : goal.returns-then-event-eq0
returns-then-event-eq0 c = simp (sym c.known_state.ensures ∙ c.if-not-known_state.false, eq-eqb _ _ c.if-event-eq0.true)

pub returns : goal.returns
returns c = simp (sym c.known_state.ensures ∙ c.if-not-known_state.false, ne_eqb _ _ c.if-event-eq0.false)
