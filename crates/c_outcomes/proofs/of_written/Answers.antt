-- `of_written` meets its contract, case by case.
use mathlib.Core.Path.{sym, ap, ◌∙◌}
use Rattle.c_outcomes.specs.Outcomes.{write_outcome}
use Rattle.c_outcomes.proofs.of_written.Goals as goal

pub returns-in-Ok : goal.returns-in-Ok
returns-in-Ok c = c.packed.ensures ∙ ap write_outcome (sym c.in-Ok.is)
