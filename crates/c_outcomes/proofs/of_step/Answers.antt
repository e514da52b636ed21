-- `of_step` meets its contract, case by case.
use mathlib.Core.Path.{sym, ap, ◌∙◌}
use Rattle.c_outcomes.specs.Walking.{move_outcome}
use Rattle.c_outcomes.proofs.of_step.Goals as goal

pub returns-in-Some : goal.returns-in-Some
returns-in-Some c = c.of_move.ensures ∙ ap move_outcome (sym c.in-Some.is)
