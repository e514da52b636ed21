-- `of_answer` meets its contract, case by case.
use mathlib.Core.Path.{sym, ap, ◌∙◌}
use Rattle.c_outcomes.specs.Outcomes.{outcome, read_outcome}
use Rattle.c_outcomes.proofs.of_answer.Goals as goal

pub returns-in-Accepted : goal.returns-in-Accepted
returns-in-Accepted c = c.packed.ensures ∙ ap read_outcome (sym c.in-Accepted.is)

pub returns-in-NoFrame : goal.returns-in-NoFrame
returns-in-NoFrame c = c.packed-in-NoFrame.ensures ∙ ap (outcome _ 0 0) c.place_number.ensures ∙ ap read_outcome (sym c.in-NoFrame.is)

pub returns-in-Refused : goal.returns-in-Refused
returns-in-Refused c = c.packed-in-Refused.ensures ∙ ap (outcome _ 0 _) c.place_number-in-Refused.ensures ∙ ap read_outcome (sym c.in-Refused.is)
