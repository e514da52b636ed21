-- `trivsome_derivatives_move` meets its contract.
use mathlib.Core.Path.{ap, ◌∙◌}
use Rattle.c_outcomes.specs.Walking.{move_outcome}
use Rattle.c_derivatives.proofs.trivsome_derivatives_move.Goals as goal

pub returns : goal.returns
returns c = c.of_step.ensures ∙ ap move_outcome c.move_at.ensures
