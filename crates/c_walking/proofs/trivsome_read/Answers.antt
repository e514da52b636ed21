-- `trivsome_read` meets its contract.
use mathlib.Core.Path.{ap, ◌∙◌}
use Rattle.c_outcomes.specs.Outcomes.{read_outcome}
use Rattle.c_walking.proofs.trivsome_read.Goals as goal

pub returns : goal.returns
returns c = c.of_answer.ensures ∙ ap read_outcome c.read.ensures
