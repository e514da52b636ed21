-- `trivsome_derivatives_walk` meets its contract.
use mathlib.Core.Path.{ap}
use Rattle.walk.specs.declared.tally.Tallied.{Tallied}
use Rattle.c_outcomes.specs.Walking.{tally_numbers}
use Rattle.c_derivatives.proofs.trivsome_derivatives_walk.Goals as goal

pub returns : goal.returns
returns c = let w = c.walked-w.ensures in record {
  value = ap (λ (t : Tallied). t.answer) w;
  tally_after = ap (λ (t : Tallied). tally_numbers t.tally) w;
}
