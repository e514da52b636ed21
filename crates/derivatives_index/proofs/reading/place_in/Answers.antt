-- `reading::place_in` meets its contract: the cells as numbers are those of the definition.
use native.Mathlib.Omega.{arith}
use Rattle.derivatives_index.proofs.ReadSteps.{long-one, whole-looked}
use Rattle.derivatives_index.proofs.reading.place_in.Goals as goal

pub returns-then-body-eq12 : goal.returns-then-body-eq12
returns-then-body-eq12 c =
    let a = c.args in
    whole-looked a.body.now 12 c.first_bad_from.result (omega arith) (omega arith) c.first_bad_from.ensures

pub returns : goal.returns
returns c = whole-looked c.args.body.now 17 c.first_bad_from-2.result (long-one _ c.requires c.if-body-eq12.false) (omega arith) c.first_bad_from-2.ensures
