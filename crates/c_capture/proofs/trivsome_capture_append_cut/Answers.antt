-- `trivsome_capture_append_cut` meets its contract: the outcome fits.
use mathlib.Core.Path.{ap}
use native.Mathlib.Omega.{arith}
use Rattle.c_capture.specs.Outcomes.{taken_outcome}
use Rattle.c_capture.proofs.RangeLaws.{append-fits}
use Rattle.c_capture.proofs.trivsome_capture_append_cut.Goals as goal

pub taken_outcome-requires : goal.taken_outcome-requires
taken_outcome-requires c =
    let a = c.args in
    omega (arith, ap taken_outcome c.append_cut.ensures.value, append-fits a.capture.now a.payload.now)
