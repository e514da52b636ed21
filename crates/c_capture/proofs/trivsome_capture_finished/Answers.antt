-- `trivsome_capture_finished` meets its contract: the outcome fits.
use Prim.Native.Nat.{◌≤◌}
use mathlib.Core.Path.{ap}
use native.Mathlib.Omega.{arith}
use Rattle.c_capture.specs.Outcomes.{held_outcome}
use Rattle.c_capture.proofs.RangeLaws.{finished-fits}
use Rattle.c_capture.proofs.trivsome_capture_finished.Goals as goal

pub overflow_mul-result : goal.overflow_mul-result
overflow_mul-result c =
    let fits : held_outcome c.finished.result ≤ 32801 = let a = c.args in rw c.finished.ensures (finished-fits a.capture.now) in
    omega (arith, ap held_outcome c.in-Ok.is, fits)

pub unsound_outcome-requires : goal.unsound_outcome-requires
unsound_outcome-requires c =
    let fits : held_outcome c.finished.result ≤ 32801 = let a = c.args in rw c.finished.ensures (finished-fits a.capture.now) in
    omega (arith, ap held_outcome c.in-Err.is, fits)
