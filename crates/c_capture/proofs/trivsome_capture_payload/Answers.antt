-- `trivsome_capture_payload` meets its contract: the outcome fits.
use Prim.Native.Nat.{◌≤◌}
use mathlib.Core.Path.{ap}
use native.Mathlib.Omega.{arith}
use Rattle.c_capture.specs.Outcomes.{part_outcome}
use Rattle.c_capture.proofs.RangeLaws.{payload-fits, refusal, refusal-fits}
use Rattle.c_capture.proofs.trivsome_capture_payload.Goals as goal

pub overflow_mul-result : goal.overflow_mul-result
overflow_mul-result c =
    let fits : part_outcome c.payload_at.result ≤ 281475009740800 = let a = c.args in rw c.payload_at.ensures (payload-fits a.capture.now _) in
    omega (arith, ap part_outcome c.in-Ok.is, fits)

pub overflow_mul-result-in-Ok : goal.overflow_mul-result-in-Ok
overflow_mul-result-in-Ok c =
    let fits : part_outcome c.payload_at.result ≤ 281475009740800 = let a = c.args in rw c.payload_at.ensures (payload-fits a.capture.now _) in
    omega (arith, ap part_outcome c.in-Ok.is, fits)

pub overflow_add-result : goal.overflow_add-result
overflow_add-result c =
    let fits : part_outcome c.payload_at.result ≤ 281475009740800 = let a = c.args in rw c.payload_at.ensures (payload-fits a.capture.now _) in
    omega (arith, ap part_outcome c.in-Ok.is, fits)

pub unsound_outcome-requires : goal.unsound_outcome-requires
unsound_outcome-requires c =
    let fits : refusal c.payload_at.result ≤ 32801 = let a = c.args in rw c.payload_at.ensures (refusal-fits a.capture.now _) in
    omega (arith, ap refusal c.in-Err.is, fits)
