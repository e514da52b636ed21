-- `reading::clear` meets its contract.
use Rattle.capture.proofs.CallLaws.{clear-done}
use native.Mathlib.Omega.{arith}
use Rattle.capture.proofs.reading.clear.Goals as goal

pub returns-clause-capture_after : goal.returns-clause-capture_after
returns-clause-capture_after c = (clear-done c.args.capture.now (omega arith) c.fill.new.self (c.fill.ensures.after (λ y e. e))).1
