-- `reading::judged` meets its contract: by what the two searches find.
use Rattle.capture.proofs.CallLaws.{held-bad, held-blocks}
use native.Mathlib.Omega.{arith}
use Rattle.capture.proofs.reading.judged.Goals as goal

pub returns-in-Some : goal.returns-in-Some
returns-in-Some c =
    held-bad c.args.capture.now (omega arith) c.sound_first-n.result c.sound_first-n.ensures.0 c.numbered_behind.result c.numbered_behind.ensures c.in-Some.p c.in-Some.is

pub returns-in-None : goal.returns-in-None
returns-in-None c =
    held-blocks c.args.capture.now (omega arith) c.sound_first-n.result c.sound_first-n.ensures.0 c.numbered_behind.result c.numbered_behind.ensures c.in-None.is
