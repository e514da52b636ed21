-- `blocks::used_bytes` meets its contract.
use Rattle.capture.specs.Blocks.{used}
use native.Mathlib.Omega.{arith}
use Rattle.capture.proofs.blocks.used_bytes.Goals as goal

pub returns : goal.returns
unfolding used
returns c = omega (arith, c.from.ensures, c.from_be_bytes.ensures)
