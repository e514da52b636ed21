-- `blocks::block_number` meets its contract.
use Rattle.capture.specs.Blocks.{number}
use native.Mathlib.Omega.{arith}
use Rattle.capture.proofs.blocks.block_number.Goals as goal

pub returns : goal.returns
unfolding number
returns c = omega (arith, c.from_be_bytes.ensures)
