-- `blocks::check_fits` meets its contract: the first sum, then the second.
use Rattle.capture.proofs.BlockLaws.{first-misses, second-decides}
use native.Mathlib.Omega.{arith}
use Rattle.capture.proofs.blocks.check_fits.Goals as goal

pub returns-then-block-s : goal.returns-then-block-s
returns-then-block-s c = first-misses c.args.block.now c.check_sums-s.result c.check_sums-s.ensures (λ e. omega (arith, e))

pub returns : goal.returns
returns c = second-decides c.args.block.now c.check_sums-s.result c.check_sums-s.ensures (omega arith)
