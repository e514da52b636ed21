-- `blocks::zeros_behind` meets its contract.
use mathlib.Core.Path.{◌∙◌}
use Rattle.capture.proofs.BlockLaws.{zeros-part}
use native.Mathlib.Omega.{arith}
use Rattle.capture.proofs.blocks.zeros_behind.Goals as goal

pub returns : goal.returns
returns c =
    let a = c.args in
    c.all_zero.ensures ∙ zeros-part a.block.now a.n (omega arith) (omega arith)
