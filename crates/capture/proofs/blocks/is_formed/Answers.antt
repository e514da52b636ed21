-- `blocks::is_formed` meets its contract: number, range and zeros, one after the other.
use mathlib.Core.Path.{◌∙◌}
use Rattle.capture.proofs.BlockLaws.{other-number, none-used, too_many, zeros-decide}
use native.Mathlib.Omega.{arith}
use Rattle.capture.proofs.blocks.is_formed.Goals as goal

pub returns-then-block_number-place : goal.returns-then-block_number-place
returns-then-block_number-place c =
    let a = c.args in
    other-number a.block.now a.place (λ e. omega (arith, e, c.block_number.ensures))

pub returns-then-n-eq0 : goal.returns-then-n-eq0
returns-then-n-eq0 c =
    let a = c.args in
    none-used a.block.now a.place (omega (arith, c.block_number.ensures)) (omega (arith, c.used_bytes-n.ensures))

pub returns-then-n-gt-MOST : goal.returns-then-n-gt-MOST
returns-then-n-gt-MOST c =
    let a = c.args in
    too_many a.block.now a.place (omega (arith, c.block_number.ensures)) (omega (arith, c.used_bytes-n.ensures))

pub returns : goal.returns
returns c =
    let a = c.args in
    let u = c.used_bytes-n.ensures in
    c.zeros_behind.ensures
    ∙ zeros-decide a.block.now a.place (omega (arith, c.block_number.ensures)) (λ e. omega (arith, e, u)) (omega (arith, u))
