-- `reading::finished_part` meets its contract.
use mathlib.Core.Path.{ap, ◌∙◌}
use Rattle.capture.specs.Blocks.{used}
use Rattle.capture.proofs.CallLaws.{no_place, past-places, a-place}
use native.Mathlib.Omega.{arith}
use Rattle.capture.proofs.reading.finished_part.Goals as goal

pub returns-then-place-lt1 : goal.returns-then-place-lt1
returns-then-place-lt1 c = let a = c.args in no_place a.capture.now a.n a.place (omega arith)

pub returns-then-n-place : goal.returns-then-n-place
returns-then-n-place c = let a = c.args in past-places a.capture.now a.n a.place (λ e. omega (arith, e)) (omega arith)

pub returns : goal.returns
returns c =
    let a = c.args in
    a-place a.capture.now a.n a.place (λ e. omega (arith, e)) (omega arith) c.used_bytes.result (c.used_bytes.ensures ∙ ap used c.block_at.ensures)
