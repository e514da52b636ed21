-- `frames::met_at` meets its contract.
use mathlib.Core.Path.{sym, ap, ◌∙◌}
use Rattle.stock_lines.specs.Steps.{met_outline}
use Rattle.stock_lines.specs.declared.frames.Met.TheVariants.{Past}
use Rattle.stock_lines.proofs.FrameLaws.{met-noise, met-outline}
use Rattle.stock_lines.proofs.frames.met_at.Goals as goal

pub noise-n-requires : goal.noise-n-requires
noise-n-requires c = tt

pub returns-then-n-gt0 : goal.returns-then-n-gt0
returns-then-n-gt0 c =
    let a = c.args in
    met-noise a.closed a.line.now a.at c.noise-n.result c.noise-n.ensures c.if-n-gt0.true

pub outline-requires : goal.outline-requires
outline-requires c = tt

pub past-n-requires : goal.past-n-requires
past-n-requires c = tt

pub returns-in-Ok : goal.returns-in-Ok
returns-in-Ok c =
    let a = c.args in
    ap (met_outline a.closed) (sym c.in-Ok.is)
    ∙ met-outline a.closed a.line.now a.at c.noise-n.result c.noise-n.ensures c.if-n-gt0.false c.outline.result c.outline.ensures

pub returns-in-Err : goal.returns-in-Err
returns-in-Err c =
    let a = c.args in
    ap Past c.past-n.ensures
    ∙ ap (met_outline a.closed) (sym c.in-Err.is)
    ∙ met-outline a.closed a.line.now a.at c.noise-n.result c.noise-n.ensures c.if-n-gt0.false c.outline.result c.outline.ensures
