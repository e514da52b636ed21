-- `frames::next_frame` meets its contract: the next frame is the same from turn to turn.
use Prim.Native.Nat.{◌+◌, ◌≤◌}
use mathlib.Core.Path.{◌≡◌, ◌∙◌}
use native.Mathlib.Omega.{arith}
use lib.ListN.{length}
use borrow.Author.Rules.{rules}
use Rattle.stock_lines.specs.Lines.{next_frame}
use Rattle.stock_lines.proofs.FrameLaws.{MetAt, met-frame, met-stop, met-further, frame-ends}
use Rattle.stock_lines.proofs.frames.next_frame.Goals as goal

pub met_at-requires : goal.met_at-requires
met_at-requires c = tt

pub returns-in-Whole : goal.returns-in-Whole
returns-in-Whole c =
    let met : let a = c.args in MetAt a.closed a.line.now c.loop-at.at c.met_at.result = record { left_over = c.loop-at-test.true; is = c.met_at.ensures } in
    met-frame met c.in-Whole.head c.in-Whole.is ∙ c.loop-at.invariant

pub returns-then-n-eq0 : goal.returns-then-n-eq0
returns-then-n-eq0 c =
    let met : let a = c.args in MetAt a.closed a.line.now c.loop-at.at c.met_at.result = record { left_over = c.loop-at-test.true; is = c.met_at.ensures } in
    met-stop met c.in-Past.n c.in-Past.is c.if-n-eq0.true ∙ c.loop-at.invariant

pub overflow_add-at : goal.overflow_add-at
overflow_add-at c =
    let met : let a = c.args in MetAt a.closed a.line.now c.loop-at.at c.met_at.result = record { left_over = c.loop-at-test.true; is = c.met_at.ensures } in
    let further : let a = c.args in let n = c.in-Past.n in (c.loop-at.at + n ≤ length a.line.now) × (next_frame a.closed (c.loop-at.at + n) a.line.now ≡ next_frame a.closed c.loop-at.at a.line.now) = met-further met c.in-Past.n c.in-Past.is c.if-n-eq0.false in
    let f = further in search rules

pub loop-at-smaller : goal.loop-at-smaller
loop-at-smaller c =
    let met : let a = c.args in MetAt a.closed a.line.now c.loop-at.at c.met_at.result = record { left_over = c.loop-at-test.true; is = c.met_at.ensures } in
    let further : let a = c.args in let n = c.in-Past.n in (c.loop-at.at + n ≤ length a.line.now) × (next_frame a.closed (c.loop-at.at + n) a.line.now ≡ next_frame a.closed c.loop-at.at a.line.now) = met-further met c.in-Past.n c.in-Past.is c.if-n-eq0.false in
    omega (arith, further.0, c.if-n-eq0.false, c.loop-at-test.true)

pub loop-at-preserved : goal.loop-at-preserved
loop-at-preserved c =
    let met : let a = c.args in MetAt a.closed a.line.now c.loop-at.at c.met_at.result = record { left_over = c.loop-at-test.true; is = c.met_at.ensures } in
    let further : let a = c.args in let n = c.in-Past.n in (c.loop-at.at + n ≤ length a.line.now) × (next_frame a.closed (c.loop-at.at + n) a.line.now ≡ next_frame a.closed c.loop-at.at a.line.now) = met-further met c.in-Past.n c.in-Past.is c.if-n-eq0.false in
    further.1 ∙ c.loop-at.invariant

pub returns : goal.returns
returns c =
    let a = c.args in
    frame-ends a.closed a.line.now c.loop-at.at c.loop-at-test.false ∙ c.loop-at.invariant
