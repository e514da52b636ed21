-- `pieces::next_rows` meets its contract: what is still to give stays the same from turn to turn.
use Rattle.std.specs.Prelude.{◌≡◌, Ok, Err}
use mathlib.Core.Path.{ap, ◌∙◌}
use native.Mathlib.Omega.{arith}
use borrow.Author.Rules.{rules}
use Rattle.walk.proofs.TurnLaws.{Met, met-within, met-stops, gives-no-more, goes_on, gives_one, gives-two, gives-full}
use Rattle.lines.proofs.LineLaws.{line_on}
use Rattle.lines.proofs.pieces.next_rows.Goals as goal

pub stretch_at-s-requires : goal.stretch_at-s-requires
stretch_at-s-requires c = tt

pub returns-then-n-eq0 : goal.returns-then-n-eq0
returns-then-n-eq0 c =
    let met : let a = c.args in Met (line_on a.exchange) a.closed a.line.now c.loop-at.at c.stretch_at-s.result = record { left_over = c.loop-at-test.true; is = c.stretch_at-s.ensures } in
    let l = c.loop-at in met-stops met c.if-n-eq0.true l.kept ∙ l.invariant

pub overflow_add-at : goal.overflow_add-at
overflow_add-at c =
    let met : let a = c.args in Met (line_on a.exchange) a.closed a.line.now c.loop-at.at c.stretch_at-s.result = record { left_over = c.loop-at-test.true; is = c.stretch_at-s.ensures } in
    let e = met-within met c.if-n-eq0.false in search rules

pub told-requires : goal.told-requires
told-requires c = tt

pub loop-at-smaller : goal.loop-at-smaller
loop-at-smaller c =
    let met : let a = c.args in Met (line_on a.exchange) a.closed a.line.now c.loop-at.at c.stretch_at-s.result = record { left_over = c.loop-at-test.true; is = c.stretch_at-s.ensures } in
    omega (arith, met-within met c.if-n-eq0.false, c.if-n-eq0.false, c.loop-at-test.true)

pub loop-at-preserved : goal.loop-at-preserved
loop-at-preserved c =
    let met : let a = c.args in Met (line_on a.exchange) a.closed a.line.now c.loop-at.at c.stretch_at-s.result = record { left_over = c.loop-at-test.true; is = c.stretch_at-s.ensures } in
    let l = c.loop-at in
    goes_on met l.kept c.if-n-eq0.false c.told.result c.told.ensures c.in-Nothing.later (c.in_ok-later.was ∙ ap Ok c.in-Nothing.is)
    ∙ l.invariant

pub returns-in-One : goal.returns-in-One
returns-in-One c =
    let met : let a = c.args in Met (line_on a.exchange) a.closed a.line.now c.loop-at.at c.stretch_at-s.result = record { left_over = c.loop-at-test.true; is = c.stretch_at-s.ensures } in
    let l = c.loop-at in
    gives_one met l.kept c.if-n-eq0.false c.told.result c.told.ensures c.in-One.row c.in-One.later (c.in_ok-later.was ∙ ap Ok c.in-One.is)
    ∙ l.invariant

pub returns-in-Two : goal.returns-in-Two
returns-in-Two c =
    let met : let a = c.args in Met (line_on a.exchange) a.closed a.line.now c.loop-at.at c.stretch_at-s.result = record { left_over = c.loop-at-test.true; is = c.stretch_at-s.ensures } in
    let l = c.loop-at in
    gives-two met l.kept c.if-n-eq0.false c.told.result c.told.ensures c.in-Two.skipped c.in-Two.row c.in-Two.later (c.in_ok-later.was ∙ ap Ok c.in-Two.is)
    ∙ l.invariant

pub returns-in_err-later : goal.returns-in_err-later
returns-in_err-later c =
    let met : let a = c.args in Met (line_on a.exchange) a.closed a.line.now c.loop-at.at c.stretch_at-s.result = record { left_over = c.loop-at-test.true; is = c.stretch_at-s.ensures } in
    let l = c.loop-at in
    let e = c.in_err-later.field-0.0 in
    let handed : c.from_residual.result ≡ Err e = search rules in
    handed ∙ gives-full met l.kept c.if-n-eq0.false c.told.result c.told.ensures e c.in_err-later.was
    ∙ l.invariant

pub returns : goal.returns
returns c =
    let a = c.args in
    gives-no-more (line_on a.exchange) a.closed a.line.now c.loop-at.kept c.loop-at.at c.loop-at-test.false ∙ c.loop-at.invariant
