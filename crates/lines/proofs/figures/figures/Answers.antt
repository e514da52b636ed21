-- `figures::figures` meets its contract: what is counted and what is ahead are the walk's figures together.
use native.Mathlib.Omega.{arith}
use borrow.Author.Rules.{rules}
use Rattle.walk.proofs.TurnLaws.{Turn, stays_within, counted-begins, counted-ends, counted-stops, counted-moves}
use Rattle.lines.proofs.LineLaws.{line_on}
use Rattle.lines.proofs.figures.figures.Goals as goal

pub empty-t-requires : goal.empty-t-requires
empty-t-requires c = tt

pub loop-at-init : goal.loop-at-init
loop-at-init c = let a = c.args in counted-begins (line_on a.exchange) a.closed a.line.now c.empty-t.result c.empty-t.ensures

pub read-answer-requires : goal.read-answer-requires
read-answer-requires c = tt

pub past-n-requires : goal.past-n-requires
past-n-requires c = tt

pub overflow_sub-t : goal.overflow_sub-t
overflow_sub-t c = let i = c.loop-at.invariant in i.within

pub returns-then-n-eq0 : goal.returns-then-n-eq0
returns-then-n-eq0 c =
    let turn : let a = c.args in Turn (line_on a.exchange) a.closed a.line.now c.loop-at.at c.read-answer.result c.past-n.result = record { left_over = c.loop-at-test.true; says = c.read-answer.ensures; moves = c.past-n.ensures } in
    let l = c.loop-at in counted-stops turn l.t l.invariant c.if-n-eq0.true

pub counted-t-requires : goal.counted-t-requires
counted-t-requires c = tt

pub overflow_add-at : goal.overflow_add-at
overflow_add-at c =
    let turn : let a = c.args in Turn (line_on a.exchange) a.closed a.line.now c.loop-at.at c.read-answer.result c.past-n.result = record { left_over = c.loop-at-test.true; says = c.read-answer.ensures; moves = c.past-n.ensures } in
    let e = stays_within turn c.if-n-eq0.false in search rules

pub loop-at-smaller : goal.loop-at-smaller
loop-at-smaller c =
    let turn : let a = c.args in Turn (line_on a.exchange) a.closed a.line.now c.loop-at.at c.read-answer.result c.past-n.result = record { left_over = c.loop-at-test.true; says = c.read-answer.ensures; moves = c.past-n.ensures } in
    omega (arith, stays_within turn c.if-n-eq0.false, c.if-n-eq0.false, c.loop-at-test.true)

pub loop-at-preserved : goal.loop-at-preserved
loop-at-preserved c =
    let turn : let a = c.args in Turn (line_on a.exchange) a.closed a.line.now c.loop-at.at c.read-answer.result c.past-n.result = record { left_over = c.loop-at-test.true; says = c.read-answer.ensures; moves = c.past-n.ensures } in
    let l = c.loop-at in
    counted-moves turn l.t l.invariant (search rules) c.if-n-eq0.false c.counted-t.result c.counted-t.ensures

pub returns : goal.returns
returns c =
    let a = c.args in
    let l = c.loop-at in
    counted-ends (line_on a.exchange) a.closed a.line.now l.t l.at l.invariant c.loop-at-test.false
