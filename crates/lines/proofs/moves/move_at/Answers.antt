-- `moves::move_at` meets its contract.
use Rattle.walk.proofs.TurnLaws.{Turn, ends, stops-here, moves-here}
use Rattle.lines.proofs.LineLaws.{line_on}
use Rattle.lines.proofs.moves.move_at.Goals as goal

pub returns-then-line-at : goal.returns-then-line-at
returns-then-line-at c = let a = c.args in ends (line_on a.exchange) a.closed a.line.now a.at c.if-line-at.true

pub read-answer-requires : goal.read-answer-requires
read-answer-requires c = tt

pub past-n-requires : goal.past-n-requires
past-n-requires c = tt

pub returns-then-n-eq0 : goal.returns-then-n-eq0
returns-then-n-eq0 c =
    let turn : let a = c.args in Turn (line_on a.exchange) a.closed a.line.now a.at c.read-answer.result c.past-n.result = record { left_over = c.if-line-at.false; says = c.read-answer.ensures; moves = c.past-n.ensures } in
    stops-here turn c.if-n-eq0.true

pub returns : goal.returns
returns c =
    let turn : let a = c.args in Turn (line_on a.exchange) a.closed a.line.now a.at c.read-answer.result c.past-n.result = record { left_over = c.if-line-at.false; says = c.read-answer.ensures; moves = c.past-n.ensures } in
    moves-here turn c.if-n-eq0.false
