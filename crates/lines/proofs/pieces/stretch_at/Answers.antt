-- `pieces::stretch_at` meets its contract.
use Rattle.walk.proofs.TurnLaws.{stretch-noise, stretch-read}
use Rattle.lines.specs.Lines.{answer_on}
use Rattle.lines.proofs.pieces.stretch_at.Goals as goal

pub noise-n-requires : goal.noise-n-requires
noise-n-requires c = tt

pub returns-then-n-gt0 : goal.returns-then-n-gt0
returns-then-n-gt0 c =
    let a = c.args in
    stretch-noise (answer_on a.exchange) a.closed a.line.now a.at c.noise-n.result c.noise-n.ensures c.if-n-gt0.true

pub read-answer-requires : goal.read-answer-requires
read-answer-requires c = tt

pub past-bytes-requires : goal.past-bytes-requires
past-bytes-requires c = tt

pub returns : goal.returns
returns c =
    let a = c.args in
    stretch-read (answer_on a.exchange) a.closed a.line.now a.at c.noise-n.result c.noise-n.ensures c.if-n-gt0.false c.read-answer.result c.past-bytes.result c.read-answer.ensures c.past-bytes.ensures
