-- `figures::walked` meets its contract.
use mathlib.Core.Path.{sym, ◌∙◌}
use Rattle.walk.proofs.TalliedLaws.{tallied-moves, tallied-stays}
use Rattle.lines.specs.Lines.{answers_on, longest_on}
use Rattle.lines.proofs.LineLaws.{sound-on}
use Rattle.lines.proofs.figures.walked.Goals as goal

pub has_room-requires : goal.has_room-requires
has_room-requires c = tt

pub figures-w-requires : goal.figures-w-requires
figures-w-requires c = tt

pub plus-requires : goal.plus-requires
plus-requires c = tt

pub returns-then-has_room : goal.returns-then-has_room
returns-then-has_room c =
    let a = c.args in
    tallied-moves (answers_on a.exchange) (longest_on a.exchange) (sound-on a.exchange) a.t a.closed a.line.now (sym c.has_room.ensures ∙ c.if-has_room.true)
    c.figures-w.result c.plus.result c.figures-w.ensures c.plus.ensures

pub returns : goal.returns
returns c =
    let a = c.args in
    tallied-stays (answers_on a.exchange) (longest_on a.exchange) (sound-on a.exchange) a.t a.closed a.line.now (sym c.has_room.ensures ∙ c.if-has_room.false)
