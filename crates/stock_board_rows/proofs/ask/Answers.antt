-- `ask` meets its contract: one test after the other.
use Rattle.std.specs.Prelude.{Ok}
use native.Mathlib.Omega.{arith}
use mathlib.Core.Path.{sym, ap, ◌∙◌}
use borrow.Author.Tests.{eq-eqb, ne_eqb, lt-ltb, le-ltb}
use Rattle.stock_board.specs.Board.{has_code, place_of, asked_of}
use Rattle.stock_board_rows.proofs.PlaceLaws.{place-found, place-none, row-there}
use Rattle.stock_board_rows.proofs.ask.Goals as goal

pub returns-then-rows-ne-ROWS : goal.returns-then-rows-ne-ROWS
unfolding asked_of
returns-then-rows-ne-ROWS c = rw (ne_eqb _ 256 c.if-rows-ne-ROWS.true)

pub returns-then-not-stock_code : goal.returns-then-not-stock_code
unfolding asked_of
returns-then-not-stock_code c = rw (eq-eqb _ 256 c.if-rows-ne-ROWS.false, sym c.stock_code.ensures ∙ c.if-not-stock_code.true)

pub returns-in_default : goal.returns-in_default
unfolding asked_of
returns-in_default c =
    let none = place-none (has_code c.args.code) c.args.rows.now _ c.place_of.ensures c.in_default.is in
    rw (eq-eqb _ 256 c.if-rows-ne-ROWS.false, sym c.stock_code.ensures ∙ c.if-not-stock_code.false, le-ltb (place_of c.args.code c.args.rows.now) 256 (omega (arith, none, c.if-rows-ne-ROWS.false)))

pub returns : goal.returns
unfolding asked_of
returns c =
    let rows = c.args.rows.now in
    let at = c.in-Some.at in
    let own = place-found (has_code c.args.code) rows _ at c.place_of.ensures c.in-Some.is in
    rw (eq-eqb _ 256 c.if-rows-ne-ROWS.false, sym c.stock_code.ensures ∙ c.if-not-stock_code.false, ← own.0, lt-ltb at 256 (omega (arith, own.1, c.if-rows-ne-ROWS.false))) (ap Ok (row-there rows at _ own.1))
