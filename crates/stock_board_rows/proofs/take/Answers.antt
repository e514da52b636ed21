-- `take` meets its contract: one test after the other.
use mathlib.Core.Path.{◌≡◌, sym, ap, ◌∙◌}
use mathlib.Core.Bool.{true, false}
use Rattle.stock_frame.specs.Codec.{legal}
use Rattle.stock_quotes.specs.Quotes.{six_codec}
use Rattle.stock_board.specs.Rows.{free_code, row_after}
use Rattle.stock_board.specs.Board.{has_code, last_of_day}
use Rattle.stock_board.specs.declared.Row.{Row}
use Rattle.stock_board_rows.proofs.PlaceLaws.{place-found, place-none, row-there}
use Rattle.stock_board_rows.proofs.TakeLaws.{taken-length, taken-illegal, taken-last, taken-own, taken-free, taken-none}
use Rattle.stock_board_rows.proofs.take.Goals as goal

pub returns-then-rows-ne-ROWS : goal.returns-then-rows-ne-ROWS
returns-then-rows-ne-ROWS c = taken-length _ c.args.m c.if-rows-ne-ROWS.true

pub returns-then-not-is_legal : goal.returns-then-not-is_legal
returns-then-not-is_legal c = taken-illegal _ c.args.m c.if-rows-ne-ROWS.false (sym c.is_legal.ensures ∙ c.if-not-is_legal.true)

pub returns-then-last_of_day : goal.returns-then-last_of_day
returns-then-last_of_day c =
    taken-last _ c.args.m c.if-rows-ne-ROWS.false (sym c.is_legal.ensures ∙ c.if-not-is_legal.false) (sym c.last_of_day.ensures ∙ c.if-last_of_day.true)

pub returns-in-Some : goal.returns-in-Some
returns-in-Some c =
    let m = c.args.m in
    let rows = c.args.rows.now in
    let right : legal six_codec m ≡ true = sym c.is_legal.ensures ∙ c.if-not-is_legal.false in
    let stock : last_of_day m ≡ false = sym c.last_of_day.ensures ∙ c.if-last_of_day.false in
    let own = place-found (has_code m.code) rows _ c.in-Some.at c.place_of.ensures c.in-Some.is in
    taken-own rows m c.if-rows-ne-ROWS.false right stock c.in-Some.at c.after.result own (c.after.ensures ∙ ap (λ (row : Row). row_after row m) (row-there rows c.in-Some.at _ own.1))

pub returns-in_default-place_of : goal.returns-in_default-place_of
returns-in_default-place_of c =
    let m = c.args.m in
    let rows = c.args.rows.now in
    let right : legal six_codec m ≡ true = sym c.is_legal.ensures ∙ c.if-not-is_legal.false in
    let stock : last_of_day m ≡ false = sym c.last_of_day.ensures ∙ c.if-last_of_day.false in
    let new = place-none (has_code m.code) rows _ c.place_of.ensures c.in_default.is in
    taken-none rows m c.if-rows-ne-ROWS.false right stock new (place-none (has_code free_code) rows _ c.place_of-2.ensures c.in_default-place_of.is)

pub returns : goal.returns
returns c =
    let m = c.args.m in
    let rows = c.args.rows.now in
    let right : legal six_codec m ≡ true = sym c.is_legal.ensures ∙ c.if-not-is_legal.false in
    let stock : last_of_day m ≡ false = sym c.last_of_day.ensures ∙ c.if-last_of_day.false in
    let new = place-none (has_code m.code) rows _ c.place_of.ensures c.in_default.is in
    let free = place-found (has_code free_code) rows _ c.in-Some-place_of.at c.place_of-2.ensures c.in-Some-place_of.is in
    taken-free rows m c.if-rows-ne-ROWS.false right stock new c.in-Some-place_of.at c.after-2.result free (c.after-2.ensures ∙ ap (λ (row : Row). row_after row m) c.free.ensures)
