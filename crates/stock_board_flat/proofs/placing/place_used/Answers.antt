-- `placing::place_used` meets its contract.
use mathlib.Core.Path.{◌≡◌, sym, ◌∙◌}
use mathlib.Core.Bool.{true}
use native.Mathlib.Omega.{arith}
use Rattle.stock_board_flat.specs.Flat.{Flat, whole}
use Rattle.stock_board_flat.specs.Steps.{flat}
use Rattle.stock_board_flat.proofs.WholeLaws.{whole_long}
use Rattle.stock_board_flat.proofs.CallLaws.{row-not, row-free, row-used, row_out}
use Rattle.stock_board_flat.proofs.placing.place_used.Goals as goal

pub returns-then-not-is_whole : goal.returns-then-not-is_whole
returns-then-not-is_whole c = row-not _ c.args.at (sym c.is_whole.ensures ∙ c.if-not-is_whole.true)

pub returns-then-at-ge-ROWS : goal.returns-then-at-ge-ROWS
returns-then-at-ge-ROWS c = row_out _ (sym c.is_whole.ensures ∙ c.if-not-is_whole.false) c.args.at c.if-at-ge-ROWS.true

pub bounds-heads-at : goal.bounds-heads-at
bounds-heads-at c =
    let wholly : whole (let a = c.args in flat a.heads.now a.cells.now) ≡ true = sym c.is_whole.ensures ∙ c.if-not-is_whole.false in
    omega (arith, (whole_long (let a = c.args in flat a.heads.now a.cells.now) wholly).heads-long, c.if-at-ge-ROWS.false)

pub returns-then-is_of : goal.returns-then-is_of
returns-then-is_of c = row-free _ (sym c.is_whole.ensures ∙ c.if-not-is_whole.false) c.args.at c.if-at-ge-ROWS.false (sym c.is_of.ensures ∙ c.if-is_of.true)

pub returns : goal.returns
returns c =
    let f : Flat = let a = c.args in flat a.heads.now a.cells.now in
    let wholly : whole f ≡ true = sym c.is_whole.ensures ∙ c.if-not-is_whole.false in
    record { there = c.if-at-ge-ROWS.false; long = whole_long f wholly; row_is = row-used f wholly c.args.at c.if-at-ge-ROWS.false (sym c.is_of.ensures ∙ c.if-is_of.false) }
