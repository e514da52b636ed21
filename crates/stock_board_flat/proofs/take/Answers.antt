-- `take` meets its contract: what it answers follows from the place, and so does what it leaves.
use mathlib.Core.Path.{◌≡◌, ◌∙◌, subst}
use lib.ListN.{length}
use Rattle.std.specs.Prelude.{Option, None, Ok}
use Rattle.stock_quotes.specs.Quotes.{ShapedQuote}
use Rattle.stock_quotes.proofs.PairLaws.{length-mapped}
use Rattle.stock_board_flat.specs.declared.placing.Place.{Place}
use Rattle.stock_board_flat.specs.Flat.{Flat}
use Rattle.stock_board_flat.specs.Calls.{change_flat}
use Rattle.stock_board_flat.specs.Steps.{flat, Placed, PlacedAt}
use Rattle.stock_board_flat.proofs.StoreLaws.{own-sides}
use Rattle.stock_board_flat.proofs.PlaceLaws.{taken-by}
use borrow.Author.Rules.{rules}
use Rattle.stock_board_flat.proofs.take.Goals as goal

pub returns-in_err-p-clause-cells_after : goal.returns-in_err-p-clause-cells_after
returns-in_err-p-clause-cells_after c = (taken-by _ c.args.m _ c.in_err-p.ensures).1

pub put_taken-requires : goal.put_taken-requires
put_taken-requires c =
    let f : Flat = let a = c.args in flat a.heads.now a.cells.now in
    let placed : PlacedAt f c.args.m c.in-Some.p = subst (λ (o : Option Place). Placed f c.args.m (Ok o)) c.in-Some.is c.in_ok-p.ensures in
    let shaped : ShapedQuote c.args.m = let n : length c.args.m.code ≡ 6 = search rules in let b : length c.args.m.bids ≡ 5 = search (rules, length-mapped) in let a : length c.args.m.asks ≡ 5 = search (rules, length-mapped) in record { code-long = n; bids-long = b; asks-long = a } in
    (placed.long, placed.there, own-sides c.args.m shaped placed.right)

pub returns-in-Some-clause-cells_after : goal.returns-in-Some-clause-cells_after
returns-in-Some-clause-cells_after c =
    let f : Flat = let a = c.args in flat a.heads.now a.cells.now in
    let placed : PlacedAt f c.args.m c.in-Some.p = subst (λ (o : Option Place). Placed f c.args.m (Ok o)) c.in-Some.is c.in_ok-p.ensures in
    c.put_taken.ensures ∙ (taken-by f c.args.m _ placed.row_is).1

pub returns-in_default-clause-cells_after : goal.returns-in_default-clause-cells_after
returns-in_default-clause-cells_after c =
    let f : Flat = let a = c.args in flat a.heads.now a.cells.now in
    let stays : change_flat f c.args.m ≡ Ok None = subst (λ (o : Option Place). Placed f c.args.m (Ok o)) c.in_default.is c.in_ok-p.ensures in
    (taken-by f c.args.m _ stays).1
