-- `keeping::put_taken` meets its contract: of a row that is kept the trade is put, else the whole row.
use Prim.Native.Nat.{◌*◌}
use mathlib.Core.Path.{◌≡◌, refl, sym, ap, ◌∙◌}
use mathlib.Core.Bool.{Bool, false, cond}
use lib.ListN.{get_or, take, drop}
use Rattle.stock_quotes.specs.declared.Levels.TheVariants.{NotShown}
use Rattle.std.specs.Prelude.{Option, None}
use Rattle.amounts.specs.declared.Pair.{Pair}
use Rattle.stock_board.specs.Rows.{free_row, row_after}
use Rattle.stock_board_flat.specs.Flat.{stored_at}
use Rattle.stock_board_flat.specs.Steps.{flat, trade_in, with_trade, row_in}
use Rattle.stock_board_flat.proofs.StoreLaws.{keeps-hidden, row-by-trade, trade-of}
use Rattle.stock_board_flat.proofs.keeping.put_taken.Goals as goal

pub put_trade-requires : goal.put_trade-requires
put_trade-requires c =
    let hidden : (c.args.m.levels ≡ NotShown) × (c.args.p.new ≡ false) = keeps-hidden c.args.m.levels c.args.p.new (sym c.keeps.ensures ∙ c.if-keeps.true) in
    let last-is : let a = c.args in c.last_trade-last.result ≡ cond a.p.new None (trade_in (take 26 (drop (26 * a.p.at) a.cells.now))) = c.last_trade-last.ensures in
    let a = c.args in
    let own = take 26 (drop (26 * a.p.at) a.cells.now) in
    (c.requires.0, c.requires.1, hidden.0, last-is ∙ ap (λ (t : Bool). cond t None (trade_in own)) hidden.1)

pub returns-then-keeps : goal.returns-then-keeps
returns-then-keeps c =
    let hidden : (c.args.m.levels ≡ NotShown) × (c.args.p.new ≡ false) = keeps-hidden c.args.m.levels c.args.p.new (sym c.keeps.ensures ∙ c.if-keeps.true) in
    let a = c.args in
    c.put_trade.ensures ∙ ap (λ (t : Bool). stored_at (let a = c.args in flat a.heads.now a.cells.now) a.p.at (row_after (cond t free_row (row_in (let a = c.args in flat a.heads.now a.cells.now) a.p.at)) a.m)) (sym hidden.1)

pub returns : goal.returns
returns c =
    let a = c.args in
    let f = flat a.heads.now a.cells.now in
    c.put_after.ensures
    ∙ ap (stored_at f a.p.at)
    (ap (λ (t : Option Pair). row_after (with_trade t) a.m) (c.last_trade-last.ensures ∙ ap (λ (t : Option Pair). cond a.p.new None t) (trade-of (get_or f.heads a.p.at 0) (take 26 (drop (26 * a.p.at) f.cells))))
    ∙ row-by-trade (row_in f a.p.at) a.m a.m.levels a.p.new refl (sym c.keeps.ensures ∙ c.if-keeps.false))
