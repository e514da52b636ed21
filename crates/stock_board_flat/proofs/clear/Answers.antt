-- `clear` meets its contract.
use mathlib.Core.Path.{sym, ◌∙◌}
use Rattle.stock_board_flat.specs.Steps.{flat}
use Rattle.stock_board_flat.proofs.CallLaws.{cleared-not, cleared-all}
use Rattle.stock_board_flat.proofs.clear.Goals as goal

pub returns : goal.returns
returns c = let both = cleared-not (let a = c.args in flat a.heads.now a.cells.now) (sym c.is_whole.ensures ∙ c.if-is_whole.false) in record { value = both.0; cells_after = both.1 }

pub returns-then-is_whole : goal.returns-then-is_whole
returns-then-is_whole c =
    let both = cleared-all (let a = c.args in flat a.heads.now a.cells.now) (sym c.is_whole.ensures ∙ c.if-is_whole.true) c.fill.new.self c.fill-then-is_whole.new.self
    (c.fill.ensures.after (λ y e. e)) (c.fill-then-is_whole.ensures.after (λ y e. e)) in record { value = both.0; cells_after = both.1 }
