-- `finding::in_block` meets its contract.
use mathlib.Core.Path.{sym, ◌∙◌}
use Rattle.stock_board_flat.proofs.FindLaws.{near_none}
use Rattle.stock_board_flat.proofs.finding.in_block.Goals as goal

pub returns-then-count_near-eq0 : goal.returns-then-count_near-eq0
returns-then-count_near-eq0 c = near_none c.args.code c.args.heads.now (sym c.count_near.ensures ∙ c.if-count_near-eq0.true)
