-- `pair_at` meets its contract.
use Rattle.stock_quotes_numbers.proofs.pair_at.Goals as goal

pub returns : goal.returns
returns c = rw (c.amount_at-2.ensures, c.amount_at.ensures)
