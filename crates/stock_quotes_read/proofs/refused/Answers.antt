-- `refused` meets its contract.
use Rattle.stock_quotes_read.proofs.refused.Goals as goal

pub returns : goal.returns
returns c = rw c.empty-quote.ensures
