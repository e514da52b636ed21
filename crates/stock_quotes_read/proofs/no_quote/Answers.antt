-- `no_quote` meets its contract.
use mathlib.Core.Path.{ap}
use Rattle.stock_quotes.specs.declared.Quote.{Quote}
use Rattle.stock_quotes_read.proofs.no_quote.Goals as goal

pub returns : goal.returns
returns c = ap (λ (m : Quote). record { answer = c.args.answer; quote = m }) c.empty-quote.ensures
