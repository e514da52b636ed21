-- `body_length` meets its contract.
use Rattle.stock_quotes.proofs.PairLaws.{length-dictated}
use Rattle.stock_quotes.proofs.body_length.Goals as goal

pub returns : goal.returns
returns c = length-dictated c.from_byte-shown.result c.args.reveal c.from_byte-shown.ensures
