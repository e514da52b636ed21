-- `quote_of` meets its contract: each number is where its own call found it.
use Rattle.stock_quotes_numbers.proofs.quote_of.Goals as goal

pub returns : goal.returns
returns c =
    simp (
      c.from_byte.ensures,
      c.byte_at-4.ensures,
      c.amount_at.ensures,
      c.byte_at-3.ensures,
      c.byte_at-2.ensures,
      c.byte_at.ensures,
      c.pair_at-10.ensures,
      c.pair_at-9.ensures,
      c.pair_at-8.ensures,
      c.pair_at-7.ensures,
      c.pair_at-6.ensures,
      c.pair_at-5.ensures,
      c.pair_at-4.ensures,
      c.pair_at-3.ensures,
      c.pair_at-2.ensures,
      c.pair_at.ensures,
      c.pair_at-trade.ensures,
      c.code_at-code.ensures,
    )
