-- Quotes as numbers and bytes, and back.
use Rattle.std.specs.Prelude.{ℕ, zero, suc, ◌+◌, List, [], ◌∷◌, ◌++◌, get_or}
use Rattle.amounts.specs.Amounts.{as_quantity}
use Rattle.amounts.specs.declared.Pair.{Pair}
use Rattle.codes_times.specs.Times.{code_at}
use Rattle.stock_quotes.specs.Reveal.{levels_of, side_room}
use Rattle.stock_quotes.specs.Quotes.{pair, flat}
use Rattle.stock_quotes.specs.declared.Quote.{Quote}

-- a quote's code, reveal, limit and status bytes
abbrev pub quote_bytes : Quote → List ℕ
quote_bytes q = q.code ++ (q.reveal ∷ q.limit ∷ q.status ∷ [])

-- a quote's total, then the price and the quantity of its trade, its five bids and its five asks
abbrev pub quote_amounts : Quote → List ℕ
quote_amounts q = q.total.0 ∷ flat (q.trade ∷ (q.bids ++ q.asks))

-- the pair at a place of such amounts, and k pairs from a place on
abbrev pub pair_at : List ℕ → ℕ → Pair
pair_at amounts at = pair (get_or amounts at 0) (get_or amounts (at + 1) 0)

abbrev pub pairs_at : List ℕ → ℕ → ℕ → List Pair
pairs_at amounts zero at = []
pairs_at amounts (suc k) at = pair_at amounts at ∷ pairs_at amounts k (at + 2)

-- the quote of a number, such bytes, a time and such amounts; its levels are shown or not as its reveal byte says
abbrev pub quote_from : ℕ → List ℕ → ℕ → List ℕ → Quote
quote_from seq bytes time amounts = record {
  seq = seq;
  code = code_at bytes 0;
  time = time;
  reveal = get_or bytes 6 0;
  limit = get_or bytes 7 0;
  status = get_or bytes 8 0;
  total = as_quantity (get_or amounts 0 0);
  trade = pair_at amounts 1;
  levels = levels_of (get_or bytes 6 0);
  bids = pairs_at amounts side_room 3;
  asks = pairs_at amounts side_room 13;
}
