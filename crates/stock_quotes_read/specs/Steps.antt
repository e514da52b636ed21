-- What the steps of reading a quote hand on to each other.
use Rattle.std.specs.Prelude.{ℕ, ◌+◌, ◌*◌, ◌≤◌, ◌≡◌, Bool, true, ◌&&◌, List, length, get_or, take, drop, None}
use Rattle.digits.specs.Packed.{good, good_field, value}
use Rattle.amounts.specs.Amounts.{as_quantity}
use Rattle.amounts.specs.declared.Pair.{Pair}
use Rattle.amounts.specs.declared.Quantity.{Quantity}
use Rattle.answers.specs.declared.Answer.{Answer}
use Rattle.answers.specs.declared.Answer.TheVariants.{Accepted, Refused}
use Rattle.stock_quotes.specs.declared.QuoteReading.{QuoteReading}
use Rattle.stock_quotes.specs.declared.Reveal.{Reveal}
use Rattle.stock_quotes.specs.Reveal.{levels_of, revealed, side_room, levels_right, pair_count}
use Rattle.stock_quotes.specs.Quotes.{no_pair, no_quote, pairs_in, padded, reveal_place}

-- a refusal with its number and the whole frame's length
abbrev pub refused_reading : ℕ → ℕ → QuoteReading
refused_reading number n = record { answer = Refused number n None; quote = no_quote }

-- the most pairs that a reveal byte can show: a trade, and five levels of each side
abbrev pub most_pairs : ℕ
most_pairs = 11

-- an answer that has no quote
abbrev pub without_quote : Answer → QuoteReading
without_quote a = record { answer = a; quote = no_quote }

-- an accepted body with what its packed fields hold
abbrev pub accepted_reading : ℕ → List ℕ → ℕ → Quantity → Pair → List Pair → List Pair → QuoteReading
accepted_reading seq b time total trade bids asks = record {
  answer = Accepted (record { format = 6; seq = seq; length = length b + 13 });
  quote = record {
    seq = seq;
    code = take 6 b;
    time = time;
    reveal = get_or b 12 0;
    limit = get_or b 13 0;
    status = get_or b 14 0;
    total = total;
    trade = trade;
    levels = levels_of (get_or b 12 0);
    bids = bids;
    asks = asks;
  };
}

-- what the reveal byte shows keeps its rule, so each side has room, and the body is as long as the pairs ask
pub record Dictated (b : List ℕ) (r : Reveal) : Type 0 where
  pub shown : r ≡ revealed (get_or b reveal_place 0)
  pub right : levels_right r ≡ true
  pub few-trades : r.trades ≤ 1
  pub few-bids : r.bids ≤ side_room
  pub few-asks : r.asks ≤ side_room
  pub as_long : length b ≡ 19 + 9 * pair_count r

-- the three parts of the pairs
pub record SidesOf (b : List ℕ) (r : Reveal) (trade : Pair) (bids asks : List Pair) : Type 0 where
  pub trade-is : trade ≡ get_or (pairs_in r.trades (drop 19 b)) 0 no_pair
  pub bids-are : bids ≡ padded (pairs_in r.bids (drop (19 + 9 * r.trades) b))
  pub asks-are : asks ≡ padded (pairs_in r.asks (drop (19 + 9 * r.trades + 9 * r.bids) b))

-- the digits of the packed fields before the pairs, and what they hold: the time by its two parts, and the total
abbrev pub fixed_good : List ℕ → Bool
fixed_good b = good (take 6 (drop 6 b)) && good_field 8 (take 4 (drop 15 b))

pub record FixedOf (b : List ℕ) (first last : ℕ) (total : Quantity) : Type 0 where
  pub time-is : first * 100000000 + last ≡ value (take 6 (drop 6 b))
  pub total-is : total ≡ as_quantity (value (take 4 (drop 15 b)))
