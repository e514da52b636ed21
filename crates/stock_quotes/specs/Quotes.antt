-- Format six, version 04, 32 to 131 bytes: code 6, time 6, reveal, limit and status byte, total quantity 4, then pairs of price 5 and quantity 4.
use Rattle.std.specs.Prelude.{ℕ, zero, suc, ◌-◌, ◌%◌, ◌≡◌, Bool, cond, ◌&&◌, List, [], ◌∷◌, ◌++◌, length, get_or, take, drop, replicate, eqb}
use Rattle.amounts.specs.Amounts.{as_price, as_quantity}
use Rattle.amounts.specs.declared.Pair.{Pair}
use Rattle.layout.specs.Cells.{Cell, raw, digits, size, decode}
use Rattle.layout.specs.Checks.{first_fail}
use Rattle.stock_frame.specs.Format.{Format, values_of, body_checks, body_answer}
use Rattle.codes_times.specs.Times.{time_of_day, nines, every, code_right, zero_code}
use Rattle.stock_frame.specs.Codec.{Codec}
use Rattle.stock_quotes.specs.declared.Levels.TheVariants.{Shown, NotShown}
use Rattle.stock_quotes.specs.declared.Quote.{Quote}
use Rattle.stock_quotes.specs.declared.QuoteReading.{QuoteReading}
use Rattle.stock_quotes.specs.declared.Reveal.{Reveal}
use Rattle.stock_quotes.specs.Reveal.{levels_of, levels_bit, revealed, side_room, levels_right, pair_count}

-- n pairs of a price and a quantity
unfoldable pub pair_cells : ℕ → List Cell
pair_cells zero = []
pair_cells (suc n) = digits 9 ∷ digits 8 ∷ pair_cells n

-- code, time, reveal, limit, status, total quantity, pairs
abbrev pub six_cells : ℕ → List Cell
six_cells n = raw ∷ raw ∷ raw ∷ raw ∷ raw ∷ raw ∷ digits 12 ∷ raw ∷ raw ∷ raw ∷ digits 8 ∷ pair_cells n

-- check 9: the length that a reveal byte dictates
abbrev pub body_length : ℕ → ℕ
body_length reveal = size (six_cells (pair_count (revealed reveal)))

-- the numbers in a body by their names
abbrev pub code_of : List ℕ → List ℕ
code_of vs = take 6 vs

abbrev pub time_of : List ℕ → ℕ
time_of vs = get_or vs 6 0

abbrev pub reveal_of : List ℕ → ℕ
reveal_of vs = get_or vs 7 0

-- check 10: what the reveal byte shows
abbrev pub six_levels : List ℕ → Bool
six_levels vs = levels_right (revealed (reveal_of vs))

-- check 12: all nines stand exactly with code `000000`, the day's last frame; else a time of day
abbrev pub quote_timed : List ℕ → ℕ → Bool
quote_timed code time = cond (zero_code code) (eqb time (nines 6)) (time_of_day 6 time)

abbrev pub six_timed : List ℕ → Bool
six_timed vs = quote_timed (code_of vs) (time_of vs)

-- check 13: the code's bytes
abbrev pub six_ruled : List ℕ → Bool
six_ruled vs = code_right (code_of vs)

-- the reveal byte's place in a body
abbrev pub reveal_place : ℕ
reveal_place = 12

abbrev pub six : Format
six = record {
  number = 6;
  version = 4;
  least = 32;
  most = 131;
  cells = λ b. six_cells (pair_count (revealed (get_or b reveal_place 0)));
  levels = six_levels;
  timed = six_timed;
  ruled = six_ruled;
}

-- a pair of numbers, the pairs of a list of numbers, and back
abbrev pub pair : ℕ → ℕ → Pair
pair p q = record { price = as_price p; quantity = as_quantity q }

abbrev pub no_pair : Pair
no_pair = pair 0 0

abbrev pub pairs_of : List ℕ → List Pair
pairs_of [] = []
pairs_of (p ∷ []) = []
pairs_of (p ∷ q ∷ vs) = pair p q ∷ pairs_of vs

abbrev pub flat : List Pair → List ℕ
flat [] = []
flat (x ∷ xs) = x.price.0 ∷ x.quantity.0 ∷ flat xs

-- the pairs that n cells of pairs hold
abbrev pub pairs_in : ℕ → List ℕ → List Pair
pairs_in n bs = pairs_of (decode (pair_cells n) bs)

-- the levels of a side, best first, and zeros up to its room
abbrev pub padded : List Pair → List Pair
padded l = l ++ replicate (side_room - length l) no_pair

-- the three parts of a frame's pairs, in the order trade, bids, asks
abbrev pub trade_part : Reveal → List Pair → List Pair
trade_part r ps = take r.trades ps

abbrev pub bid_part : Reveal → List Pair → List Pair
bid_part r ps = take r.bids (drop r.trades ps)

abbrev pub ask_part : Reveal → List Pair → List Pair
ask_part r ps = take r.asks (drop r.bids (drop r.trades ps))

-- the message
abbrev pub quote_of : ℕ → List ℕ → Quote
quote_of seq vs =
    let r = revealed (reveal_of vs) in
    let ps = pairs_of (drop 11 vs) in
    record {
      seq = seq;
      code = code_of vs;
      time = time_of vs;
      reveal = reveal_of vs;
      limit = get_or vs 8 0;
      status = get_or vs 9 0;
      total = as_quantity (get_or vs 10 0);
      trade = get_or (trade_part r ps) 0 no_pair;
      levels = r.levels;
      bids = padded (bid_part r ps);
      asks = padded (ask_part r ps);
    }

-- the pairs that a message uses, and its numbers
abbrev pub used_pairs : Quote → List Pair
used_pairs m =
    let r = revealed m.reveal in
    take r.trades (m.trade ∷ []) ++ (take r.bids m.bids ++ take r.asks m.asks)

abbrev pub quote_values : Quote → List ℕ
quote_values m = m.code ++ (m.time ∷ m.reveal ∷ m.limit ∷ m.status ∷ m.total.0 ∷ flat (used_pairs m))

-- the unused pairs are zero, and the levels are shown or not as the reveal byte says
abbrev pub zero_pairs : List Pair → Bool
zero_pairs ps = every (eqb 0) (flat ps)

abbrev pub same_levels : Quote → Bool
same_levels m = eqb (levels_bit m.levels) (m.reveal % 2)

abbrev pub tidy_quote : Quote → Bool
tidy_quote m =
    let r = revealed m.reveal in
    zero_pairs (drop r.trades (m.trade ∷ []))
    && (zero_pairs (drop r.bids m.bids) && (zero_pairs (drop r.asks m.asks) && same_levels m))

abbrev pub six_codec : Codec Quote
six_codec = record {
  form = six;
  seq = λ m. m.seq;
  cells = λ m. six_cells (pair_count (revealed m.reveal));
  values = quote_values;
  tidy = tidy_quote;
  message = quote_of;
}

-- a message's arrays have their lengths
pub record ShapedQuote (m : Quote) : Type 0 where
  pub code-long : length m.code ≡ 6
  pub bids-long : length m.bids ≡ side_room
  pub asks-long : length m.asks ≡ side_room

-- what a quote says of its levels: what bit 0 of its reveal byte says, and where they are not shown that there are none of either side
pub record LevelsSaid (m : Quote) : Type 0 where
  pub as-revealed : levels_of m.reveal ≡ m.levels
  pub no-bids : m.levels ≡ NotShown → ((revealed m.reveal).bids ≡ 0) × (m.bids ≡ replicate side_room no_pair)
  pub no-asks : m.levels ≡ NotShown → ((revealed m.reveal).asks ≡ 0) × (m.asks ≡ replicate side_room no_pair)

-- the empty quote, which stands beside a refusal
abbrev pub no_quote : Quote
no_quote = record {
  seq = 0;
  code = replicate 6 0;
  time = 0;
  reveal = 0;
  limit = 0;
  status = 0;
  total = as_quantity 0;
  trade = no_pair;
  levels = Shown;
  bids = replicate side_room no_pair;
  asks = replicate side_room no_pair;
}

unfoldable pub quote_reading : ℕ → List ℕ → QuoteReading
quote_reading seq b = record {
  answer = body_answer six seq b;
  quote = cond (eqb (first_fail (body_checks six b)) 0) (quote_of seq (values_of six b)) no_quote;
}
