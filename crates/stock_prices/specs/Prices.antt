-- Format twelve, version 03, 374 bytes: a count 1 to 10, then ten slots of 36 bytes.
use Rattle.std.specs.Prelude.{ℕ, zero, suc, ◌+◌, ◌-◌, ◌*◌, ◌≡◌, Bool, true, false, cond, ◌&&◌, ◌||◌, List, [], ◌∷◌, ◌++◌, length, get_or, take, drop, replicate, eqb, leb, ltb}
use Rattle.amounts.specs.Amounts.{as_price, as_quantity}
use Rattle.layout.specs.Cells.{Cell, raw, digits}
use Rattle.layout.specs.Checks.{first_fail}
use Rattle.stock_frame.specs.Format.{Format, values_of, body_checks, body_answer}
use Rattle.codes_times.specs.Times.{time_of_day, nines, every, code_right}
use Rattle.stock_frame.specs.Codec.{Codec}
use Rattle.stock_prices.specs.declared.Slot.{Slot}
use Rattle.stock_prices.specs.declared.Prices.{Prices}
use Rattle.stock_prices.specs.declared.PricesReading.{PricesReading}

-- code 6, opening, highest, lowest and last price, total quantity, time
abbrev pub slot_cells : List Cell
slot_cells = raw ∷ raw ∷ raw ∷ raw ∷ raw ∷ raw ∷ digits 9 ∷ digits 9 ∷ digits 9 ∷ digits 9 ∷ digits 8 ∷ digits 12 ∷ []

-- n slots
unfoldable pub slots_cells : ℕ → List Cell
slots_cells zero = []
slots_cells (suc n) = slot_cells ++ slots_cells n

abbrev pub slot_count : ℕ
slot_count = 10

abbrev pub twelve_cells : List Cell
twelve_cells = digits 2 ∷ slots_cells slot_count

-- the numbers of one slot by their names
abbrev pub slot_size : ℕ
slot_size = 12

abbrev pub slot_code : List ℕ → List ℕ
slot_code vs = take 6 vs

abbrev pub slot_time : List ℕ → ℕ
slot_time vs = get_or vs 11 0

-- a time of day; in a counted slot also all nines, the closing price
abbrev pub time_right : Bool → ℕ → Bool
time_right counted t = time_of_day 6 t || (counted && eqb t (nines 6))

-- the same of a time's hours and minutes and the eight digits behind them
abbrev pub parts_right : Bool → ℕ → ℕ → Bool
parts_right counted hhmm rest = ltb rest 100000000 && time_right counted (hhmm * 100000000 + rest)

abbrev pub slot_timed : Bool → List ℕ → Bool
slot_timed counted vs = time_right counted (slot_time vs)

-- in a counted slot the code's bytes are right; after the count there are six spaces and zeros
abbrev pub slot_ruled : Bool → List ℕ → Bool
slot_ruled true vs = code_right (slot_code vs)
slot_ruled false vs = every (eqb 32) (slot_code vs) && every (eqb 0) (take 6 (drop 6 vs))

-- k slots, of which the first n are counted, pass a test of the slot
abbrev pub slots_pass : (Bool → List ℕ → Bool) → ℕ → ℕ → List ℕ → Bool
slots_pass p zero n vs = true
slots_pass p (suc k) n vs = p (leb 1 n) (take slot_size vs) && slots_pass p k (n - 1) (drop slot_size vs)

-- check 12, for all ten slots
abbrev pub twelve_timed : List ℕ → Bool
twelve_timed vs = slots_pass slot_timed slot_count (get_or vs 0 0) (drop 1 vs)

-- check 13: the count, and every slot
abbrev pub twelve_ruled : List ℕ → Bool
twelve_ruled vs = (leb 1 (get_or vs 0 0) && leb (get_or vs 0 0) slot_count) && slots_pass slot_ruled slot_count (get_or vs 0 0) (drop 1 vs)

abbrev pub twelve : Format
twelve = record {
  number = 12;
  version = 3;
  least = 374;
  most = 374;
  cells = λ b. twelve_cells;
  levels = λ vs. true;
  timed = twelve_timed;
  ruled = twelve_ruled;
}

-- the message of a slot's numbers, and of k slots
abbrev pub slot_of : List ℕ → Slot
slot_of vs = record {
  code = slot_code vs;
  opening = as_price (get_or vs 6 0);
  highest = as_price (get_or vs 7 0);
  lowest = as_price (get_or vs 8 0);
  last = as_price (get_or vs 9 0);
  total = as_quantity (get_or vs 10 0);
  time = slot_time vs;
}

abbrev pub slots_of : ℕ → List ℕ → List Slot
slots_of zero vs = []
slots_of (suc k) vs = slot_of (take slot_size vs) ∷ slots_of k (drop slot_size vs)

abbrev pub prices_of : ℕ → List ℕ → Prices
prices_of seq vs = record { seq = seq; count = get_or vs 0 0; slots = slots_of slot_count (drop 1 vs) }

-- the numbers of a slot, and of the message
abbrev pub slot_values : Slot → List ℕ
slot_values s = s.code ++ (s.opening.0 ∷ s.highest.0 ∷ s.lowest.0 ∷ s.last.0 ∷ s.total.0 ∷ s.time ∷ [])

abbrev pub slots_values : List Slot → List ℕ
slots_values [] = []
slots_values (s ∷ ss) = slot_values s ++ slots_values ss

abbrev pub prices_values : Prices → List ℕ
prices_values m = m.count ∷ slots_values m.slots

abbrev pub twelve_codec : Codec Prices
twelve_codec = record {
  form = twelve;
  seq = λ m. m.seq;
  cells = λ m. twelve_cells;
  values = prices_values;
  tidy = λ m. true;
  message = prices_of;
}

-- a message's arrays have their lengths
abbrev pub codes_long : List Slot → Type 0
codes_long [] = Unit {0}
codes_long (s ∷ ss) = (length s.code ≡ 6) × codes_long ss

pub record ShapedPrices (m : Prices) : Type 0 where
  pub slots-long : length m.slots ≡ slot_count
  pub codes-long : codes_long m.slots

-- the empty prices, which stand beside a refusal
abbrev pub no_slot : Slot
no_slot = record {
  code = replicate 6 0;
  opening = as_price 0;
  highest = as_price 0;
  lowest = as_price 0;
  last = as_price 0;
  total = as_quantity 0;
  time = 0;
}

abbrev pub no_prices : Prices
no_prices = record { seq = 0; count = 0; slots = replicate slot_count no_slot }

-- what reading a body finds
unfoldable pub prices_reading : ℕ → List ℕ → PricesReading
prices_reading seq b = record {
  answer = body_answer twelve seq b;
  prices = cond (eqb (first_fail (body_checks twelve b)) 0) (prices_of seq (values_of twelve b)) no_prices;
}
