-- What the functions of reading hand on to each other.
use Rattle.std.specs.Prelude.{ℕ, ◌+◌, Bool, cond, ◌&&◌, List, take, drop, leb, None, Option, Some}
use Rattle.digits.specs.Packed.{good_field, value}
use Rattle.amounts.specs.Amounts.{as_price, as_quantity}
use Rattle.answers.specs.declared.Answer.{Answer}
use Rattle.stock_prices.specs.declared.Slot.{Slot}
use Rattle.stock_prices.specs.declared.PricesReading.{PricesReading}
use Rattle.stock_prices.specs.Prices.{no_prices}
use Rattle.stock_prices_read.specs.declared.slots.Figures.{Figures}

-- a refusal by its number
abbrev pub refusal : ℕ → ℕ → PricesReading
refusal n length = record { answer = Answer.Refused n length None; prices = no_prices }

-- an answer that has no prices
abbrev pub without_prices : Answer → PricesReading
without_prices a = record { answer = a; prices = no_prices }

-- an accepted body: the frame's own length is 374
abbrev pub acceptance : ℕ → ℕ → List Slot → PricesReading
acceptance seq count slots = record {
  answer = Answer.Accepted (record { format = 12; seq = seq; length = 374 });
  prices = record { seq = seq; count = count; slots = slots };
}

-- the prices and the total of the slot at a place
abbrev pub figures_good : List ℕ → ℕ → Bool
figures_good b at = good_field 9 (take 5 (drop (at + 6) b)) && (good_field 9 (take 5 (drop (at + 11) b)) && (good_field 9 (take 5 (drop (at + 16) b))
    && (good_field 9 (take 5 (drop (at + 21) b)) && good_field 8 (take 4 (drop (at + 26) b)))))

abbrev pub figures_of : List ℕ → ℕ → Figures
figures_of b at = record {
  opening = as_price (value (take 5 (drop (at + 6) b)));
  highest = as_price (value (take 5 (drop (at + 11) b)));
  lowest = as_price (value (take 5 (drop (at + 16) b)));
  pair = record { price = as_price (value (take 5 (drop (at + 21) b))); quantity = as_quantity (value (take 4 (drop (at + 26) b))) };
}

abbrev pub figures_at : List ℕ → ℕ → Option Figures
figures_at b at = cond (figures_good b at) (Some (figures_of b at)) None

-- the check that fails first behind the digits, or 0: the slots' times, the count and the slots' fields
abbrev pub row_of : Bool → ℕ → Bool → ℕ
row_of timed n ruled = cond timed (cond ((leb 1 n && leb n 10) && ruled) 0 13) 12
