-- The ten slots of prices as numbers and bytes, and back.
use Rattle.std.specs.Prelude.{ℕ, zero, suc, ◌+◌, ◌*◌, List, [], ◌∷◌, ◌++◌, map, get_or}
use Rattle.amounts.specs.Amounts.{as_price, as_quantity}
use Rattle.codes_times.specs.Times.{code_at}
use Rattle.stock_prices.specs.Prices.{slot_count}
use Rattle.stock_prices.specs.declared.Slot.{Slot}
use Rattle.stock_prices.specs.declared.Prices.{Prices}

-- what each slot tells, one slot after the other
abbrev pub spread : (Slot → List ℕ) → List Slot → List ℕ
spread f [] = []
spread f (s ∷ ss) = f s ++ spread f ss

-- a slot's code; its opening, highest, lowest and last price and its total
abbrev pub code_in : Slot → List ℕ
code_in s = s.code

abbrev pub amounts_in : Slot → List ℕ
amounts_in s = s.opening.0 ∷ s.highest.0 ∷ s.lowest.0 ∷ s.last.0 ∷ s.total.0 ∷ []

-- of all slots: six bytes a slot, five amounts a slot, a time a slot
abbrev pub slot_codes : List Slot → List ℕ
slot_codes ss = spread code_in ss

abbrev pub slot_amounts : List Slot → List ℕ
slot_amounts ss = spread amounts_in ss

abbrev pub slot_times : List Slot → List ℕ
slot_times ss = map (λ (s : Slot). s.time) ss

-- the slot at a place of such lists, and k slots from a place on
abbrev pub slot_in : List ℕ → List ℕ → List ℕ → ℕ → Slot
slot_in codes amounts times i = record {
  code = code_at codes (6 * i);
  opening = as_price (get_or amounts (5 * i) 0);
  highest = as_price (get_or amounts (5 * i + 1) 0);
  lowest = as_price (get_or amounts (5 * i + 2) 0);
  last = as_price (get_or amounts (5 * i + 3) 0);
  total = as_quantity (get_or amounts (5 * i + 4) 0);
  time = get_or times i 0;
}

abbrev pub slots_in : List ℕ → List ℕ → List ℕ → ℕ → ℕ → List Slot
slots_in codes amounts times zero i = []
slots_in codes amounts times (suc k) i = slot_in codes amounts times i ∷ slots_in codes amounts times k (suc i)

-- the prices of a number, a count and such lists
abbrev pub prices_from : ℕ → ℕ → List ℕ → List ℕ → List ℕ → Prices
prices_from seq count codes amounts times = record { seq = seq; count = count; slots = slots_in codes amounts times slot_count 0 }
