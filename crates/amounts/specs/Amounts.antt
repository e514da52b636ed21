-- Prices in ten-thousandths, 9(5)V9(4), and quantities in trading units, 9(8), at a place in some bytes; and index values in thousandths, 9(5)V999.
use Rattle.std.specs.Prelude.{ℕ, ◌+◌, cond, ◌&&◌, List, length, take, drop, leb, None, Option, Some}
use Rattle.digits.specs.Packed.{good_field, value}
use Rattle.amounts.specs.declared.Price.{Price}
use Rattle.amounts.specs.declared.Quantity.{Quantity}
use Rattle.amounts.specs.declared.Thousandths.{Thousandths}
use Rattle.amounts.specs.declared.Pair.{Pair}

-- the digits of a price and of a quantity, with the point left out
abbrev pub price_digits : ℕ
price_digits = 9

abbrev pub quantity_digits : ℕ
quantity_digits = 8

-- an amount as its type, whose one field is the number
abbrev pub as_price : ℕ → Price
as_price n = record { 0 = n }

abbrev pub as_quantity : ℕ → Quantity
as_quantity n = record { 0 = n }

abbrev pub as_thousandths : ℕ → Thousandths
as_thousandths n = record { 0 = n }

abbrev pub price_of : List ℕ → Option Price
price_of bs = cond (good_field price_digits bs) (Some (as_price (value bs))) None

abbrev pub quantity_of : List ℕ → Option Quantity
quantity_of bs = cond (good_field quantity_digits bs) (Some (as_quantity (value bs))) None

-- five bytes of price, then four of quantity
abbrev pub pair_of : List ℕ → Option Pair
pair_of bs =
    cond (good_field price_digits (take 5 bs) && good_field quantity_digits (drop 5 bs))
    (Some (record { price = as_price (value (take 5 bs)); quantity = as_quantity (value (drop 5 bs)) }))
    None

-- the same at a place; bytes that run past the end are no amount
abbrev pub price_at : List ℕ → ℕ → Option Price
price_at s at = cond (leb (at + 5) (length s)) (price_of (take 5 (drop at s))) None

abbrev pub quantity_at : List ℕ → ℕ → Option Quantity
quantity_at s at = cond (leb (at + 4) (length s)) (quantity_of (take 4 (drop at s))) None

abbrev pub pair_at : List ℕ → ℕ → Option Pair
pair_at s at = cond (leb (at + 9) (length s)) (pair_of (take 9 (drop at s))) None
