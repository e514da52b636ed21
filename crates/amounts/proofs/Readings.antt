-- A price, a quantity and a pair at a place, by the first byte and the halves of the others.
use Rattle.std.specs.Prelude.{None, Option, Some}
use Prim.Native.Nat.{ℕ, suc, ◌+◌, ◌*◌, ◌^◌, ◌≤◌, ◌<◌}
use mathlib.Core.Path.{◌≡◌, refl, sym, ap, ap₂, ◌∙◌}
use mathlib.Core.Bool.{Bool, true, false, cond, ◌&&◌, and_assoc}
use mathlib.Core.List.{List, ◌∷◌}
use native.Mathlib.Omega.{arith}
use lib.Dec.{leb}
use lib.ListN.{length, get_or, take, drop, length-drop}
use lib.Seq.{length-take-le}
use borrow.Author.Tests.{le-leb, lt-leb}
use Rattle.digits.specs.Packed.{good, value, good_field}
use Rattle.words.specs.Blocks.{block_of}
use Rattle.amounts.specs.Amounts.{price_digits, quantity_digits, as_price, as_quantity, price_of, pair_of, price_at, pair_at}
use Rattle.words.specs.declared.blocks.Block.{Block}
use Rattle.digits.proofs.Places.{inside, take-first}
use Rattle.digits.proofs.Values.{value-digit, good-split, even-field, odd-field}
use Rattle.amounts.specs.declared.Price.{Price}
use Rattle.amounts.specs.declared.Pair.{Pair}

-- the n bytes from a place inside are n
length_at : (n at : ℕ) (s : List ℕ) → at + n ≤ length s → length (take n (drop at s)) ≡ n
length_at n at s h = length-take-le n (drop at s) (rw length-drop (omega arith))

-- the byte at a place and the n bytes after it
abbrev first : List ℕ → ℕ → ℕ
first s at = get_or s at 0

abbrev rest : ℕ → List ℕ → ℕ → List ℕ
rest n s at = take n (drop (at + 1) s)

-- a reading of n bytes that is `yes` where its first byte is one digit and the others are good, at a place that is inside
module _ {A : Type 0} (n at : ℕ) (s : List ℕ) (h : at + suc n ≤ length s) (of : List ℕ → A) (yes no : A)
    (tested : of (first s at ∷ rest n s at) ≡ cond (leb (first s at) 9 && good (rest n s at)) yes no) where
  reads : (t : Bool) → leb (first s at) 9 && good (rest n s at) ≡ t
      → cond t yes no ≡ cond (leb (at + suc n) (length s)) (of (take (suc n) (drop at s))) no
  reads t e =
      sym (inside (suc n) at s (of (take (suc n) (drop at s))) no h ∙ ap of (take-first n at s (omega arith)) ∙ tested
      ∙ ap (λ (b : Bool). cond b yes no) e)

  first-over : 9 < first s at → no ≡ cond (leb (at + suc n) (length s)) (of (take (suc n) (drop at s))) no
  first-over l = reads false (ap (λ (b : Bool). b && good (rest n s at)) (lt-leb (first s at) 9 l))

  all-good : first s at ≤ 9 → good (rest n s at) ≡ true
      → yes ≡ cond (leb (at + suc n) (length s)) (of (take (suc n) (drop at s))) no
  all-good l g = reads true (ap₂ ◌&&◌ (le-leb (first s at) 9 l) g)

-- one digit before four bytes
five-value : (b : ℕ) (bs : List ℕ) → length bs ≡ 4 → b ≤ 9 → b * 100000000 + value bs ≡ value (b ∷ bs)
five-value b bs e l = sym (value-digit b bs l ∙ ap (λ (n : ℕ). b * 100 ^ n + value bs) e)

-- the test of a price: one digit and four bytes
price-test : (b : ℕ) (bs : List ℕ) → length bs ≡ 4 → good_field price_digits (b ∷ bs) ≡ leb b 9 && good bs
price-test b bs e = odd-field 9 b bs (ap (λ (n : ℕ). 10 * 100 ^ n) (sym e))

-- and of a quantity: four bytes
quantity-test : (bs : List ℕ) → length bs ≡ 4 → good_field quantity_digits bs ≡ good bs
quantity-test bs e = even-field 8 bs (ap (λ (n : ℕ). 100 ^ n) (sym e))

-- a price at a place, from its first byte and what the other four hold
module _ (at : ℕ) (s : List ℕ) (h : at + 5 ≤ length s) where
  four-long : length (rest 4 s at) ≡ 4
  four-long = length_at 4 (at + 1) s (omega arith)

  abbrev price-yes : Option Price
  price-yes = Some (as_price (value (first s at ∷ rest 4 s at)))

  price-tested : price_of (first s at ∷ rest 4 s at) ≡ cond (leb (first s at) 9 && good (rest 4 s at)) price-yes None
  price-tested = ap (λ (t : Bool). cond t price-yes None) (price-test (first s at) (rest 4 s at) four-long)

  pub price-over : 9 < first s at → None ≡ price_at s at
  price-over = first-over 4 at s h price_of price-yes None price-tested

  module _ {r : Block} (e : r ≡ block_of 0 (rest 4 s at)) where
    pub price-is : first s at ≤ 9 → r.good ≡ true → Some (as_price (first s at * 100000000 + r.last)) ≡ price_at s at
    price-is l g =
        ap (λ (v : ℕ). Some (as_price v)) (rw e (five-value (first s at) (rest 4 s at) four-long l))
        ∙ all-good 4 at s h price_of price-yes None price-tested l (rw e at g)

-- a pair at a place, from its first byte and what the other eight hold
module _ (at : ℕ) (s : List ℕ) (h : at + 9 ≤ length s) where
  eight-long : length (rest 8 s at) ≡ 8
  eight-long = length_at 8 (at + 1) s (omega arith)

  abbrev front : List ℕ
  front = take 4 (rest 8 s at)

  abbrev back : List ℕ
  back = drop 4 (rest 8 s at)

  front_long : length front ≡ 4
  front_long = length-take-le 4 (rest 8 s at) (omega (arith, eight-long))

  back_long : length back ≡ 4
  back_long = rw (length-drop, eight-long)

  abbrev pair-yes : Option Pair
  pair-yes = Some (record { price = as_price (value (first s at ∷ front)); quantity = as_quantity (value back) })

  pair-tested : pair_of (first s at ∷ rest 8 s at) ≡ cond (leb (first s at) 9 && good (rest 8 s at)) pair-yes None
  pair-tested =
      ap (λ (t : Bool). cond t pair-yes None)
      (ap₂ ◌&&◌ (price-test (first s at) front front_long) (quantity-test back back_long)
      ∙ and_assoc (leb (first s at) 9) (good front) (good back)
      ∙ ap (λ (t : Bool). leb (first s at) 9 && t) (good-split 4 (rest 8 s at)))

  pub pair-over : 9 < first s at → None ≡ pair_at s at
  pair-over = first-over 8 at s h pair_of pair-yes None pair-tested

  module _ {r : Block} (e : r ≡ block_of 4 (rest 8 s at)) where
    pub pair_is : first s at ≤ 9 → r.good ≡ true
        → Some (record { price = as_price (first s at * 100000000 + r.first); quantity = as_quantity r.last }) ≡ pair_at s at
    pair_is l g =
        ap₂ (λ (v w : ℕ). Some (record { price = as_price v; quantity = as_quantity w })) (rw e (five-value (first s at) front front_long l)) (rw e refl)
        ∙ all-good 8 at s h pair_of pair-yes None pair-tested l (rw e at g)
