-- A slot read out of bytes: what each field's call tells of its bytes, and what the fields tell of the slot.
use Rattle.std.specs.Prelude.{Option, None, Some}
use Prim.Native.Nat.{ℕ, ◌+◌, ◌*◌, ◌^◌, ◌≤◌, ◌<◌}
use mathlib.Core.Path.{◌≡◌, refl, sym, ap, ap₂, ◌∙◌}
use mathlib.Core.Bool.{Bool, true, false, cond, ◌&&◌, and-true}
use mathlib.Core.List.{List, ◌++◌}
use native.Mathlib.Omega.{arith}
use lib.ListN.{length, take, drop, length-drop}
use lib.Seq.{drop-drop, take-add, take_at, drop_at, length-take-le}
use borrow.Author.Tests.{lt-ltb}
use Rattle.digits.specs.Packed.{good, good_field, value}
use Rattle.amounts.specs.Amounts.{as_price, as_quantity, price_at, pair_at, price_of, pair_of}
use Rattle.words.specs.Blocks.{block_at, block_of, no_block}
use Rattle.amounts.specs.declared.Price.{Price}
use Rattle.amounts.specs.declared.Pair.{Pair}
use Rattle.words.specs.declared.blocks.Block.{Block}
use Rattle.digits.proofs.Bools.{and_right}
use Rattle.digits.proofs.Places.{inside}
use Rattle.digits.proofs.PackedLaws.{value-lt, value-parts}
use Rattle.digits.proofs.Values.{good-split, even-field}
use Rattle.layout.specs.Cells.{good_cells, decode}
use Rattle.layout.proofs.CellLaws.{length-decode}
use Rattle.layout.proofs.RawLaws.{good-raws, decode-raws}
use Rattle.stock_prices.specs.declared.Slot.{Slot}
use Rattle.stock_prices.specs.Prices.{slot_cells, slot_of, slot_values, slot_timed, slot_ruled, time_right, parts_right}
use Rattle.stock_prices.proofs.PriceLaws.{amount_cells, slot-made, slot_values-of}
use Rattle.stock_prices_read.specs.declared.slots.Figures.{Figures}
use Rattle.stock_prices_read.specs.Steps.{figures_good, figures_of, figures_at}

-- the n bytes from a place
abbrev pub part : ℕ → List ℕ → ℕ → List ℕ
part n s at = take n (drop at s)

length_part : (n : ℕ) (s : List ℕ) (at : ℕ) → at + n ≤ length s → length (part n s at) ≡ n
length_part n s at h = length-take-le n (drop at s) (rw length-drop (omega arith))

-- ---- what a field's call gives
price_in : (s : List ℕ) (at : ℕ) → at + 5 ≤ length s → price_at s at ≡ cond (good_field 9 (part 5 s at)) (Some (as_price (value (part 5 s at)))) None
price_in s at h = inside 5 at s (price_of (part 5 s at)) None h

-- a price and a quantity behind it, at its own place
module _ (s : List ℕ) (at q : ℕ) (e : at + 5 ≡ q) (h : at + 9 ≤ length s) where
  abbrev pair-good : Bool
  pair-good = good_field 9 (part 5 s at) && good_field 8 (part 4 s q)

  abbrev pair-yes : Pair
  pair-yes = record { price = as_price (value (part 5 s at)); quantity = as_quantity (value (part 4 s q)) }

  pair_parts : part 9 s at ≡ part 5 s at ++ part 4 s q
  pair_parts = take-add 5 4 (drop at s) ∙ ap (λ (l : List ℕ). part 5 s at ++ take 4 l) (drop-drop 5 at s ∙ ap (λ (k : ℕ). drop k s) e)

  pair-in : pair_at s at ≡ cond pair-good (Some pair-yes) None
  pair-in =
      let l : length (part 5 s at) ≡ 5 = length_part 5 s at (omega arith) in
      inside 9 at s (pair_of (part 9 s at)) None h
      ∙ ap pair_of pair_parts
      ∙ ap₂ (λ (x y : List ℕ). cond (good_field 9 x && good_field 8 y) (Some (record { price = as_price (value x); quantity = as_quantity (value y) })) None)
      (take_at (part 5 s at) (part 4 s q) 5 l) (drop_at (part 5 s at) (part 4 s q) 5 l)

value-halves : (bs : List ℕ) → length bs ≡ 6 → value (take 2 bs) * 100000000 + value (drop 2 bs) ≡ value bs
value-halves bs l =
    let n : length (drop 2 bs) ≡ 4 = length-drop 2 bs ∙ omega arith in
    sym (value-parts 2 bs ∙ ap (λ (k : ℕ). value (take 2 bs) * 100 ^ k + value (drop 2 bs)) n)

module _ (s : List ℕ) (at : ℕ) (h : at + 6 ≤ length s) where
  halves_in : block_at 6 2 s at ≡ block_of 2 (part 6 s at)
  halves_in = inside 6 at s (block_of 2 (part 6 s at)) no_block h

  pub time-good : (block_at 6 2 s at).good ≡ good_field 12 (part 6 s at)
  time-good = ap (λ (x : Block). x.good) halves_in ∙ sym (even-field 12 (part 6 s at) (ap (λ (k : ℕ). 100 ^ k) (sym (length_part 6 s at h))))

  pub time-fits : (block_at 6 2 s at).good ≡ true → (block_at 6 2 s at).last < 100000000
  time-fits g =
      let bs = part 6 s at in
      let good-bs : good bs ≡ true = sym (ap (λ (x : Block). x.good) halves_in) ∙ g in
      let n : length (drop 2 bs) ≡ 4 = length-drop 2 bs ∙ omega (arith, length_part 6 s at h) in
      rw halves_in (rw n at (value-lt (drop 2 bs) (and_right (good (take 2 bs)) (good (drop 2 bs)) (good-split 2 bs ∙ good-bs))))

  pub time-value : (block_at 6 2 s at).first * 100000000 + (block_at 6 2 s at).last ≡ value (part 6 s at)
  time-value = ap (λ (x : Block). x.first * 100000000 + x.last) halves_in ∙ value-halves (part 6 s at) (length_part 6 s at h)

-- ---- a slot's fields at a place
regroup : (a b c d e f : Bool) → (a && (b && (c && (d && (e && (f && true)))))) ≡ ((a && (b && (c && (d && e)))) && f)
regroup false b c d e f = refl
regroup true false c d e f = refl
regroup true true false d e f = refl
regroup true true true false e f = refl
regroup true true true true false f = refl
regroup true true true true true f = and-true f

module _ (s : List ℕ) (at : ℕ) where
  -- a place further on
  on : (k n m : ℕ) {l : List ℕ} → l ≡ drop (at + n) s → at + n + k ≡ at + m → drop k l ≡ drop (at + m) s
  on k n m e q = ap (drop k) e ∙ drop-drop k (at + n) s ∙ ap (λ (j : ℕ). drop j s) q

  at6 : drop 6 (drop at s) ≡ drop (at + 6) s
  at6 = drop-drop 6 at s

  at11 : drop 5 (drop 6 (drop at s)) ≡ drop (at + 11) s
  at11 = on 5 6 11 at6 (omega arith)

  at16 : drop 5 (drop 5 (drop 6 (drop at s))) ≡ drop (at + 16) s
  at16 = on 5 11 16 at11 (omega arith)

  at21 : drop 5 (drop 5 (drop 5 (drop 6 (drop at s)))) ≡ drop (at + 21) s
  at21 = on 5 16 21 at16 (omega arith)

  at26 : drop 5 (drop 5 (drop 5 (drop 5 (drop 6 (drop at s))))) ≡ drop (at + 26) s
  at26 = on 5 21 26 at21 (omega arith)

  at30 : drop 4 (drop 5 (drop 5 (drop 5 (drop 5 (drop 6 (drop at s)))))) ≡ drop (at + 30) s
  at30 = on 4 26 30 at26 (omega arith)

  pub slot-good : good_cells slot_cells (drop at s) ≡ (figures_good s at && good_field 12 (part 6 s (at + 30)))
  slot-good =
      good-raws 6 amount_cells (drop at s)
      ∙ rw (at30, at26, at21, at16, at11, at6)
      (regroup (good_field 9 (part 5 s (at + 6))) (good_field 9 (part 5 s (at + 11))) (good_field 9 (part 5 s (at + 16)))
      (good_field 9 (part 5 s (at + 21))) (good_field 8 (part 4 s (at + 26))) (good_field 12 (part 6 s (at + 30))))

  pub slot-values : at + 36 ≤ length s → slot_of (decode slot_cells (drop at s))
      ≡ record {
        code = part 6 s at;
        opening = as_price (value (part 5 s (at + 6)));
        highest = as_price (value (part 5 s (at + 11)));
        lowest = as_price (value (part 5 s (at + 16)));
        last = as_price (value (part 5 s (at + 21)));
        total = as_quantity (value (part 4 s (at + 26)));
        time = value (part 6 s (at + 30));
      }
  slot-values h =
      ap slot_of (decode-raws 6 amount_cells (drop at s) (rw length-drop (omega arith)))
      ∙ slot-made (part 6 s at) _ _ _ _ _ _ (length_part 6 s at (omega arith))
      ∙ rw (at30, at26, at21, at16, at11, at6)

-- ---- the prices and the total of a slot
-- what stands behind a field that is there
abbrev pub behind : {X Y : Type 0} → Option X → (X → Option Y) → Option Y
behind None f = None
behind (Some x) f = f x

-- field after field, up to the first with a bad digit
abbrev pub figures_from : Option Price → Option Price → Option Price → Option Pair → Option Figures
figures_from o h l p = behind o (λ x. behind h (λ y. behind l (λ z. behind p (λ w. Some (record { opening = x; highest = y; lowest = z; pair = w })))))

module _ (s : List ℕ) (at : ℕ) where
  pub figures_are : at + 36 ≤ length s → figures_at s at ≡ figures_from (price_at s (at + 6)) (price_at s (at + 11)) (price_at s (at + 16)) (pair_at s (at + 21))
  figures_are h =
      rw (price_in s (at + 6) (omega arith), price_in s (at + 11) (omega arith), price_in s (at + 16) (omega arith), pair-in s (at + 21) (at + 26) (omega arith) (omega arith))
      (go (good_field 9 (part 5 s (at + 6))) (good_field 9 (part 5 s (at + 11))) (good_field 9 (part 5 s (at + 16))) (pair-good s (at + 21) (at + 26) (omega arith) (omega arith)))
    where
      go : (a b c d : Bool) → cond (a && (b && (c && d))) (Some (figures_of s at)) None
          ≡ figures_from (cond a (Some (figures_of s at).opening) None) (cond b (Some (figures_of s at).highest) None) (cond c (Some (figures_of s at).lowest) None) (cond d (Some (figures_of s at).pair) None)
      go false b c d = refl
      go true false c d = refl
      go true true false d = refl
      go true true true false = refl
      go true true true true = refl

  pub figures-bad : figures_at s at ≡ None → figures_good s at ≡ false
  figures-bad e = go (figures_good s at) e
    where
      go : (t : Bool) → cond t (Some (figures_of s at)) None ≡ None → t ≡ false
      go true k = cc
      go false k = refl

  pub figures-is : (x : Figures) → figures_at s at ≡ Some x → (figures_good s at ≡ true) × (figures_of s at ≡ x)
  figures-is x e = go (figures_good s at) e
    where
      go : (t : Bool) → cond t (Some (figures_of s at)) None ≡ Some x → (t ≡ true) × (figures_of s at ≡ x)
      go true k = (refl, cc)
      go false k = (cc, cc)

-- ---- good fields make the slot, and its rules are those of its numbers
module _ (s : List ℕ) (at : ℕ) (l : at + 36 ≤ length s) where
  abbrev numbers : List ℕ
  numbers = decode slot_cells (drop at s)

  pub slot_is : (code : List ℕ) (x : Figures) (m : ℕ) → code ≡ part 6 s at → figures_of s at ≡ x → m ≡ value (part 6 s (at + 30))
      → record { code = code; opening = x.opening; highest = x.highest; lowest = x.lowest; last = x.pair.price; total = x.pair.quantity; time = m } ≡ slot_of numbers
  slot_is code x m e1 e2 e3 = rw (e1, ← e2, e3) (sym (slot-values s at l))

  module _ (counted : Bool) (slot : Slot) (e : slot ≡ slot_of numbers) where
    pub timed-is : (h r : ℕ) → r < 100000000 → h * 100000000 + r ≡ slot.time → parts_right counted h r ≡ slot_timed counted numbers
    timed-is h r f q =
        ap₂ (λ (t : Bool) (m : ℕ). t && time_right counted m) (lt-ltb r 100000000 f) q
        ∙ ap (λ (x : Slot). time_right counted x.time) e

    pub ruled-is : slot_ruled counted (slot_values slot) ≡ slot_ruled counted numbers
    ruled-is = ap (λ (x : Slot). slot_ruled counted (slot_values x)) e ∙ ap (slot_ruled counted) (slot_values-of numbers (length-decode slot_cells (drop at s)))
