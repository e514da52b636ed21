-- What good digits are worth: bounds, fields of an even and of an odd number of digits.
use Prim.Native.Nat.{ℕ, zero, suc, ◌+◌, ◌*◌, ◌/◌, ◌%◌, ◌^◌, ◌≤◌, ◌<◌}
use mathlib.Core.Path.{◌≡◌, refl, ap, ap₂, ◌∙◌}
use mathlib.Core.Bool.{Bool, true, false, ◌&&◌, and_assoc, and-false}
use mathlib.Core.List.{List, [], ◌∷◌}
use native.Mathlib.Omega.{arith}
use native.Mathlib.Nat.{zero-add, le_trans, le-add_right, mul-le-mul_right}
use lib.Arith.{digits_lt}
use lib.Dec.{leb, ltb}
use lib.ListN.{length, take, drop}
use borrow.Author.Tests.{leb-true, leb-false, le-leb, lt-ltb, le-ltb}
use Rattle.digits.proofs.Bools.{and_right}
use Rattle.digits.proofs.PackedLaws.{value_from-shift, value-lt}
use Rattle.digits.specs.Packed.{good_byte, good, two, value, good_field}

-- the first byte counts by how many follow it
pub value-cons : (b : ℕ) (bs : List ℕ) → value (b ∷ bs) ≡ two b * 100 ^ length bs + value bs
value-cons b bs = value_from-shift (0 * 100 + two b) bs ∙ ap (λ (x : ℕ). x * 100 ^ length bs + value bs) (zero-add (two b))

-- the digits are good where those of both parts are
pub good-split : (k : ℕ) (bs : List ℕ) → good (take k bs) && good (drop k bs) ≡ good bs
good-split zero bs = refl
good-split (suc k) [] = refl
good-split (suc k) (b ∷ bs) =
    and_assoc (good_byte b) (good (take k bs)) (good (drop k bs)) ∙ ap (λ (t : Bool). good_byte b && t) (good-split k bs)

-- a field of an even number of digits has no other test than that of its digits
pub even-field : (d : ℕ) (bs : List ℕ) → 10 ^ d ≡ 100 ^ length bs → good_field d bs ≡ good bs
even-field d bs e = go (good bs) refl
  where
    go : (t : Bool) → good bs ≡ t → t && ltb (value bs) (10 ^ d) ≡ t
    go true h = lt-ltb (value bs) (10 ^ d) (rw e (value-lt bs h))
    go false h = refl

-- a byte that is one digit
one-digit : (b : ℕ) → b ≤ 9 → good_byte b ≡ true
one-digit b h = ap₂ ◌&&◌ (le-leb (b / 16) 9 (omega arith)) (le-leb (b % 16) 9 (omega arith))

-- a first byte that is one digit
pub value-digit : (b : ℕ) (bs : List ℕ) → b ≤ 9 → value (b ∷ bs) ≡ b * 100 ^ length bs + value bs
value-digit b bs h = value-cons b bs ∙ ap (λ (x : ℕ). x * 100 ^ length bs + value bs) (omega arith)

-- in a field of an odd number of digits the first byte is one digit
pub odd-field : (d b : ℕ) (bs : List ℕ) → 10 ^ d ≡ 10 * 100 ^ length bs → good_field d (b ∷ bs) ≡ leb b 9 && good bs
odd-field d b bs e = go (leb b 9) refl
  where
    under : b ≤ 9 → good bs ≡ true → value (b ∷ bs) < 10 ^ d
    under h g = rw (value-digit b bs h, e) (digits_lt (omega arith) (value-lt bs g))

    over : 10 ≤ two b → 10 ^ d ≤ value (b ∷ bs)
    over h = rw (value-cons b bs, e) (le_trans (mul-le-mul_right (100 ^ length bs) h) (le-add_right (two b * 100 ^ length bs) (value bs)))

    low : b ≤ 9 → (t : Bool) → good bs ≡ t → t && ltb (value (b ∷ bs)) (10 ^ d) ≡ t
    low h true g = lt-ltb (value (b ∷ bs)) (10 ^ d) (under h g)
    low h false g = refl

    high : 9 < b → (t : Bool) → good_byte b ≡ t → (t && good bs) && ltb (value (b ∷ bs)) (10 ^ d) ≡ false
    high h true g =
        ap (λ (t : Bool). good bs && t)
        (le-ltb (value (b ∷ bs)) (10 ^ d) (over (omega (arith, leb-true (b % 16) 9 (and_right (leb (b / 16) 9) (leb (b % 16) 9) g)))))
        ∙ and-false (good bs)
    high h false g = refl

    go : (t : Bool) → leb b 9 ≡ t → good_field d (b ∷ bs) ≡ t && good bs
    go true h =
        ap (λ (t : Bool). (t && good bs) && ltb (value (b ∷ bs)) (10 ^ d)) (one-digit b (leb-true b 9 h))
        ∙ low (leb-true b 9 h) (good bs) refl
    go false h = high (leb-false b 9 h) (good_byte b) refl
