-- Laws of packed digits, over any width: reading what was packed gives the number, packing what was read gives the bytes.
use Prim.Native.Nat.{ℕ, zero, suc, ◌+◌, ◌*◌, ◌/◌, ◌%◌, ◌^◌, ◌≤◌, ◌<◌}
use mathlib.Core.Path.{◌≡◌, refl, sym, ap, ap₂, ◌∙◌, subst}
use mathlib.Core.Bool.{true}
use mathlib.Core.List.{List, [], ◌∷◌, ◌++◌}
use native.Mathlib.Nat.{pow-suc, pow-le-pow_right, mul_comm, mul_assoc, add-mul, mul-le-mul_right, lt_of_lt_of_le, mod-eq_of_lt}
use native.Mathlib.Omega.{arith}
use lib.Arith.{mod-mul, digits_div}
use lib.Pow.{pow-add}
use lib.ListN.{length, take, drop, take-append-drop}
use lib.Dec.{leb, lit<}
use borrow.Author.Tests.{leb-true, le-leb, lt-ltb, ltb-true}
use Rattle.digits.specs.Packed.{width, good_byte, good, two, value_from, value, good_field, byte_of, packed}
use Rattle.digits.proofs.Powers.{pow-some}
use Rattle.digits.proofs.Bools.{and_left, and_right, and_both}

-- ---- one byte
pub good-byte_of : (d : ℕ) → d < 100 → good_byte (byte_of d) ≡ true
good-byte_of d h =
    and_both
    (le-leb ((d / 10 * 16 + d % 10) / 16) 9 (omega arith))
    (le-leb ((d / 10 * 16 + d % 10) % 16) 9 (omega arith))

pub two-byte_of : (d : ℕ) → d < 100 → two (byte_of d) ≡ d
two-byte_of d h = omega arith

-- a good byte's halves
pub good-halves : (b : ℕ) → good_byte b ≡ true → (b / 16 ≤ 9) × (b % 16 ≤ 9)
good-halves b h = (leb-true (b / 16) 9 (and_left _ _ h), leb-true (b % 16) 9 (and_right (leb (b / 16) 9) _ h))

pub two-lt : (b : ℕ) → good_byte b ≡ true → two b < 100
two-lt b h = omega (arith, (good-halves b h).0, (good-halves b h).1)

pub byte_of-two : (b : ℕ) → good_byte b ≡ true → byte_of (two b) ≡ b
byte_of-two b h = omega (arith, (good-halves b h).0, (good-halves b h).1)

-- ---- any number of bytes
pub length-packed : (n w : ℕ) → length (packed n w) ≡ n
length-packed zero w = refl
length-packed (suc n) w = ap suc (length-packed n w)

pub good-packed : (n w : ℕ) → good (packed n w) ≡ true
good-packed zero w = refl
good-packed (suc n) w = and_both (good-byte_of (w / 100 ^ n % 100) (omega arith)) (good-packed n w)

-- a number with two digits more behind it, moved left by p
moved-left : (v d p : ℕ) → (v * 100 + d) * p ≡ v * (p * 100) + d * p
moved-left v d p = add-mul (v * 100) d p ∙ ap (λ (x : ℕ). x + d * p) (mul_assoc v 100 p ∙ ap (λ (x : ℕ). v * x) (mul_comm 100 p))

-- the digits before stand left of the digits that follow
pub value_from-shift : (v : ℕ) (bs : List ℕ) → value_from v bs ≡ v * 100 ^ length bs + value bs
value_from-shift v [] = omega arith
value_from-shift v (b ∷ bs) =
    let p = 100 ^ length bs in
    let e : 0 * 100 + two b ≡ two b = omega arith in
    value_from-shift (v * 100 + two b) bs ∙ ap (λ (x : ℕ). x + value bs) (moved-left v (two b) p)
    ∙ omega (arith, value_from-shift (0 * 100 + two b) bs, ap (λ (x : ℕ). x * p) e, ap (λ (x : ℕ). v * x) (pow-suc 100 (length bs)))

pub value_from-packed : (n v w : ℕ) → value_from v (packed n w) ≡ v * 100 ^ n + w % 100 ^ n
value_from-packed zero v w = omega arith
value_from-packed (suc n) v w =
    let p = 100 ^ n in
    let d : ℕ = w / p % 100 in
    value_from-packed n (v * 100 + two (byte_of d)) w
    ∙ ap (λ (x : ℕ). (v * 100 + x) * p + w % p) (two-byte_of d (omega arith))
    ∙ ap (λ (x : ℕ). x + w % p) (moved-left v d p)
    ∙ omega (
      arith,
      ap (λ (x : ℕ). v * x) (pow-suc 100 n),
      ap (λ (x : ℕ). w % x) (pow-suc 100 n ∙ mul_comm p 100),
      mod-mul w {m = 100} {c = p} (lit< tt) (pow-some n),
    )

pub value-packed : (n w : ℕ) → w < 100 ^ n → value (packed n w) ≡ w
value-packed n w h = value_from-packed n 0 w ∙ omega (arith, mod-eq_of_lt h, native.Mathlib.Nat.zero-mul (100 ^ n))

pub value-lt : (bs : List ℕ) → good bs ≡ true → value bs < 100 ^ length bs
value-lt [] h = omega arith
value-lt (b ∷ bs) h =
    let p = 100 ^ length bs in
    let e : 0 * 100 + two b ≡ two b = omega arith in
    let g : good_byte b ≡ true = and_left _ _ h in
    omega (
      arith,
      value_from-shift (0 * 100 + two b) bs,
      ap (λ (x : ℕ). x * p) e,
      pow-suc 100 (length bs),
      mul-le-mul_right {m = two b} {n = 99} p (omega (arith, two-lt b g)),
      value-lt bs (and_right (good_byte b) _ h),
    )

-- whatever digits stand before, the last ones give the bytes back
pub packed-value_from : (v : ℕ) (bs : List ℕ) → good bs ≡ true → packed (length bs) (value_from v bs) ≡ bs
packed-value_from v [] h = refl
packed-value_from v (b ∷ bs) h =
    let p = 100 ^ length bs in
    let g : good_byte b ≡ true = and_left _ _ h in
    let gs : good bs ≡ true = and_right (good_byte b) _ h in
    let u : ℕ = v * 100 + two b in
    let top : value_from u bs / p ≡ u = ap (λ (x : ℕ). x / p) (value_from-shift u bs) ∙ digits_div u (value-lt bs gs) in
    let d : value_from u bs / p % 100 ≡ two b = ap (λ (x : ℕ). x % 100) top ∙ omega (arith, two-lt b g) in
    ap₂ (λ (x : ℕ) (l : List ℕ). x ∷ l) (ap byte_of d ∙ byte_of-two b g) (packed-value_from u bs gs)

pub packed-value : (bs : List ℕ) → good bs ≡ true → packed (length bs) (value bs) ≡ bs
packed-value bs h = packed-value_from 0 bs h

-- ---- bytes in two parts
pub value_from-append : (v : ℕ) (xs ys : List ℕ) → value_from v (xs ++ ys) ≡ value_from (value_from v xs) ys
value_from-append v [] ys = refl
value_from-append v (x ∷ xs) ys = value_from-append (v * 100 + two x) xs ys

pub value-parts : (k : ℕ) (bs : List ℕ) → value bs ≡ value (take k bs) * 100 ^ length (drop k bs) + value (drop k bs)
value-parts k bs =
    ap value (sym (take-append-drop k bs)) ∙ value_from-append 0 (take k bs) (drop k bs) ∙ value_from-shift (value (take k bs)) (drop k bs)

-- ---- a field 9(n) in the bytes that it takes
pub hundred-pow : (k : ℕ) → 100 ^ k ≡ 10 ^ (k + k)
hundred-pow zero = refl
hundred-pow (suc k) = pow-suc 100 k ∙ ap (λ (x : ℕ). x * 100) (hundred-pow k) ∙ sym (pow-add 10 (k + k) 2) ∙ ap (λ (x : ℕ). 10 ^ x) (omega arith)

-- a number of at most n digits fits the bytes of a field 9(n)
pub lt-width : (n w : ℕ) → w < 10 ^ n → w < 100 ^ width n
lt-width n w h = lt_of_lt_of_le h (subst (λ (x : ℕ). 10 ^ n ≤ x) (sym (hundred-pow (width n))) (pow-le-pow_right {n = 10} (lit< tt) (omega arith)))

module _ (n w : ℕ) (h : w < 10 ^ n) where
  pub value-field-packed : value (packed (width n) w) ≡ w
  value-field-packed = value-packed (width n) w (lt-width n w h)

  pub good-field-packed : good_field n (packed (width n) w) ≡ true
  good-field-packed = and_both (good-packed (width n) w) (lt-ltb _ _ (subst (λ (x : ℕ). x < 10 ^ n) (sym value-field-packed) h))

module _ (n : ℕ) (bs : List ℕ) (l : length bs ≡ width n) (g : good_field n bs ≡ true) where
  pub packed-field-value : packed (width n) (value bs) ≡ bs
  packed-field-value = ap (λ (k : ℕ). packed k (value bs)) (sym l) ∙ packed-value bs (and_left _ _ g)

  pub value-field-lt : value bs < 10 ^ n
  value-field-lt = ltb-true _ _ (and_right (good bs) _ g)
