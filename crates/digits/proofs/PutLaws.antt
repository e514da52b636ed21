-- Writing four bytes at once: both tens of four digits out of one product; a field is its first bytes and its last four.
use Prim.Native.Nat.{ℕ, zero, suc, ◌+◌, ◌-◌, ◌*◌, ◌/◌, ◌%◌, ◌^◌, ◌≤◌, ◌<◌}
use mathlib.Core.Path.{◌≡◌, sym, ap, ap₂, ◌∙◌}
use mathlib.Core.List.{List, [], ◌∷◌, ◌++◌}
use native.Mathlib.Omega.{arith}
use native.Mathlib.Nat.{add-zero, suc-add, mul_comm, div-add-mod', div-div-eq-div-mul}
use lib.Pow.{pow-add}
use lib.Bits.{bit_and, and_block, and_mask}
use lib.ListN.{length, set}
use lib.Seq.{sets}
use Rattle.digits.specs.Packed.{byte_of, packed}
use Rattle.digits.proofs.PackedLaws.{length-packed}

-- the low half bytes of two fields of sixteen bits
nibbles : (x : ℕ) → bit_and x 983055 ≡ x / 65536 % 16 * 65536 + x % 65536 % 16
nibbles x =
    ap (λ (z : ℕ). bit_and z 983055) (sym (div-add-mod' x 65536))
    ∙ and_block 16 (x / 65536) 15 (x % 65536) 15 (omega arith) (omega arith)
    ∙ ap₂ (λ (u v : ℕ). u * 65536 + v) (and_mask (x / 65536) 4) (and_mask (x % 65536) 4)

-- the tens of two numbers below 100 that stand sixteen bits apart
tens : (p q : ℕ) → p < 100 → q < 100 → bit_and ((p + q * 65536) * 103 / 1024) 983055 ≡ p / 10 + q / 10 * 65536
tens p q hp hq = nibbles ((p + q * 65536) * 103 / 1024) ∙ parts ((p + q * 65536) * 103 / 1024) (p / 10) (omega arith) (omega arith)
  where
    parts : (x t : ℕ) → t < 10 → x ≡ q * 6592 + t → x / 65536 % 16 * 65536 + x % 65536 % 16 ≡ t + q / 10 * 65536
    parts x t ht e =
        let h : x / 65536 ≡ q / 10 = omega arith in
        let l : x % 65536 % 16 ≡ t = ap (λ (z : ℕ). z % 65536 % 16) e ∙ low_part t ht in
        ap₂ (λ (u v : ℕ). u % 16 * 65536 + v) h l ∙ high_part t
      where
        low_part : (t : ℕ) → t < 10 → (q * 6592 + t) % 65536 % 16 ≡ t
        low_part t ht = omega arith

        high_part : (t : ℕ) → q / 10 % 16 * 65536 + t ≡ t + q / 10 * 65536
        high_part t = omega arith

-- the two bytes of four digits
pub two_bytes : (a : ℕ) → a < 10000
    → a / 100 + a % 100 * 65536 + bit_and ((a / 100 + a % 100 * 65536) * 103 / 1024) 983055 * 6 ≡ byte_of (a / 100) + byte_of (a % 100) * 65536
two_bytes a h = with-tens (a / 100) (a % 100) (omega arith) (omega arith)
  where
    with-tens : (p q : ℕ) → p < 100 → q < 100 → p + q * 65536 + bit_and ((p + q * 65536) * 103 / 1024) 983055 * 6 ≡ byte_of p + byte_of q * 65536
    with-tens p q hp hq = rw (tens p q hp hq) (omega arith)

-- four bytes, one by one
four_are : {w x y z p q r s : ℕ} → w ≡ p → x ≡ q → y ≡ r → z ≡ s → ◌≡◌ {A = List ℕ} (w ∷ x ∷ y ∷ z ∷ []) (p ∷ q ∷ r ∷ s ∷ [])
four_are hw hx hy hz =
    ap₂ (λ (d : ℕ) (ds : List ℕ). d ∷ ds) hw
    (ap₂ (λ (d : ℕ) (ds : List ℕ). d ∷ ds) hx
    (ap₂ (λ (d : ℕ) (ds : List ℕ). d ∷ ds) hy (ap (λ (d : ℕ). d ∷ []) hz)))

-- the last four bytes of a field are those of its last eight digits
packed-last : (m v : ℕ) → packed (m + 4) v ≡ packed m (v / 100000000) ++ packed 4 (v % 100000000)
packed-last zero v = four_are (ap byte_of (omega arith)) (ap byte_of (omega arith)) (ap byte_of (omega arith)) (ap byte_of (omega arith))
packed-last (suc m) v =
    ap (λ (k : ℕ). packed k v) (suc-add m 4)
    ∙ ap₂ (λ (x : ℕ) (l : List ℕ). byte_of (x % 100) ∷ l)
    (ap (λ (k : ℕ). v / k) (pow-add 100 m 4 ∙ mul_comm (100 ^ m) (100 ^ 4)) ∙ sym (div-div-eq-div-mul v (100 ^ 4) (100 ^ m)))
    (packed-last m v)

-- a run of stores, then another behind it
sets-append : (xs ys l : List ℕ) (i : ℕ) → sets (sets l i xs) (i + length xs) ys ≡ sets l i (xs ++ ys)
sets-append [] ys l i = ap (λ (k : ℕ). sets l k ys) (add-zero i)
sets-append (x ∷ xs) ys l i =
    let e : i + suc (length xs) ≡ suc i + length xs = omega arith in
    ap (λ (k : ℕ). sets (sets (set l i x) (suc i) xs) k ys) e ∙ sets-append xs ys (set l i x) (suc i)

-- the first bytes written, then the last four
pub put-join : (v n at : ℕ) (e : List ℕ) → 4 ≤ n
    → sets (sets e at (packed (n - 4) (v / 100000000))) (at + (n - 4)) (packed 4 (v % 100000000)) ≡ sets e at (packed n v)
put-join v n at e h =
    let f : n - 4 + 4 ≡ n = omega arith in
    let xs = packed (n - 4) (v / 100000000) in
    let ys = packed 4 (v % 100000000) in
    ap (λ (k : ℕ). sets (sets e at xs) (at + k) ys) (sym (length-packed (n - 4) (v / 100000000)))
    ∙ sets-append xs ys e at
    ∙ ap (sets e at) (sym (packed-last (n - 4) v) ∙ ap (λ (k : ℕ). packed k v) f)
