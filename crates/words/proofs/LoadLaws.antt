-- The bytes of a number, and of numbers loaded out of a list and put together.
use Prim.Native.Nat.{ℕ, zero, suc, ◌+◌, ◌*◌, ◌/◌, ◌%◌, ◌^◌, ◌<◌}
use mathlib.Core.Path.{◌≡◌, sym, ap, ap₂, ◌∙◌}
use mathlib.Core.List.{List, [], ◌∷◌, ◌++◌}
use native.Mathlib.Omega.{arith}
use native.Mathlib.Nat.{zero-add, suc-add, one-le-pow, mul_assoc, pow-suc, mod-eq_of_lt, div-add-mod', div-lt_iff_lt-mul}
use lib.ListN.{length, get_or, take, drop}
use lib.Seq.{take-add, drop-drop, drop-cons}
use Rattle.words.specs.Words.{bytes}
use Rattle.words.specs.Blocks.{block_of}
use Rattle.words.specs.declared.blocks.Block.{Block}
use Rattle.words.proofs.Lanes.{word}
use Rattle.words.proofs.Leaf.{leaf_of, leaf}

-- a number without its lowest byte
byte-off : (n x : ℕ) → x < 256 ^ suc n → x / 256 < 256 ^ n
byte-off n x h = (div-lt_iff_lt-mul {k = 256} (omega arith)).1 (rw (← pow-suc 256 n) h)

-- each byte is below 256
pub bytes_below : (n x i : ℕ) → get_or (bytes n x) i 0 < 256
bytes_below zero x i = omega arith
bytes_below (suc n) x zero = omega arith
bytes_below (suc n) x (suc i) = bytes_below n (x / 256) i

-- the word of a number's bytes is the number
pub bytes_word : (n x : ℕ) → x < 256 ^ n → word 8 n (λ i. get_or (bytes n x) i 0) ≡ x
bytes_word zero x h = omega arith
bytes_word (suc n) x h = ap (λ (y : ℕ). y * 256 + x % 256) (bytes_word n (x / 256) (byte-off n x h)) ∙ div-add-mod' x 256

-- the leaf over the bytes of its number
pub leaf-bytes : (x : ℕ) → x < 256 ^ 8 → leaf_of x ≡ block_of 4 (bytes 8 x)
leaf-bytes x h = ap leaf_of (sym (bytes_word 8 x h)) ∙ leaf (λ i. get_or (bytes 8 x) i 0) (bytes_below 8 x)

-- a number of n bytes with another above it
pub bytes-append : (n m x y : ℕ) → x < 256 ^ n → bytes (n + m) (x + y * 256 ^ n) ≡ bytes n x ++ bytes m y
bytes-append zero m x y h = ap₂ bytes (zero-add m) (omega arith)
bytes-append (suc n) m x y h =
    ap₂ bytes (suc-add n m) (ap (λ (q : ℕ). x + q) (ap (λ (q : ℕ). y * q) (pow-suc 256 n) ∙ sym (mul_assoc y (256 ^ n) 256)))
    ∙ ap₂ (λ (d : ℕ) (ds : List ℕ). d ∷ ds) (omega arith)
    (ap (bytes (n + m)) (omega arith) ∙ bytes-append n m (x / 256) y (byte-off n x h))

-- zero bytes before a number
pub bytes-shift : (n m y : ℕ) → bytes (n + m) (y * 256 ^ n) ≡ bytes n 0 ++ bytes m y
bytes-shift n m y = ap (bytes (n + m)) (sym (zero-add (y * 256 ^ n))) ∙ bytes-append n m 0 y (one-le-pow n 256 (omega arith))

-- one byte loaded
pub load_one : (at r : ℕ) (s : List ℕ) → at < length s → r ≡ get_or s at 0 → r < 256 → bytes 1 r ≡ take 1 (drop at s)
load_one at r s h e l = rw (drop-cons s at 0) (ap (λ (x : ℕ). x ∷ []) (mod-eq_of_lt l ∙ e))

-- two loads, one after the other, are one load of both
pub load-join : (n m at a b : ℕ) (s : List ℕ) → a < 256 ^ n → bytes n a ≡ take n (drop at s) → bytes m b ≡ take m (drop (at + n) s)
    → bytes (n + m) (a + b * 256 ^ n) ≡ take (n + m) (drop at s)
load-join n m at a b s h p q =
    bytes-append n m a b h ∙ ap₂ ◌++◌ p (q ∙ ap (take m) (sym (drop-drop n at s))) ∙ sym (take-add n m (drop at s))

-- zero bytes in front change neither the digits' goodness nor a number
pub padded : (n k : ℕ) (l : List ℕ) → block_of (n + k) (bytes n 0 ++ l) ≡ block_of k l
padded zero k l = ap (λ (j : ℕ). block_of j l) (zero-add k)
padded (suc n) k l = ap (λ (j : ℕ). block_of j (bytes (suc n) 0 ++ l)) (suc-add n k) ∙ padded n k l

-- a number shifted up by n bytes holds the halves of its own bytes
pub halves-shift : (n m k y : ℕ) → block_of (n + k) (bytes (n + m) (y * 256 ^ n)) ≡ block_of k (bytes m y)
halves-shift n m k y = ap (block_of (n + k)) (bytes-shift n m y) ∙ padded n k (bytes m y)

-- the first number as the last, and none before it
abbrev pub lowered : Block → Block
lowered h = record { good = h.good; first = 0; last = h.first }

-- zero bytes behind four change neither: the first number of the eight is the number of the four
pub halves-low : (x : ℕ) → x < 256 ^ 4 → lowered (block_of 4 (bytes 8 x)) ≡ block_of 0 (bytes 4 x)
halves-low x h =
    let e : x ≡ x + 0 * 256 ^ 4 = omega arith in
    ap (λ (y : ℕ). lowered (block_of 4 (bytes 8 y))) e ∙ ap (λ (l : List ℕ). lowered (block_of 4 l)) (bytes-append 4 4 x 0 h)
