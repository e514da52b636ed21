-- The exclusive-or of bytes: of two lists, of the bytes of a number, and gathered in one number.
use Prim.Native.Nat.{ℕ, zero, suc, ◌+◌, ◌*◌, ◌/◌, ◌%◌, ◌^◌, ◌<◌}
use mathlib.Core.Path.{◌≡◌, refl, sym, ap, ap₂, ◌∙◌}
use mathlib.Core.List.{List, [], ◌∷◌, ◌++◌}
use native.Mathlib.Omega.{arith}
use lib.Arith.{bin_ind}
use lib.Bits.{bit_xor, differ, xor_step, xor_shr, xor_mod, xor_zero_r, xor_comm}
use native.Mathlib.Nat.{zero-add, suc-add, le_refl, pow-succ', div-one, div-eq_of_lt, div-div-eq-div-mul}
use lib.ListN.{length, take, drop, take-append-drop, drop_of_length-le}
use lib.Seq.{drop-drop}
use Rattle.words.specs.Words.{bytes}
use Rattle.words.specs.Xor.{xor_of}
use Rattle.words.specs.Steps.{gathered}

-- three digits of two
digit_assoc : (x y z : ℕ) → x < 2 → y < 2 → z < 2 → differ (bit_xor x y) z ≡ differ x (bit_xor y z)
digit_assoc zero zero z h k l = refl
digit_assoc zero (suc zero) zero h k l = refl
digit_assoc zero (suc zero) (suc zero) h k l = refl
digit_assoc (suc zero) zero zero h k l = refl
digit_assoc (suc zero) zero (suc zero) h k l = refl
digit_assoc (suc zero) (suc zero) zero h k l = refl
digit_assoc (suc zero) (suc zero) (suc zero) h k l = refl
digit_assoc zero (suc zero) (suc (suc z)) h k l = absurd (omega arith)
digit_assoc (suc zero) zero (suc (suc z)) h k l = absurd (omega arith)
digit_assoc (suc zero) (suc zero) (suc (suc z)) h k l = absurd (omega arith)
digit_assoc zero (suc (suc y)) z h k l = absurd (omega arith)
digit_assoc (suc zero) (suc (suc y)) z h k l = absurd (omega arith)
digit_assoc (suc (suc x)) y z h k l = absurd (omega arith)

-- three numbers
xor_assoc : (a b c : ℕ) → bit_xor (bit_xor a b) c ≡ bit_xor a (bit_xor b c)
xor_assoc a =
    bin_ind (λ (n : ℕ). (b c : ℕ) → bit_xor (bit_xor n b) c ≡ bit_xor n (bit_xor b c)) (λ b c. refl)
    (λ n ih b c.
    xor_step (bit_xor n b) c
    ∙ ap₂ (λ (x y : ℕ). x * 2 + y)
    (ap (λ (x : ℕ). bit_xor x (c / 2)) (xor_shr n b 1) ∙ ih (b / 2) (c / 2) ∙ ap (bit_xor (n / 2)) (sym (xor_shr b c 1)))
    (ap (λ (x : ℕ). differ x (c % 2)) (xor_mod n b 1) ∙ digit_assoc (n % 2) (b % 2) (c % 2) (omega arith) (omega arith) (omega arith)
    ∙ ap (differ (n % 2)) (sym (xor_mod b c 1)))
    ∙ sym (xor_step n (bit_xor b c))) a

-- four, the middle two changed over
xor-across : (a b c d : ℕ) → bit_xor (bit_xor a b) (bit_xor c d) ≡ bit_xor (bit_xor a c) (bit_xor b d)
xor-across a b c d =
    xor_assoc a b (bit_xor c d)
    ∙ ap (bit_xor a) (sym (xor_assoc b c d) ∙ ap (λ (x : ℕ). bit_xor x d) (xor_comm b c) ∙ xor_assoc c b d)
    ∙ sym (xor_assoc a c (bit_xor b d))

-- one list after another
xor-append : (xs ys : List ℕ) → xor_of (xs ++ ys) ≡ bit_xor (xor_of xs) (xor_of ys)
xor-append [] ys = refl
xor-append (x ∷ xs) ys = ap (bit_xor x) (xor-append xs ys) ∙ sym (xor_assoc x (xor_of xs) (xor_of ys))

-- the bytes of two numbers
xor_bytes : (n x y : ℕ) → xor_of (bytes n (bit_xor x y)) ≡ bit_xor (xor_of (bytes n x)) (xor_of (bytes n y))
xor_bytes zero x y = refl
xor_bytes (suc n) x y =
    ap₂ bit_xor (xor_mod x y 8) (ap (λ (q : ℕ). xor_of (bytes n q)) (xor_shr x y 8) ∙ xor_bytes n (x / 256) (y / 256))
    ∙ xor-across (x % 256) (y % 256) (xor_of (bytes n (x / 256))) (xor_of (bytes n (y / 256)))

-- the low bytes of a number, then the ones above
bytes-split : (n m x : ℕ) → bytes (n + m) x ≡ bytes n x ++ bytes m (x / 256 ^ n)
bytes-split zero m x = ap₂ bytes (zero-add m) (sym (div-one x))
bytes-split (suc n) m x =
    ap (λ (k : ℕ). bytes k x) (suc-add n m)
    ∙ ap (λ (l : List ℕ). x % 256 ∷ l)
    (bytes-split n m (x / 256)
    ∙ ap (λ (q : ℕ). bytes n (x / 256) ++ bytes m q)
    (div-div-eq-div-mul x 256 (256 ^ n) ∙ ap (λ (q : ℕ). x / q) (sym (pow-succ' 256 n))))

-- zero bytes
xor-zeros : (n : ℕ) → xor_of (bytes n 0) ≡ 0
xor-zeros zero = refl
xor-zeros (suc n) = xor-zeros n

-- the bytes above a number add nothing
xor_above : (n m x : ℕ) → x < 256 ^ n → xor_of (bytes (n + m) x) ≡ xor_of (bytes n x)
xor_above n m x h =
    ap xor_of (bytes-split n m x) ∙ xor-append (bytes n x) (bytes m (x / 256 ^ n))
    ∙ ap (bit_xor (xor_of (bytes n x))) (ap (λ (q : ℕ). xor_of (bytes m q)) (div-eq_of_lt h) ∙ xor-zeros m)
    ∙ xor_zero_r (xor_of (bytes n x))

-- twice as many bytes are so many of a number and its upper half
pub xor-halve : (n x : ℕ) → xor_of (bytes (n + n) x) ≡ xor_of (bytes n (bit_xor x (x / 256 ^ n)))
xor-halve n x = ap xor_of (bytes-split n n x) ∙ xor-append (bytes n x) (bytes n (x / 256 ^ n)) ∙ sym (xor_bytes n x (x / 256 ^ n))

-- one byte
pub xor_low : (x : ℕ) → x % 256 ≡ xor_of (bytes 1 x)
xor_low x = sym (xor_zero_r (x % 256))

-- n bytes more of a list, loaded as a number
gather-more : (n m at x w : ℕ) (l : List ℕ) → w < 256 ^ n → bytes n w ≡ take n (drop at l)
    → bit_xor (xor_of (bytes (n + m) (bit_xor x w))) (xor_of (drop (at + n) l)) ≡ bit_xor (xor_of (bytes (n + m) x)) (xor_of (drop at l))
gather-more n m at x w l h e =
    ap (λ (q : ℕ). bit_xor q (xor_of (drop (at + n) l))) (xor_bytes (n + m) x w)
    ∙ xor_assoc (xor_of (bytes (n + m) x)) (xor_of (bytes (n + m) w)) (xor_of (drop (at + n) l))
    ∙ ap (bit_xor (xor_of (bytes (n + m) x)))
    (ap₂ (λ (p q : ℕ). bit_xor p q) (xor_above n m w h ∙ ap xor_of e) (ap xor_of (sym (drop-drop n at l)))
    ∙ sym (xor-append (take n (drop at l)) (drop n (drop at l)))
    ∙ ap xor_of (take-append-drop n (drop at l)))

-- the same of eight bytes
pub gathered-more : (n m at next x w : ℕ) (l : List ℕ) → n + m ≡ 8 → next ≡ at + n → w < 256 ^ n → bytes n w ≡ take n (drop at l)
    → gathered (bit_xor x w) next l ≡ gathered x at l
unfolding gathered
gathered-more n m at next x w l s t h e =
    ap₂ (λ (k j : ℕ). bit_xor (xor_of (bytes k (bit_xor x w))) (xor_of (drop j l))) (sym s) t
    ∙ gather-more n m at x w l h e
    ∙ ap (λ (k : ℕ). bit_xor (xor_of (bytes k x)) (xor_of (drop at l))) s

-- no byte gathered
pub gathered_none : (l : List ℕ) → gathered 0 0 l ≡ xor_of l
unfolding gathered
gathered_none l = refl

-- all bytes gathered
pub gathered-all : (x : ℕ) (l : List ℕ) → xor_of (bytes 8 x) ≡ gathered x (length l) l
unfolding gathered
gathered-all x l =
    sym (ap (λ (k : List ℕ). bit_xor (xor_of (bytes 8 x)) (xor_of k)) (drop_of_length-le l (le_refl (length l))) ∙ xor_zero_r (xor_of (bytes 8 x)))
