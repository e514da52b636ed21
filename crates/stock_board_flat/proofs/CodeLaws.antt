-- A code's bytes and the number that they make: equal codes have equal numbers in a head's low six bytes, and back.
use Prim.Native.Nat.{ℕ, zero, suc, ◌+◌, ◌*◌, ◌/◌, ◌%◌, ◌^◌, ◌<◌}
use mathlib.Core.Path.{◌≡◌, refl, sym, ap, ◌∙◌}
use mathlib.Core.Bool.{Bool, true, false, ◌&&◌}
use mathlib.Core.List.{List, [], ◌∷◌, ◌++◌}
use native.Mathlib.Omega.{arith}
use native.Mathlib.Nat.{pow-suc, one-le-pow, mod-one, mod-lt, mod-eq_of_lt, add-mul-mod_self_left, div-add-mod, mul_assoc, mul_comm}
use lib.ListN.{length, get_or}
use lib.Dec.{eqb, leb}
use borrow.Author.Tests.{leb-true, eqb-true, eqb-false, eq-eqb}
use Rattle.digits.proofs.Bools.{and_left, and_right}
use Rattle.words.specs.Words.{bytes}
use Rattle.codes_times.specs.Times.{every, code_byte, code_right}
use Rattle.stock_quotes.proofs.QuoteLaws.{of-six}
use Rattle.stock_board.specs.Board.{same_code}
use Rattle.stock_board_flat.specs.Flat.{number_of, head_of}
use Rattle.stock_board_flat.specs.Steps.{of_code}

-- two numbers by their lowest bytes and the rest
same_parts : (b y z x : ℕ) → b < 256 → y < 256 → (eqb b y && eqb z x) ≡ eqb (y + 256 * z) (b + 256 * x)
same_parts b y z x h k = go (eqb b y) (eqb z x) (eqb (y + 256 * z) (b + 256 * x)) refl refl refl
  where
    go : (t u v : Bool) → eqb b y ≡ t → eqb z x ≡ u → eqb (y + 256 * z) (b + 256 * x) ≡ v → (t && u) ≡ v
    go true true true p q r = refl
    go true true false p q r = absurd (eqb-false (y + 256 * z) (b + 256 * x) r (omega (arith, eqb-true b y p, eqb-true z x q)))
    go true false true p q r = absurd (eqb-false z x q (omega (arith, eqb-true b y p, eqb-true (y + 256 * z) (b + 256 * x) r)))
    go true false false p q r = refl
    go false u true p q r = absurd (eqb-false b y p (omega (arith, eqb-true (y + 256 * z) (b + 256 * x) r)))
    go false u false p q r = refl

-- what is left of a number below 256 times m
low-bytes : (m h : ℕ) → 0 < m → h % (m * 256) ≡ h % 256 + 256 * (h / 256 % m)
low-bytes m h p =
    let q = h / 256 / m in
    let z = h / 256 % m in
    let mul : m * 256 * q ≡ m * q * 256 = mul_assoc m 256 q ∙ ap (λ (x : ℕ). m * x) (mul_comm 256 q) ∙ sym (mul_assoc m q 256) in
    let rest : m * q + z ≡ h / 256 = div-add-mod (h / 256) m in
    let whole : h ≡ h % 256 + 256 * z + m * 256 * q = omega (arith, mul, rest) in
    let small : z < m = mod-lt (h / 256) p in
    ap (λ (x : ℕ). x % (m * 256)) whole ∙ add-mul-mod_self_left (h % 256 + 256 * z) (m * 256) q ∙ mod-eq_of_lt (omega arith)

-- a code and a head's bytes, by their numbers
same_bytes : (s : List ℕ) (h : ℕ) → ((i : ℕ) → get_or s i 0 < 256) → same_code s (bytes (length s) h) ≡ eqb (h % 256 ^ length s) (number_of s)
same_bytes [] h p = sym (eq-eqb (h % 1) 0 (mod-one h))
same_bytes (b ∷ s) h p =
    let m = 256 ^ length s in
    let e : h % 256 ^ suc (length s) ≡ h % 256 + 256 * (h / 256 % m) = ap (λ (x : ℕ). h % x) (pow-suc 256 (length s)) ∙ low-bytes m h (one-le-pow (length s) 256 (omega arith)) in
    ap (λ (t : Bool). eqb b (h % 256) && t) (same_bytes s (h / 256) (λ i. p (suc i)))
    ∙ same_parts b (h % 256) (h / 256 % m) (number_of s) (p 0) (omega arith)
    ∙ ap (λ (x : ℕ). eqb x (b + 256 * number_of s)) (sym e)

-- zeros behind a code change its number in nothing
number-zeros : (s : List ℕ) → number_of (s ++ (0 ∷ 0 ∷ [])) ≡ number_of s
number-zeros [] = refl
number-zeros (b ∷ s) = ap (λ (x : ℕ). b + 256 * x) (number-zeros s)

-- the bytes of a code that is right
pub code-small : (s : List ℕ) → code_right s ≡ true → (i : ℕ) → get_or s i 0 < 256
code-small [] e i = omega arith
code-small (b ∷ s) e zero = omega (arith, leb-true b 126 (and_right (leb 32 b) (leb b 126) (and_left (code_byte b) (every code_byte s) e)))
code-small (b ∷ s) e (suc i) = code-small s (and_right (code_byte b) (every code_byte s) e) i

-- a head has a code exactly if its number says so
pub code-told : (code : List ℕ) (head : ℕ) → length code ≡ 6 → code_right code ≡ true → same_code code (bytes 6 head) ≡ of_code (head_of code 0 0) head
code-told code head n e =
    ap (λ (k : ℕ). same_code code (bytes k head)) (sym n) ∙ same_bytes code head (code-small code e)
    ∙ ap (λ (k : ℕ). eqb (head % 256 ^ k) (number_of code)) n ∙ ap (λ (x : ℕ). eqb (head % 256 ^ 6) x) (sym (number-zeros code))

pub free-told : (head : ℕ) → same_code (0 ∷ 0 ∷ 0 ∷ 0 ∷ 0 ∷ 0 ∷ []) (bytes 6 head) ≡ of_code 0 head
free-told head = same_bytes (0 ∷ 0 ∷ 0 ∷ 0 ∷ 0 ∷ 0 ∷ []) head small
  where
    small : (i : ℕ) → get_or (0 ∷ 0 ∷ 0 ∷ 0 ∷ 0 ∷ 0 ∷ []) i 0 < 256
    small zero = omega arith
    small (suc zero) = omega arith
    small (suc (suc zero)) = omega arith
    small (suc (suc (suc zero))) = omega arith
    small (suc (suc (suc (suc zero)))) = omega arith
    small (suc (suc (suc (suc (suc zero))))) = omega arith
    small (suc (suc (suc (suc (suc (suc i)))))) = omega arith

-- a head put together out of two times four bytes
pub head-made : (code : List ℕ) (limit status a b : ℕ) → length code ≡ 6
    → a ≡ get_or code 0 0 + 256 * (get_or code 1 0 + 256 * (get_or code 2 0 + 256 * get_or code 3 0))
    → b ≡ get_or code 4 0 + 256 * (get_or code 5 0 + 256 * (limit + 256 * status))
    → a + 4294967296 * b ≡ head_of code limit status
head-made code limit status a b n =
    of-six (λ s. a ≡ get_or s 0 0 + 256 * (get_or s 1 0 + 256 * (get_or s 2 0 + 256 * get_or s 3 0)) → b ≡ get_or s 4 0 + 256 * (get_or s 5 0 + 256 * (limit + 256 * status))
    → a + 4294967296 * b ≡ head_of s limit status)
    (λ c d e f g h p q. omega arith) code n
