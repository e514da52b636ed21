-- Packed digits: two to a byte, the high half before the low one, and a half of 10 or more is bad; a field 9(n) fills as many bytes as n
-- digits need, with a 0 before them where n is odd.
use Rattle.std.specs.Prelude.{ℕ, zero, suc, ◌+◌, ◌*◌, ◌/◌, ◌%◌, ◌^◌, Bool, true, ◌&&◌, List, [], ◌∷◌, leb, ltb}

-- the bytes that a field 9(n) takes
abbrev pub width : ℕ → ℕ
width n = (n + 1) / 2

-- both halves of a byte are digits
abbrev pub good_byte : ℕ → Bool
good_byte b = leb (b / 16) 9 && leb (b % 16) 9

-- no byte has a bad digit
abbrev pub good : List ℕ → Bool
good [] = true
good (b ∷ bs) = good_byte b && good bs

-- the two digits of a byte as a number, high half first
abbrev pub two : ℕ → ℕ
two b = b / 16 * 10 + b % 16

-- the number that the digits give, read on from v
abbrev pub value_from : ℕ → List ℕ → ℕ
value_from v [] = v
value_from v (b ∷ bs) = value_from (v * 100 + two b) bs

-- the number that the digits of the bytes give
abbrev pub value : List ℕ → ℕ
value bs = value_from 0 bs

-- the bytes hold a field 9(n): no bad digit, and none but 0 before its n digits
abbrev pub good_field : ℕ → List ℕ → Bool
good_field n bs = good bs && ltb (value bs) (10 ^ n)

-- the byte of a number below 100
abbrev pub byte_of : ℕ → ℕ
byte_of d = d / 10 * 16 + d % 10

-- the last 2n digits of w as n bytes
abbrev pub packed : ℕ → ℕ → List ℕ
packed zero w = []
packed (suc n) w = byte_of (w / 100 ^ n % 100) ∷ packed n w
