-- Fletcher-16: two sums over bytes, both modulo 255, from zero.
use Rattle.std.specs.Prelude.{ℕ, ◌+◌, ◌-◌, ◌%◌, List, [], ◌∷◌, take, drop}
use Rattle.fletcher.specs.declared.Sums.{Sums}

-- the two sums
abbrev pub sums_of : ℕ → ℕ → Sums
sums_of first second = record { first = first; second = second }

-- with one byte more: the first sum takes the byte, the second takes the first
abbrev pub with_byte : Sums → ℕ → Sums
with_byte s b = sums_of ((s.first + b) % 255) ((s.second + (s.first + b) % 255) % 255)

-- with bytes more, in their order
abbrev pub with_bytes : Sums → List ℕ → Sums
with_bytes s [] = s
with_bytes s (b ∷ bs) = with_bytes (with_byte s b) bs

-- Fletcher-16 of bytes: their sums from zero
unfoldable pub fletcher : List ℕ → Sums
fletcher bs = with_bytes (sums_of 0 0) bs

-- the bytes from one place up to another, as far as they are there
abbrev pub between : ℕ → ℕ → List ℕ → List ℕ
between from to bs = take (to - from) (drop from bs)
