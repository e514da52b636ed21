-- The exclusive-or of bytes, which a check byte holds.
use Rattle.std.specs.Prelude.{ℕ, List, [], ◌∷◌}
use Rattle.std.specs.Int.Bits.{bit_xor}

-- the exclusive-or of bytes
abbrev pub xor_of : List ℕ → ℕ
xor_of [] = 0
xor_of (b ∷ bs) = bit_xor b (xor_of bs)
