-- What the steps of the exclusive-or hand on to each other, while eight bytes at a time are gathered in one number.
use Rattle.std.specs.Prelude.{ℕ, List, drop}
use Rattle.std.specs.Int.Bits.{bit_xor}
use Rattle.words.specs.Words.{bytes}
use Rattle.words.specs.Xor.{xor_of}

-- the eight bytes of a number, and the bytes of a list from a place on
unfoldable pub gathered : ℕ → ℕ → List ℕ → ℕ
gathered x at l = bit_xor (xor_of (bytes 8 x)) (xor_of (drop at l))
