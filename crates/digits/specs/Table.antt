-- The digit rule as a table: an entry for each of the 256 bytes.
use Rattle.std.specs.Prelude.{ℕ, zero, suc, cond, List, [], ◌∷◌}
use Rattle.digits.specs.Packed.{good_byte, two}

-- the mark of a byte with a bad half, which no two digits give
abbrev pub mark : ℕ
mark = 255

-- the entry of a byte: the number that its two digits give, 0 to 99, or the mark
abbrev pub entry_of : ℕ → ℕ
entry_of b = cond (good_byte b) (two b) mark

-- the entries of n bytes, from b on
abbrev pub entries_from : ℕ → ℕ → List ℕ
entries_from b zero = []
entries_from b (suc n) = entry_of b ∷ entries_from (suc b) n

-- the entries of all bytes, in their order
abbrev pub digit_table : List ℕ
digit_table = entries_from 0 256
