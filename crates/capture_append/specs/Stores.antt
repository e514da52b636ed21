-- The stores of a block, one byte each: the last byte of its number is stored after everything else.
use Rattle.std.specs.Prelude.{ℕ, zero, suc, ◌+◌, ◌%◌, List, get_or, set}
use Rattle.capture.specs.Blocks.{block_size}

-- how many there are, one for each byte
abbrev pub stores : ℕ
stores = block_size

-- which byte of the block the store j is of: those behind the number, then the number's
abbrev pub stored_byte : ℕ → ℕ
stored_byte j = (j + 4) % block_size

-- memory with the store j, where the block begins at a byte
abbrev pub store_of : List ℕ → ℕ → List ℕ → ℕ → List ℕ
store_of m start b j = set m (start + stored_byte j) (get_or b (stored_byte j) 0)

-- memory after the first k stores
abbrev pub stored_from : List ℕ → ℕ → List ℕ → ℕ → List ℕ
stored_from m start b zero = m
stored_from m start b (suc k) = store_of (stored_from m start b k) start b k
