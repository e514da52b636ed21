-- What `n` bytes at a place hold, in two parts: the first k bytes, and the rest.
use Rattle.std.specs.Prelude.{ℕ, ◌+◌, false, cond, List, length, take, drop, leb}
use Rattle.digits.specs.Packed.{good, value}
use Rattle.words.specs.declared.blocks.Block.{Block}

-- whether all the digits are good, the number of the first k bytes and the number of the others
abbrev pub block_of : ℕ → List ℕ → Block
block_of k bs = record { good = good bs; first = value (take k bs); last = value (drop k bs) }

-- past the end there are no good digits
abbrev pub no_block : Block
no_block = record { good = false; first = 0; last = 0 }

-- the n bytes from a place
abbrev pub block_at : ℕ → ℕ → List ℕ → ℕ → Block
block_at n k s at = cond (leb (at + n) (length s)) (block_of k (take n (drop at s))) no_block
