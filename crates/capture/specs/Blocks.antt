-- A block of a capture, 512 bytes: a number, how many bytes are used, a payload, and a check of all of these.
use Rattle.std.specs.Prelude.{ℕ, ◌+◌, ◌-◌, ◌*◌, ◌/◌, ◌%◌, Bool, true, ◌&&◌, List, [], ◌∷◌, ◌++◌, length, get_or, take, drop, replicate, eqb, leb}
use Rattle.fletcher.specs.Fletcher.{fletcher}

-- the bytes of a block
abbrev pub block_size : ℕ
block_size = 512

-- those over which its check is worked out
abbrev pub checked_size : ℕ
checked_size = 510

-- the most that a payload has
abbrev pub most : ℕ
most = 504

-- a block's number, in 4 bytes, high first
unfoldable pub number : List ℕ → ℕ
number b = get_or b 0 0 * 16777216 + get_or b 1 0 * 65536 + get_or b 2 0 * 256 + get_or b 3 0

-- how many bytes are used, in 2 bytes, high first
unfoldable pub used : List ℕ → ℕ
used b = get_or b 4 0 * 256 + get_or b 5 0

-- the used bytes
unfoldable pub payload : List ℕ → List ℕ
payload b = take (used b) (drop 6 b)

-- a block whose number is 0 is unfinished
unfoldable pub unfinished : List ℕ → Bool
unfinished b = eqb (number b) 0

-- its range: 1 to 504 bytes are used
unfoldable pub in_range : List ℕ → Bool
in_range b = leb 1 (used b) && leb (used b) most

-- all bytes are zeros
abbrev pub all_zero : List ℕ → Bool
all_zero [] = true
all_zero (b ∷ bs) = eqb b 0 && all_zero bs

-- its zeros: behind the used bytes
unfoldable pub zeros_behind : List ℕ → Bool
zeros_behind b = all_zero (drop (6 + used b) (take checked_size b))

-- its check: Fletcher-16 of the first 510 bytes, the first sum first
unfoldable pub check_fits : List ℕ → Bool
check_fits b = eqb (get_or b 510 0) (fletcher (take checked_size b)).first && eqb (get_or b 511 0) (fletcher (take checked_size b)).second

-- a block that fails none of these: its range, its zeros, its check
unfoldable pub intact : List ℕ → Bool
intact b = in_range b && (zeros_behind b && check_fits b)

-- the first 510 bytes of the block of a payload at a place
unfoldable pub checked_of : ℕ → List ℕ → List ℕ
checked_of p x =
    p / 16777216 ∷ p / 65536 % 256 ∷ p / 256 % 256 ∷ p % 256 ∷ length x / 256 ∷ length x % 256 ∷ (x ++ replicate (most - length x) 0)

-- the block of a payload at a place
unfoldable pub block_of : ℕ → List ℕ → List ℕ
block_of p x = checked_of p x ++ ((fletcher (checked_of p x)).first ∷ (fletcher (checked_of p x)).second ∷ [])
