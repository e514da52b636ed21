-- A capture, 128 blocks next to each other: which blocks are bad, which is the first unfinished one, and what is found.
use Rattle.std.specs.Prelude.{ℕ, zero, suc, ◌+◌, ◌-◌, ◌*◌, Bool, cond, not, ◌&&◌, ◌||◌, List, [], ◌∷◌, length, take, drop, eqb, leb}
use Rattle.capture.specs.Blocks.{block_size, number, payload, unfinished, intact}

-- the blocks of a capture
abbrev pub places : ℕ
places = 128

-- its bytes
abbrev pub capture_size : ℕ
capture_size = 65536

-- memory that has so many
abbrev pub whole : List ℕ → Bool
whole m = eqb (length m) capture_size

-- where the block at a place begins, the first at place 1
abbrev pub start_of : ℕ → ℕ
start_of p = block_size * (p - 1)

-- the block at a place
unfoldable pub block_at : List ℕ → ℕ → List ℕ
block_at m p = take block_size (drop (start_of p) m)

-- it is unfinished
abbrev pub unfinished_at : List ℕ → ℕ → Bool
unfinished_at m p = unfinished (block_at m p)

-- it has a number other than 0
abbrev pub numbered : List ℕ → ℕ → Bool
numbered m p = not (unfinished_at m p)

-- it follows an unfinished block
abbrev pub follows : List ℕ → ℕ → Bool
follows m p = leb 2 p && unfinished_at m (p - 1)

-- a bad block: it has a number other than 0 that is not its place, or it follows an unfinished block, or fails its range, its zeros or
-- its check
unfoldable pub bad : List ℕ → ℕ → Bool
bad m p = numbered m p && (not (eqb (number (block_at m p)) p) || (follows m p || not (intact (block_at m p))))

-- of so many places from one on the first at which a test holds, 0 if it holds at none
abbrev pub first_from : (ℕ → Bool) → ℕ → ℕ → ℕ
first_from test zero p = 0
first_from test (suc k) p = cond (test p) p (first_from test k (p + 1))

-- the place of the first bad block, 0 if there is none
unfoldable pub first_bad : List ℕ → ℕ
first_bad m = first_from (bad m) places 1

-- the first unfinished place, 0 if there is none
unfoldable pub first_unfinished : List ℕ → ℕ
first_unfinished m = first_from (unfinished_at m) places 1

-- the payloads of the blocks that have a number, of so many places from one on
abbrev pub found_from : List ℕ → ℕ → ℕ → List (List ℕ)
found_from m zero p = []
found_from m (suc k) p = cond (numbered m p) (payload (block_at m p) ∷ found_from m k (p + 1)) (found_from m k (p + 1))

-- what is found: the payloads of the finished blocks, in the order of their places
unfoldable pub found : List ℕ → List (List ℕ)
found m = found_from m places 1
