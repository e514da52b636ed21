-- The rows of a listing: a run of skipped bytes is one row, which has the place and the answer of its first byte.
use Rattle.std.specs.Prelude.{ℕ, ◌+◌, Bool, cond, ◌&&◌, List, [], ◌∷◌}
use Rattle.walk.specs.Walk.{Reading, Move}
use Rattle.walk.specs.Tally.{is_skipped}

-- a move over skipped bytes
abbrev pub skips : {A : Type 0} → Reading A → Move A → Bool
skips R m = is_skipped (R.number m.said)

-- a row with some bytes more behind it
abbrev pub longer : {A : Type 0} → Move A → ℕ → Move A
longer m n = record { at = m.at; said = m.said; bytes = m.bytes + n }

-- a move before rows: skipped bytes join the skipped bytes that follow them
abbrev pub before : {A : Type 0} → Reading A → Move A → List (Move A) → List (Move A)
before R m [] = m ∷ []
before R m (r ∷ rs) = cond (skips R m && skips R r) (longer m r.bytes ∷ rs) (m ∷ r ∷ rs)

-- the rows of a walk's moves
abbrev pub rows_of : {A : Type 0} → Reading A → List (Move A) → List (Move A)
rows_of R [] = []
rows_of R (m ∷ ms) = before R m (rows_of R ms)
