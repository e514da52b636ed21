-- What the calls that clear and read a capture answer, in the order of the rules.
use Rattle.std.specs.Prelude.{ℕ, ◌+◌, Bool, cond, not, ◌&&◌, List, [], ◌∷◌, length, replicate, eqb, leb, Result, Ok, Err, ⊤}
use Rattle.capture.specs.Blocks.{used}
use Rattle.capture.specs.Captures.{places, capture_size, whole, start_of, block_at, numbered, first_bad, found}
use Rattle.capture.specs.declared.OtherSize.{OtherSize}
use Rattle.capture.specs.declared.Unsound.{Unsound}
use Rattle.capture.specs.declared.Part.{Part}

-- ---- the number of each answer, 0 for one that is no refusal, and the values beside it
-- of a refusal of memory that has another size
abbrev pub size_number : OtherSize → ℕ
size_number e = 34

-- of a refusal to read
abbrev pub unsound_number : Unsound → ℕ
unsound_number Unsound.WrongSize = 34
unsound_number (Unsound.BadBlock p) = 33

-- the bad block's place
abbrev pub unsound_values : Unsound → List ℕ
unsound_values Unsound.WrongSize = []
unsound_values (Unsound.BadBlock p) = p ∷ []

-- of clearing
abbrev pub cleared_number : Result ⊤ OtherSize → ℕ
cleared_number (Ok done) = 0
cleared_number (Err e) = size_number e

-- of how many are finished
abbrev pub held_number : Result ℕ Unsound → ℕ
held_number (Ok n) = 0
held_number (Err e) = unsound_number e

-- how many, or the bad block's place
abbrev pub held_values : Result ℕ Unsound → List ℕ
held_values (Ok n) = n ∷ []
held_values (Err e) = unsound_values e

-- of reading a place
abbrev pub part_number : Result Part Unsound → ℕ
part_number (Ok part) = 0
part_number (Err e) = unsound_number e

-- where the payload begins and its length, or the bad block's place
abbrev pub part_values : Result Part Unsound → List ℕ
part_values (Ok part) = part.start ∷ part.length ∷ []
part_values (Err e) = unsound_values e

-- ---- the answers
-- a fresh capture is all zeros
abbrev pub fresh : List ℕ
fresh = replicate capture_size 0

-- lent memory of another size
abbrev pub other_size : OtherSize
other_size = record {}

-- clearing: 34 where lent memory has another size
abbrev pub cleared_of : List ℕ → Result ⊤ OtherSize
cleared_of m = cond (whole m) (Ok tt) (Err other_size)

-- what it leaves: a fresh capture, or beside 34 what was there
abbrev pub cleared_bytes : List ℕ → List ℕ
cleared_bytes m = cond (whole m) fresh m

-- how many blocks are finished: 34, 33 with the first bad block's place, else how many are found
unfoldable pub held_of : List ℕ → Result ℕ Unsound
held_of m =
    cond (not (whole m)) (Err Unsound.WrongSize)
    (cond (not (eqb (first_bad m) 0)) (Err (Unsound.BadBlock (first_bad m)))
    (Ok (length (found m))))

-- there is such a place, and its block is finished
unfoldable pub is_finished : List ℕ → ℕ → Bool
is_finished m p = leb 1 p && (leb p places && numbered m p)

-- a part of the capture that begins at a byte
abbrev pub part_from : ℕ → ℕ → Part
part_from start n = record { start = start; length = n }

-- the payload at a place, as a part of the capture: 34, 33, else where it begins and its length; empty, at 0, if there is no such place
-- or the block is unfinished
unfoldable pub part_of : List ℕ → ℕ → Result Part Unsound
part_of m p =
    cond (not (whole m)) (Err Unsound.WrongSize)
    (cond (not (eqb (first_bad m) 0)) (Err (Unsound.BadBlock (first_bad m)))
    (Ok (cond (is_finished m p) (part_from (start_of p + 6) (used (block_at m p))) (part_from 0 0))))
