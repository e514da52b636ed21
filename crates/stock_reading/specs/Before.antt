-- The reading before it told where a bad digit is. Its table of checks is written out here, over the formats as they are defined; the reading
-- of today is held against it.
use Rattle.std.specs.Prelude.{ℕ, ◌+◌, ◌-◌, ◌≡◌, Bool, ◌&&◌, List, [], ◌∷◌, map, length, get_or, take, drop, eqb, leb}
use Rattle.words.specs.Xor.{xor_of}
use Rattle.digits.specs.Packed.{good_field, value}
use Rattle.layout.specs.Cells.{Cell, digits, size, good_cells, decode}
use Rattle.layout.specs.Checks.{Check, must, first_fail}
use Rattle.answers.specs.Before.{Said, accepted, no_frame, refused, said, unplaced}
use Rattle.answers.specs.declared.Answer.{Answer}
use Rattle.stock_frame.specs.Format.{Format}
use Rattle.stock_frame.specs.Formats.{is_one_of, first_of}
use Rattle.stock_notices.specs.Notices.{five}
use Rattle.stock_quotes.specs.Quotes.{six}
use Rattle.stock_prices.specs.Prices.{twelve}
use Rattle.stock_halts.specs.Halts.{nineteen}
use Rattle.walk.specs.Walk.{Reading, Move, walk_from, rest_of}
use Rattle.walk.specs.Answers.{answering}
use Rattle.stock_reading.specs.Reading.{answer_of}

-- the length, bytes 2-3
abbrev pub length_before : List ℕ → ℕ
length_before t = value (take 2 (drop 1 t))

-- the frame's own bytes
abbrev pub own_before : List ℕ → List ℕ
own_before t = take (length_before t) t

-- business, format, version and number, bytes 4 to 10
abbrev pub kind_cells_before : List Cell
kind_cells_before = digits 2 ∷ digits 2 ∷ digits 2 ∷ digits 8 ∷ []

-- one of their numbers, from the first on
abbrev pub kind_before : ℕ → List ℕ → ℕ
kind_before k f = get_or (decode kind_cells_before (drop 3 f)) k 0

-- the formats
abbrev pub formats_before : List Format
formats_before = five ∷ six ∷ twelve ∷ nineteen ∷ []

-- the rules' table: the outline, the header's six digits, and the body of a format
abbrev pub checks_before : List ℕ → List Check
checks_before t =
    let f = own_before t in
    let n = length f in
    let F = first_of formats_before five (kind_before 1 f) in
    let b = take (n - 13) (drop 10 f) in
    let vs = decode (F.cells b) b in
    must 2 (leb 1 (length t))
    ∷ must 1 (eqb (get_or t 0 0) 27)
    ∷ must 2 (leb 3 (length t))
    ∷ must 3 (good_field 4 (take 2 (drop 1 t)) && (leb 14 (length_before t) && leb (length_before t) 1024))
    ∷ must 2 (leb (length_before t) (length t))
    ∷ must 4 (eqb (get_or f (n - 2) 0) 13 && eqb (get_or f (n - 1) 0) 10)
    ∷ must 5 (eqb (get_or f (n - 3) 0) (xor_of (take (n - 4) (drop 1 f))))
    ∷ must 6 (good_cells kind_cells_before (drop 3 f))
    ∷ must 7 (eqb (kind_before 0 f) 1 && is_one_of formats_before (kind_before 1 f))
    ∷ must 8 (eqb (kind_before 2 f) F.version)
    ∷ must 9 (leb F.least (13 + length b) && leb (13 + length b) F.most)
    ∷ must 10 (F.levels vs)
    ∷ must 9 (eqb (size (F.cells b)) (length b))
    ∷ must 11 (good_cells (F.cells b) b)
    ∷ must 12 (F.timed vs)
    ∷ must 13 (F.ruled vs)
    ∷ []

-- the answer: the first check that fails, or acceptance
abbrev pub answer_before : List ℕ → Said
answer_before t =
    let f = own_before t in
    said (first_fail (checks_before t)) (record { format = kind_before 1 f; seq = kind_before 3 f; length = length_before t })

-- its number
abbrev pub said_number : Said → ℕ
said_number (accepted f) = 0
said_number (no_frame n) = n
said_number (refused n l) = n

-- the length beside it
abbrev pub said_length : Said → ℕ
said_length (accepted f) = f.length
said_length (no_frame n) = 0
said_length (refused n l) = l

-- the reading of then, as a walk asks it
abbrev pub before : Reading Said
before = record { says = answer_before; number = said_number; size = said_length }

-- no bytes are answered otherwise than they were: without its place the answer is the old one
abbrev pub AsBefore : Type 0
AsBefore = (t : List ℕ) → unplaced (answer_of t) ≡ answer_before t

-- a move without the place of a bad digit
abbrev pub without_place : Move Answer → Move Said
without_place m = record { at = m.at; said = unplaced m.said; bytes = m.bytes }

-- nor is a line walked otherwise: without their places the moves are the old ones, and the same bytes wait
abbrev pub WalksAsBefore : Type 0
WalksAsBefore = (closed : Bool) (at : ℕ) (t : List ℕ)
    → (walk_from before closed at t ≡ map without_place (walk_from (answering answer_of) closed at t)) × (rest_of before closed t ≡ rest_of (answering answer_of) closed t)
