-- The common frame over any header: 27, the header with the length in it, the body, the check byte, 0D 0A.
use Rattle.std.specs.Prelude.{ℕ, ◌+◌, ◌-◌, ◌*◌, ◌≡◌, Bool, true, cond, ◌&&◌, List, [], ◌∷◌, ◌++◌, length, get_or, take, drop, eqb, leb, None, Option}
use Rattle.words.specs.Xor.{xor_of}
use Rattle.digits.specs.Packed.{good_field, value}
use Rattle.digits.specs.Halves.{or_else}
use Rattle.layout.specs.Cells.{Cell, digits, size, good_cells, decode}
use Rattle.layout.specs.Places.{first_bad}
use Rattle.layout.specs.Checks.{Check, must}

pub record Header : Type 0 where
  -- the cells behind 27: those before the length, which is 9(4), and those behind it
  pub before : List Cell
  pub after : List Cell
  -- what the length field counts of a frame with a body of n bytes, and the whole length that a field of this number tells
  pub counts : ℕ → ℕ
  pub whole : ℕ → ℕ
  -- house rule: the range of a whole length
  pub least : ℕ
  pub most : ℕ

-- where the length stands, the bytes up to its end, those before the body, and those beside it
abbrev pub length_at : Header → ℕ
length_at H = 1 + size H.before

abbrev pub length_end : Header → ℕ
length_end H = 3 + size H.before

abbrev pub start : Header → ℕ
start H = 3 + size H.before + size H.after

abbrev pub around : Header → ℕ
around H = 6 + size H.before + size H.after

-- the length: 9(4)
abbrev pub length_cells : List Cell
length_cells = digits 4 ∷ []

-- the whole header behind 27
abbrev pub head_cells : Header → List Cell
head_cells H = H.before ++ (length_cells ++ H.after)

abbrev pub length_bytes : Header → List ℕ → List ℕ
length_bytes H t = take 2 (drop (length_at H) t)

abbrev pub length_of : Header → List ℕ → ℕ
length_of H t = H.whole (value (length_bytes H t))

-- the frame's own bytes
abbrev pub own : Header → List ℕ → List ℕ
own H t = take (length_of H t) t

-- what stands between 27 and the check byte, which the check byte covers
abbrev pub inner : List ℕ → List ℕ
inner f = take (length f - 4) (drop 1 f)

-- the body: from behind the header up to the check byte
abbrev pub body : Header → List ℕ → List ℕ
body H f = take (length f - around H) (drop (start H) f)

-- the header's numbers beside the length: those before it, and those behind it
abbrev pub front : Header → List ℕ → List ℕ
front H f = decode H.before (drop 1 f)

abbrev pub rear : Header → List ℕ → List ℕ
rear H f = decode H.after (drop (length_end H) f)

-- none of them has a bad digit, and where the first bad one is
abbrev pub head_good : Header → List ℕ → Bool
head_good H f = good_cells H.before (drop 1 f) && good_cells H.after (drop (length_end H) f)

abbrev pub head_bad : Header → List ℕ → Option ℕ
head_bad H f = or_else (first_bad H.before 2 (drop 1 f)) (first_bad H.after (2 * length_end H) (drop (length_end H) f))

-- the check byte and the last two bytes
abbrev pub check_byte : List ℕ → ℕ
check_byte f = get_or f (length f - 3) 0

abbrev pub ended : List ℕ → Bool
ended f = eqb (get_or f (length f - 2) 0) 13 && eqb (get_or f (length f - 1) 0) 10

-- the digits of a length, and its range
abbrev pub right_length : Header → List ℕ → Bool
right_length H bs = good_field 4 bs && (leb H.least (H.whole (value bs)) && leb (H.whole (value bs)) H.most)

abbrev pub length_right : Header → List ℕ → Bool
length_right H t = right_length H (length_bytes H t)

-- the checks on a frame's own bytes: its end, the check byte, the header's digits
abbrev pub last_checks : Header → List ℕ → List Check
last_checks H f = must 4 (ended f) ∷ must 5 (eqb (check_byte f) (xor_of (inner f))) ∷ must 6 (head_good H f) ∷ []

-- the rules' checks up to the bad digit in the header
abbrev pub outline_checks : Header → List ℕ → List Check
outline_checks H t =
    must 2 (leb 1 (length t))
    ∷ must 1 (eqb (get_or t 0 0) 27)
    ∷ must 2 (leb (length_end H) (length t))
    ∷ must 3 (length_right H t)
    ∷ must 2 (leb (length_of H t) (length t))
    ∷ last_checks H (own H t)

-- where the bad digit is that an answer speaks of, in halves from the frame's first byte: beside 3 in the length, if one is the cause;
-- beside 6 in the rest of the header; beside no other
abbrev pub outline_place : Header → ℕ → List ℕ → Option ℕ
outline_place H n t =
    cond (eqb n 3) (first_bad length_cells (2 * length_at H) (length_bytes H t))
    (cond (eqb n 6) (head_bad H (own H t)) None)

-- the same checks by their names: the bytes t begin with a frame whose outline is whole
pub record Outlined (H : Header) (t : List ℕ) : Type 0 where
  pub some : leb 1 (length t) ≡ true
  pub starts : eqb (get_or t 0 0) 27 ≡ true
  pub headed : leb (length_end H) (length t) ≡ true
  pub lengthed : length_right H t ≡ true
  pub whole : leb (length_of H t) (length t) ≡ true
  pub ends : ended (own H t) ≡ true
  pub checked : eqb (check_byte (own H t)) (xor_of (inner (own H t))) ≡ true
  pub packed-head : head_good H (own H t) ≡ true
