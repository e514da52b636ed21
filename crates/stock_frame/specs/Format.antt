-- A format: its number, version and range of lengths, the cells of its body, and the rules on what the cells hold.
use Rattle.std.specs.Prelude.{ℕ, ◌+◌, Bool, cond, ◌&&◌, List, [], ◌∷◌, length, eqb, leb, None, Option}
use Rattle.layout.specs.Cells.{Cell, size, good_cells, decode}
use Rattle.layout.specs.Places.{first_bad}
use Rattle.layout.specs.Checks.{Check, must, first_fail}
use Rattle.answers.specs.Answers.{named}
use Rattle.answers.specs.declared.Answer.{Answer}
use Rattle.answers.specs.declared.Answer.TheVariants.{Refused}

pub record Format : Type 0 where
  pub number : ℕ
  pub version : ℕ
  -- the range of the whole length
  pub least : ℕ
  pub most : ℕ
  -- the cells of the body, which its bytes may tell
  pub cells : List ℕ → List Cell
  -- checks 10, 12 and 13, of the numbers that the cells hold
  pub levels : List ℕ → Bool
  pub timed : List ℕ → Bool
  pub ruled : List ℕ → Bool

-- the numbers in a body
abbrev pub values_of : Format → List ℕ → List ℕ
values_of F b = decode (F.cells b) b

-- the bytes of a frame beside its body
abbrev pub around : ℕ
around = 13

-- a body's length is within the format's range
abbrev pub ranged : Format → ℕ → Bool
ranged F n = leb F.least (around + n) && leb (around + n) F.most

-- the rules' checks from the format's range on
abbrev pub body_checks : Format → List ℕ → List Check
body_checks F b =
    must 9 (ranged F (length b))
    ∷ must 10 (F.levels (values_of F b))
    ∷ must 9 (eqb (size (F.cells b)) (length b))
    ∷ must 11 (good_cells (F.cells b) b)
    ∷ must 12 (F.timed (values_of F b))
    ∷ must 13 (F.ruled (values_of F b))
    ∷ []

-- the halves of a frame before its body
abbrev pub body_half : ℕ
body_half = 20

-- where the bad digit is that an answer to a body speaks of, in halves from the frame's first byte: beside 11 in the cells of the body;
-- beside no other
abbrev pub body_place : Format → List ℕ → ℕ → Option ℕ
body_place F b n = cond (eqb n 11) (first_bad (F.cells b) body_half b) None

-- what a body in a whole outline answers
unfoldable pub body_answer : Format → ℕ → List ℕ → Answer
body_answer F seq b =
    let n = first_fail (body_checks F b) in
    named n (record { format = F.number; seq = seq; length = around + length b }) (body_place F b n)

-- what a body answers that has a bad digit in its cells: 11 with its place; one that no frame has room for answers 9
abbrev pub digit_answer : List Cell → List ℕ → Answer
digit_answer cs b =
    cond (leb (around + length b) 1024) (Refused 11 (around + length b) (first_bad cs body_half b)) (Refused 9 (around + length b) None)
