-- A format's messages: the numbers that a message stands for, and the message that numbers stand for.
use Rattle.std.specs.Prelude.{ℕ, ◌^◌, Bool, List, [], ◌∷◌, ltb}
use Rattle.digits.specs.Tests.{all_of}
use Rattle.layout.specs.Cells.{Cell, size, fits}
use Rattle.stock_frame.specs.Format.{Format, ranged}
use Rattle.stock_frame.specs.Writing.{frame_bytes}

pub record Codec (M : Type 0) : Type 0 where
  pub form : Format
  -- of a message: its number, the cells of its body, and the numbers in them
  pub seq : M → ℕ
  pub cells : M → List Cell
  pub values : M → List ℕ
  -- what the cells do not hold: unused places are zero, and what is said twice agrees
  pub tidy : M → Bool
  -- the message of a number and the numbers in a body
  pub message : ℕ → List ℕ → M

-- what a message has to keep: each field's rule and range
abbrev pub legal_tests : {M : Type 0} → Codec M → M → List Bool
legal_tests C m =
    ltb (C.seq m) (10 ^ 8)
    ∷ ranged C.form (size (C.cells m))
    ∷ C.form.levels (C.values m)
    ∷ fits (C.cells m) (C.values m)
    ∷ C.form.timed (C.values m)
    ∷ C.form.ruled (C.values m)
    ∷ C.tidy m
    ∷ []

-- a message that breaks none of them
abbrev pub legal : {M : Type 0} → Codec M → M → Bool
legal C m = all_of (legal_tests C m)

-- the frame of a message
abbrev pub frame_of : {M : Type 0} → Codec M → M → List ℕ
frame_of C m = frame_bytes C.form (C.seq m) (C.cells m) (C.values m)
