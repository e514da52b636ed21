-- A frame written: 27, what it covers, the check byte, 0D 0A; and what a writing answers and leaves.
use Rattle.std.specs.Prelude.{ℕ, ◌^◌, Bool, ◌&&◌, List, [], ◌∷◌, leb, ltb, Result}
use Rattle.layout.specs.Cells.{Cell, encode}
use Rattle.frame.specs.Writing as common
pub use Rattle.frame.specs.Writing.{sealed, write_answer, written_over}
use Rattle.stock_frame.specs.Outline.{header}
use Rattle.stock_frame.specs.Format.{Format}
use Rattle.answers.specs.declared.WriteError.{WriteError}

-- the header's numbers
abbrev pub head_values : ℕ → ℕ → ℕ → ℕ → List ℕ
head_values len format version seq = len ∷ 1 ∷ format ∷ version ∷ seq ∷ []

-- a frame around a body
abbrev pub frame_around : ℕ → ℕ → ℕ → List ℕ → List ℕ
frame_around format version seq b = common.frame_around header [] (1 ∷ format ∷ version ∷ seq ∷ []) b

-- a frame of a format with a layout and its numbers
abbrev pub frame_bytes : Format → ℕ → List Cell → List ℕ → List ℕ
frame_bytes F seq cs vs = frame_around F.number F.version seq (encode cs vs)

-- a frame of n bytes can stand at the start of a buffer: its header's numbers fit their cells, and n is a length
abbrev pub closable : ℕ → ℕ → ℕ → ℕ → Bool
closable format version seq n = ltb format 100 && (ltb version 100 && (ltb seq (10 ^ 8) && (leb 14 n && leb n 1024)))

-- the body stands at its place in the buffer: what closing the frame of n bytes around it answers, and the buffer afterwards
abbrev pub close_answer : ℕ → ℕ → ℕ → ℕ → List ℕ → Result ℕ WriteError
close_answer format version seq n buf = common.close_answer (closable format version seq n) n buf

abbrev pub closed_over : ℕ → ℕ → ℕ → ℕ → List ℕ → List ℕ
closed_over format version seq n buf = common.closed_over header (closable format version seq n) [] (1 ∷ format ∷ version ∷ seq ∷ []) n buf
