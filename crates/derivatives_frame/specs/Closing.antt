-- A frame closed around a body that stands at its place in a buffer.
use Rattle.std.specs.Prelude.{ℕ, ◌^◌, Bool, ◌&&◌, List, [], ◌∷◌, leb, ltb, Result}
use Rattle.frame.specs.Writing as common
use Rattle.derivatives_frame.specs.Outline.{header}
use Rattle.answers.specs.declared.WriteError.{WriteError}

-- the header's numbers
abbrev pub head_numbers : ℕ → ℕ → ℕ → ℕ → ℕ → List ℕ
head_numbers market kind sent seq version = market ∷ kind ∷ sent ∷ seq ∷ version ∷ []

-- a frame of n bytes can stand at the start of a buffer: its header's numbers fit their cells, and n is a length
abbrev pub closable : ℕ → ℕ → ℕ → ℕ → Bool
closable sent seq version n = ltb sent (10 ^ 8) && (ltb seq (10 ^ 8) && (ltb version 100 && (leb 17 n && leb n 1024)))

-- what closing the frame of n bytes around its body answers, and the buffer afterwards
abbrev pub close_answer : ℕ → ℕ → ℕ → ℕ → List ℕ → Result ℕ WriteError
close_answer sent seq version n buf = common.close_answer (closable sent seq version n) n buf

abbrev pub closed_over : ℕ → ℕ → ℕ → ℕ → ℕ → ℕ → List ℕ → List ℕ
closed_over market kind sent seq version n buf =
    common.closed_over header (closable sent seq version n) (head_numbers market kind sent seq version) [] n buf
