-- A message written for a program in another language: what it answers, and the buffer afterwards.
use Rattle.std.specs.Prelude.{ℕ, List}
use Rattle.stock_frame.specs.Codec.{Codec, legal, frame_of}
use Rattle.stock_frame.specs.Writing.{write_answer, written_over}
use Rattle.c_outcomes.specs.Outcomes.{write_outcome}

-- 0 with the frame's length; 14 for a message that breaks a rule; then 15 for a buffer that is too short
abbrev pub written_outcome : {M : Type 0} → Codec M → M → List ℕ → ℕ
written_outcome C m buf = write_outcome (write_answer (legal C m) (frame_of C m) buf)

-- the frame and then the bytes that were behind it; a refusal leaves the buffer
abbrev pub written_bytes : {M : Type 0} → Codec M → M → List ℕ → List ℕ
written_bytes C m buf = written_over (legal C m) (frame_of C m) buf
