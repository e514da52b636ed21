-- A reading's answer before it told where a bad digit is. The answers of today are held against it.
use Rattle.std.specs.Prelude.{ℕ, cond, eqb, leb}
use Rattle.answers.specs.declared.Frame.{Frame}
use Rattle.answers.specs.declared.Answer.{Answer}
use Rattle.answers.specs.declared.Answer.TheVariants.{Accepted, NoFrame, Refused}

-- 0 with the frame; 1 to 5, the number alone; 6 to 13, with the length
pub data Said : Type 0 where
  accepted : Frame → Said
  no_frame : ℕ → Said
  refused : ℕ → ℕ → Said

-- the answer of a number
abbrev pub said : ℕ → Frame → Said
said n f = cond (eqb n 0) (accepted f) (cond (leb n 5) (no_frame n) (refused n f.length))

-- what an answer of today says without its place
abbrev pub unplaced : Answer → Said
unplaced (Accepted f) = accepted f
unplaced (NoFrame n p) = no_frame n
unplaced (Refused n l p) = refused n l
