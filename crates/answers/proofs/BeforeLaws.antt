-- An answer of a number says what it said before, whatever place it tells.
use Rattle.std.specs.Prelude.{Option}
use Prim.Native.Nat.{ℕ}
use mathlib.Core.Path.{◌≡◌, refl}
use mathlib.Core.Bool.{Bool, true, false, cond}
use lib.Dec.{eqb, leb}
use Rattle.answers.specs.declared.Frame.{Frame}
use Rattle.answers.specs.declared.Answer.TheVariants.{Accepted, NoFrame, Refused}
use Rattle.answers.specs.Answers.{named}
use Rattle.answers.specs.Before.{accepted, no_frame, refused, said, unplaced}

pub unplaced-named : (n : ℕ) (f : Frame) (p : Option ℕ) → unplaced (named n f p) ≡ said n f
unplaced-named n f p = go (eqb n 0) (leb n 5)
  where
    go : (x y : Bool) → unplaced (cond x (Accepted f) (cond y (NoFrame n p) (Refused n f.length p))) ≡ cond x (accepted f) (cond y (no_frame n) (refused n f.length))
    go true y = refl
    go false true = refl
    go false false = refl
