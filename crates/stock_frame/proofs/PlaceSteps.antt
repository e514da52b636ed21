-- A place in a part of a frame, with the halves before that part.
use Rattle.std.specs.Prelude.{None, Option}
use Prim.Native.Nat.{ℕ, ◌+◌, ◌-◌, ◌≤◌, ◌<◌}
use mathlib.Core.Path.{◌≡◌, sym, ap, ◌∙◌}
use mathlib.Core.Bool.{Bool, cond}
use mathlib.Core.List.{List}
use native.Mathlib.Omega.{arith}
use lib.ListN.{length, take, drop, length-drop}
use lib.Seq.{take_all}
use borrow.Author.Tests.{le-leb, lt-leb}
use Rattle.digits.specs.Halves.{looked}
use Rattle.layout.specs.Cells.{Cell}
use Rattle.layout.specs.Places.{first_bad}
use Rattle.answers.specs.declared.Answer.TheVariants.{Refused}
use Rattle.stock_frame.specs.Outline.{kind_cells}
use Rattle.stock_frame.specs.Format.{around, body_half, digit_answer}

-- no part of a frame is longer than what is looked at
pub all-looked : (cs : List Cell) (s : List ℕ) (p : ℕ) → length s ≤ 1024 → first_bad cs p (looked s) ≡ first_bad cs p s
all-looked cs s p few = ap (first_bad cs p) (take_all 65535 s (omega arith))

-- bytes from the fourth on
pub head-part : (f : List ℕ) (p : Option ℕ) → p ≡ first_bad kind_cells 6 (take (length f - 3) (drop 3 f)) → p ≡ first_bad kind_cells 6 (drop 3 f)
head-part f p is = is ∙ ap (first_bad kind_cells 6) (take_all (length f - 3) (drop 3 f) (rw length-drop (omega arith)))

-- ---- a body with a bad digit
module _ (cs : List Cell) (b : List ℕ) where
  pub body-long : 1024 < around + length b → Refused 9 (around + length b) None ≡ digit_answer cs b
  body-long h =
      sym (ap (λ (t : Bool). cond t (Refused 11 (around + length b) (first_bad cs body_half b)) (Refused 9 (around + length b) None))
      (lt-leb (around + length b) 1024 h))

  pub body-digit : around + length b ≤ 1024 → (p : Option ℕ) → p ≡ first_bad cs body_half b → Refused 11 (around + length b) p ≡ digit_answer cs b
  body-digit h p is =
      ap (Refused 11 (around + length b)) is
      ∙ sym (ap (λ (t : Bool). cond t (Refused 11 (around + length b) (first_bad cs body_half b)) (Refused 9 (around + length b) None))
      (le-leb (around + length b) 1024 h))
