-- Which check of a body answers: the first that fails, where those before it hold; and what that answer is.
use Rattle.std.specs.Prelude.{None}
use Prim.Native.Nat.{ℕ, ◌+◌, ◌≤◌}
use mathlib.Core.Path.{◌≡◌, sym, ap, ◌∙◌}
use mathlib.Core.Bool.{Bool, true, false, cond}
use mathlib.Core.List.{List}
use lib.ListN.{length}
use lib.Dec.{eqb, leb}
use borrow.Author.Tests.{le-leb}
use Rattle.layout.specs.Cells.{Cell, size, good_cells}
use Rattle.layout.specs.Places.{first_bad}
use Rattle.layout.specs.Checks.{first_fail}
use Rattle.answers.specs.Answers.{named}
use Rattle.answers.specs.declared.Answer.TheVariants.{Refused}
use Rattle.stock_frame.specs.Format.{Format, values_of, around, ranged, body_checks, body_half, body_place, body_answer, digit_answer}

module _ (F : Format) (b : List ℕ) where
  pub fails-range : ranged F (length b) ≡ false → first_fail (body_checks F b) ≡ 9
  fails-range e = rw e

  module _ (within-range : ranged F (length b) ≡ true) where
    pub fails-levels : F.levels (values_of F b) ≡ false → first_fail (body_checks F b) ≡ 10
    fails-levels e = rw (within-range, e)

    module _ (levelled : F.levels (values_of F b) ≡ true) where
      pub fails-size : eqb (size (F.cells b)) (length b) ≡ false → first_fail (body_checks F b) ≡ 9
      fails-size e = rw (within-range, levelled, e)

      module _ (sized : eqb (size (F.cells b)) (length b) ≡ true) where
        pub fails-digits : good_cells (F.cells b) b ≡ false → first_fail (body_checks F b) ≡ 11
        fails-digits e = rw (within-range, levelled, sized, e)

        module _ (good-digits : good_cells (F.cells b) b ≡ true) where
          pub fails-times : F.timed (values_of F b) ≡ false → first_fail (body_checks F b) ≡ 12
          fails-times e = rw (within-range, levelled, sized, good-digits, e)

          pub fails-fields : F.timed (values_of F b) ≡ true → F.ruled (values_of F b) ≡ false → first_fail (body_checks F b) ≡ 13
          fails-fields t e = rw (within-range, levelled, sized, good-digits, t, e)

          pub fails-none : F.timed (values_of F b) ≡ true → F.ruled (values_of F b) ≡ true → first_fail (body_checks F b) ≡ 0
          fails-none t e = rw (within-range, levelled, sized, good-digits, t, e)

-- ---- the answer of the check that fails first
module _ (F : Format) (seq : ℕ) (b : List ℕ) where
  answer-of : (n : ℕ) → first_fail (body_checks F b) ≡ n
      → named n (record { format = F.number; seq = seq; length = around + length b }) (body_place F b n) ≡ body_answer F seq b
  unfolding body_answer
  answer-of n e = ap (λ (k : ℕ). named k (record { format = F.number; seq = seq; length = around + length b }) (body_place F b k)) (sym e)

  -- no bad digit: the number and the length
  pub refused-answer : (n : ℕ) → first_fail (body_checks F b) ≡ n → eqb n 0 ≡ false → leb n 5 ≡ false → eqb n 11 ≡ false
      → Refused n (around + length b) None ≡ body_answer F seq b
  refused-answer n e z s d = sym (rw (z, s, d)) ∙ answer-of n e

  -- a bad digit: 11, with the place that the cells tell
  pub digit-answer : (cs : List Cell) → first_bad cs body_half b ≡ first_bad (F.cells b) body_half b → around + length b ≤ 1024
      → first_fail (body_checks F b) ≡ 11 → digit_answer cs b ≡ body_answer F seq b
  digit-answer cs same h e =
      ap (λ (t : Bool). cond t (Refused 11 (around + length b) (first_bad cs body_half b)) (Refused 9 (around + length b) None)) (le-leb (around + length b) 1024 h)
      ∙ ap (Refused 11 (around + length b)) same
      ∙ answer-of 11 e
