-- The numbers that a list of checks may answer, and the length and place of an answer that was named by them.
use Rattle.std.specs.Prelude.{None, Option}
use Prim.Native.Nat.{ℕ, ◌≤◌}
use mathlib.Core.Path.{◌≡◌, refl, sym}
use mathlib.Core.Bool.{Bool, true, false, cond}
use mathlib.Core.List.{List, [], ◌∷◌}
use mathlib.Core.Logic.{◌⊎◌, inl, inr}
use native.Mathlib.Omega.{arith}
use lib.Dec.{eqb, leb}
use borrow.Author.Tests.{eqb-true, eqb-false, leb-true}
use Rattle.digits.proofs.Bools.{and_left, and_right}
use Rattle.layout.specs.Checks.{Check, must, first_fail}
use Rattle.answers.specs.Answers.{named, answer_length, answer_place}
use Rattle.answers.specs.declared.Frame.{Frame}
use Rattle.answers.specs.declared.Answer.TheVariants.{Accepted, NoFrame, Refused}
pub use Rattle.frame.proofs.FigureLaws.{fails-at-most, number-named, values-named}
use Rattle.exchange.specs.Reading.{at_least}

-- ---- a list of checks
pub fails-at-least : (k : ℕ) (checks : List Check) → at_least k checks ≡ true → (first_fail checks ≡ 0) ⊎ (k ≤ first_fail checks)
fails-at-least k [] h = inl refl
fails-at-least k (must n true ∷ checks) h = fails-at-least k checks (and_right (leb k n) _ h)
fails-at-least k (must n false ∷ checks) h = inr (leb-true k n (and_left _ _ h))

-- ---- an answer made of a number, a frame and a place
module _ (n : ℕ) (f : Frame) (p : Option ℕ) where
  -- beside a number that is none of 1 to 5 stands the frame's length
  pub length-named : (1 ≤ n → n ≤ 5 → ⊥) → answer_length (named n f p) ≡ f.length
  length-named h = go (eqb n 0) (leb n 5) refl refl
    where
      go : (x y : Bool) → eqb n 0 ≡ x → leb n 5 ≡ y → answer_length (cond x (Accepted f) (cond y (NoFrame n p) (Refused n f.length p))) ≡ f.length
      go true y e q = refl
      go false true e q = absurd (h (omega (arith, eqb-false n 0 e)) (leb-true n 5 q))
      go false false e q = refl

  pub place-named : (n ≡ 0 → p ≡ None) → answer_place (named n f p) ≡ p
  place-named h = go (eqb n 0) (leb n 5) refl
    where
      go : (x y : Bool) → eqb n 0 ≡ x → answer_place (cond x (Accepted f) (cond y (NoFrame n p) (Refused n f.length p))) ≡ p
      go true y e = sym (h (eqb-true n 0 e))
      go false true e = refl
      go false false e = refl

  pub named-accepted : (g : Frame) → named n f p ≡ Accepted g → f ≡ g
  named-accepted g e = go (eqb n 0) (leb n 5) e
    where
      go : (t u : Bool) → cond t (Accepted f) (cond u (NoFrame n p) (Refused n f.length p)) ≡ Accepted g → f ≡ g
      go true u q = cc
      go false true q = cc
      go false false q = cc
