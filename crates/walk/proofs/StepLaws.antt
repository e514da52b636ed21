-- A step of a line's walk by its number and its values: those of what the reading says at its place.
use Rattle.std.specs.Prelude.{None, Some}
use Prim.Native.Nat.{ℕ}
use mathlib.Core.Path.{◌≡◌, refl, sym}
use mathlib.Core.Bool.{Bool, true, false, cond}
use mathlib.Core.List.{List, ◌∷◌}
use lib.ListN.{drop}
use borrow.Author.Tests.{eqb-true}
use Rattle.digits.proofs.Bools.{and_left}
use Rattle.answers.specs.Answers.{answer_number, answer_values}
use Rattle.answers.specs.declared.Answer.{Answer}
use Rattle.walk.specs.Walk.{Reading, taken, stops}
use Rattle.walk.specs.Answers.{answering}
use Rattle.walk.specs.Lines.{move_at, step_number, step_values}

module _ (says : List ℕ → Answer) (closed : Bool) (at : ℕ) (line : List ℕ) where
  abbrev R : Reading Answer
  R = answering says

  abbrev from : List ℕ
  from = drop at line

  -- a step has the answer number that the reading gives at its place
  pub step-number : step_number (move_at says closed at line) ≡ answer_number (says from)
  step-number = go (stops R closed from) refl
    where
      go : (b : Bool) → stops R closed from ≡ b
          → step_number (cond b None (Some (record { at = at; bytes = taken R (says from); answer = says from }))) ≡ answer_number (says from)
      go true e = sym (eqb-true (answer_number (says from)) 2 (and_left _ _ e))
      go false e = refl

  -- and a move its place, its bytes and the answer's values
  pub step-values : stops R closed from ≡ false → step_values (move_at says closed at line) ≡ at ∷ taken R (says from) ∷ answer_values (says from)
  step-values e = rw e
