-- The figures that stand beside an answer's number, and no others: of an outline by any header, and of a writing.
use Rattle.std.specs.Prelude.{ℕ, ◌≤◌, ◌<◌, ◌≡◌, Bool, true, false, cond, ◌&&◌, List, [], ◌∷◌, eqb, leb, Option, Result}
use Rattle.layout.specs.Checks.{Check, must, first_fail}
use Rattle.answers.specs.Answers.{place_values, written_number, written_values}
use Rattle.frame.specs.Header.{Header, length_of, outline_checks, outline_place}
use Rattle.answers.specs.declared.WriteError.{WriteError}

-- what the rules put beside a number: all figures beside 0, no length beside 1 to 5, the length beside the others; and beside any but 0
-- the place of a bad digit, if there is one
abbrev pub beside : ℕ → List ℕ → ℕ → Option ℕ → List ℕ
beside n all length p = cond (eqb n 0) all (cond (leb n 5) (place_values p) (length ∷ place_values p))

-- every check's number is at most k
abbrev pub at_most : ℕ → List Check → Bool
at_most k [] = true
at_most k (must n t ∷ checks) = leb n k && at_most k checks

-- an outline's number is the first check's that fails, at most 6, and beside it stands what the rules name, of a whole one all of its header
pub record OutlineTells (H : Header) (t all : List ℕ) (number : ℕ) (told : List ℕ) : Type 0 where
  pub first : number ≡ first_fail (outline_checks H t)
  pub at-most : number ≤ 6
  pub values : told ≡ beside number all (length_of H t) (outline_place H number t)

-- what writing a frame of n bytes into so much room answers: 0 with the length, else 14 or 15 alone
pub record WriteSays (legal : Bool) (n room : ℕ) (w : Result ℕ WriteError) : Type 0 where
  pub written : legal ≡ true → n ≤ room → (written_number w ≡ 0) × (written_values w ≡ n ∷ [])
  pub illegal : legal ≡ false → (written_number w ≡ 14) × (written_values w ≡ [])
  pub no_room : legal ≡ true → room < n → (written_number w ≡ 15) × (written_values w ≡ [])
