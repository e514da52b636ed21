-- Checks that go in order: the first that fails answers.
use Rattle.std.specs.Prelude.{ℕ, ◌≡◌, Bool, true, cond, List, [], ◌∷◌}

-- a check of the rules' table: the number that it answers, and what has to hold
pub data Check : Type 0 where
  must : ℕ → Bool → Check

-- the number of the first check that fails, or 0
abbrev pub first_fail : List Check → ℕ
first_fail [] = 0
first_fail (must n t ∷ checks) = cond t (first_fail checks) n

-- each check's test is true
abbrev pub all_hold : List Check → Type 0
all_hold [] = Unit
all_hold (must n test ∷ checks) = (test ≡ true) × all_hold checks
