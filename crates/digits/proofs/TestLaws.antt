-- A list of tests taken apart and put together: all hold exactly when each does.
use Prim.Native.Nat.{ℕ, zero, suc}
use mathlib.Core.Path.{◌≡◌, refl}
use mathlib.Core.Bool.{Bool, true, false}
use mathlib.Core.List.{List, [], ◌∷◌}
use lib.ListN.{get_or}
use Rattle.digits.specs.Tests.{all_of}
use Rattle.digits.proofs.Bools.{no_false, and_both}

-- the test at a place holds where all do: `holds (a ∷ b ∷ c ∷ []) h 1 : b ≡ true` from `h : (a && (b && c)) ≡ true`
pub holds : (bs : List Bool) → all_of bs ≡ true → (i : ℕ) → get_or bs i true ≡ true
holds [] h i = refl
holds (b ∷ []) h zero = h
holds (b ∷ []) h (suc i) = refl
holds (true ∷ c ∷ bs) h zero = refl
holds (true ∷ c ∷ bs) h (suc i) = holds (c ∷ bs) h i
holds (false ∷ c ∷ bs) h i = absurd (no_false h)

-- each test of a list holds
pub data Each : List Bool → Type 0 where
  all : Each []
  ◌also◌ : {b : Bool} {bs : List Bool} → b ≡ true → Each bs → Each (b ∷ bs)

infixr 4 ◌also◌
-- all hold where each does: `together _ (p also q also r also all) : (a && (b && c)) ≡ true`
pub together : (bs : List Bool) → Each bs → all_of bs ≡ true
together [] all = refl
together (b ∷ []) (p also all) = p
together (b ∷ c ∷ bs) (p also ps) = and_both p (together (c ∷ bs) ps)
