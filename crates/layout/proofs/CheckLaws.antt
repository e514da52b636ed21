-- Laws of checks in order: none fails exactly when each holds.
use Prim.Native.Nat.{ℕ, zero, suc}
use mathlib.Core.Path.{◌≡◌, refl, sym, ap, ◌∙◌}
use mathlib.Core.Bool.{Bool, true, false, cond}
use mathlib.Core.List.{List, [], ◌∷◌, ◌++◌}
use native.Mathlib.Omega.{arith}
use lib.Dec.{eqb, eqb-suc-zero}
use borrow.Author.Tests.{eqb-false}
use Rattle.digits.proofs.Bools.{no_false}
use Rattle.layout.specs.Checks.{Check, must, first_fail, all_hold}

-- a check that holds is passed, and one that fails answers
pub pass : (n : ℕ) {t : Bool} (checks : List Check) → t ≡ true → first_fail (must n t ∷ checks) ≡ first_fail checks
pass n checks e = rw e

pub fail : (n : ℕ) {t : Bool} (checks : List Check) → t ≡ false → first_fail (must n t ∷ checks) ≡ n
fail n checks e = rw e

-- a check's part in "none fails"
pub passes : (n : ℕ) {t : Bool} (checks : List Check) → t ≡ true → first_fail checks ≡ 0 → cond t (first_fail checks) n ≡ 0
passes n checks e p = pass n checks e ∙ p

module _ (n : ℕ) (t : Bool) (checks : List Check) (p : first_fail (must (suc n) t ∷ checks) ≡ 0) where
  pub check-holds : t ≡ true
  check-holds = go t p
    where
      go : (u : Bool) → cond u (first_fail checks) (suc n) ≡ 0 → u ≡ true
      go true q = refl
      go false q = absurd (omega arith)

  pub checks-after : first_fail checks ≡ 0
  checks-after = go t p
    where
      go : (u : Bool) → cond u (first_fail checks) (suc n) ≡ 0 → first_fail checks ≡ 0
      go true q = q
      go false q = absurd (omega arith)

-- a check is passed where something else is answered
pub check-passed : (m n : ℕ) (t : Bool) (checks : List Check) → first_fail (must n t ∷ checks) ≡ m → (m ≡ n → ⊥) → (t ≡ true) × (first_fail checks ≡ m)
check-passed m n true checks p other = (refl, p)
check-passed m n false checks p other = absurd (other (sym p))

-- no check answers a number
abbrev pub silent : ℕ → List Check → Bool
silent m [] = true
silent m (must n t ∷ checks) = cond (eqb m n) false (silent m checks)

pub silent-answers : (m : ℕ) (checks : List Check) → silent m checks ≡ true → first_fail checks ≡ m → m ≡ 0
silent-answers m [] s p = sym p
silent-answers m (must n t ∷ checks) s p = go (eqb m n) refl s t p (λ x. silent-answers m checks x)
  where
    go : (b : Bool) → eqb m n ≡ b → cond b false (silent m checks) ≡ true → (u : Bool) → cond u (first_fail checks) n ≡ m
        → (silent m checks ≡ true → first_fail checks ≡ m → m ≡ 0) → m ≡ 0
    go true e q u f ih = absurd (no_false q)
    go false e q true f ih = ih q f
    go false e q false f ih = absurd (eqb-false m n e (sym f))

-- no check answers 0
abbrev pub numbered : List Check → Bool
numbered [] = true
numbered (must zero t ∷ checks) = false
numbered (must (suc n) t ∷ checks) = numbered checks

-- the first failure among some checks and then others
pub first_fail-append : (checks more : List Check) → numbered checks ≡ true
    → first_fail (checks ++ more) ≡ cond (eqb (first_fail checks) 0) (first_fail more) (first_fail checks)
first_fail-append [] more h = refl
first_fail-append (must zero t ∷ checks) more h = absurd (no_false h)
first_fail-append (must (suc n) true ∷ checks) more h = first_fail-append checks more h
first_fail-append (must (suc n) false ∷ checks) more h = sym (ap (λ (t : Bool). cond t (first_fail more) (suc n)) (eqb-suc-zero n))

-- no check of a list fails exactly when all hold
pub none-fails : (checks : List Check) → all_hold checks → first_fail checks ≡ 0
none-fails [] h = refl
none-fails (must n test ∷ checks) h = rw h.0 (none-fails checks h.1)

pub all_hold_lem : (checks : List Check) → numbered checks ≡ true → first_fail checks ≡ 0 → all_hold checks
all_hold_lem [] h p = tt
all_hold_lem (must zero test ∷ checks) h p = absurd (no_false h)
all_hold_lem (must (suc n) test ∷ checks) h p = (check-holds n test checks p, all_hold_lem checks h (checks-after n test checks p))

-- an answer that one check alone gives: those before it hold, and it does not
pub only-fails : (m : ℕ) (before : List Check) (t : Bool) (after : List Check) → silent m before ≡ true → silent m after ≡ true → (m ≡ 0 → ⊥)
    → first_fail (before ++ (must m t ∷ after)) ≡ m → all_hold before × (t ≡ false)
only-fails m [] true after s u z p = absurd (z (silent-answers m after u p))
only-fails m [] false after s u z p = (tt, refl)
only-fails m (must n test ∷ before) t after s u z p = go (eqb m n) refl s test p (λ x. only-fails m before t after x u z)
  where
    go : (b : Bool) → eqb m n ≡ b → cond b false (silent m before) ≡ true → (v : Bool) → cond v (first_fail (before ++ (must m t ∷ after))) n ≡ m
        → (silent m before ≡ true → first_fail (before ++ (must m t ∷ after)) ≡ m → all_hold before × (t ≡ false))
        → ((v ≡ true) × all_hold before) × (t ≡ false)
    go true e q v f ih = absurd (no_false q)
    go false e q true f ih = let r = ih q f in ((refl, r.0), r.1)
    go false e q false f ih = absurd (eqb-false m n e (sym f))
