-- What a look over a record tells of its figures and runs.
use Prim.Native.Nat.{ℕ, ◌+◌, ◌-◌, ◌*◌, ◌/◌, ◌≤◌, ◌<◌}
use native.Mathlib.Omega.{arith}
use mathlib.Core.Path.{◌≡◌, refl, ◌∙◌}
use mathlib.Core.Bool.{Bool, true, false}
use lib.ListN.{length, get_or}
use Rattle.std.specs.Prelude.{Ok, Err}
use Rattle.ledger.specs.Ends.{places, falling, ends_from, floor_fits}
use Rattle.ledger.specs.Calls.{most_number, valid, figure_by, figure_of}
use Rattle.ledger.specs.declared.Ledger.{Ledger}
use Rattle.ledger.specs.declared.LedgerError.{LedgerError}
use Rattle.ledger.proofs.ArriveLaws.{valid-is}
use Rattle.ledger.proofs.EndLaws.{both_left, from-length, falls-bound}
use Rattle.ledger_ends.specs.Looking.{seen_of}
use Rattle.ledger_ends.specs.declared.Damage.{Damage}
use Rattle.ledger_ends.proofs.SeenLaws.{seen-found, seen-refused}

module _ (l : Ledger) (whole : length l.ends ≡ places) where
  -- what is seen of a record that has its places is a figure of it
  pub seen-figure : (x : ℕ) → Ok x ≡ seen_of 1 l.ends l.floor l.given → Ok x ≡ figure_of l (ends_from 1 l.ends)
  seen-figure x is =
      let found = seen-found 1 l x is in
      rw (found.ok, found.count) refl

  -- and damage refuses it
  pub seen-damaged : (d : Damage) → Err d ≡ seen_of 1 l.ends l.floor l.given → Err LedgerError.Damaged ≡ figure_of l (ends_from 1 l.ends)
  seen-damaged d is =
      let refused = seen-refused 1 l d is LedgerError.Damaged refl in
      rw (refused.invalid whole) refl

  -- a figure that is told: the record is valid
  module _ (x : ℕ) (is : Ok x ≡ figure_of l (ends_from 1 l.ends)) where
    told : (valid l ≡ true) × (x ≡ ends_from 1 l.ends)
    told = go (valid l) refl is
      where
        go : (t : Bool) → valid l ≡ t → Ok x ≡ figure_by t (ends_from 1 l.ends) → (valid l ≡ true) × (x ≡ ends_from 1 l.ends)
        go true p found = (p, cc)
        go false p found = let z : ◌≡◌ {A = ℕ} 0 1 = cc in absurd (omega arith)

    -- the place of a run's ends is in the list, and the run can be told
    pub run-within : (k : ℕ) → k < x / 2 → 2 * (x / 2 - k) < places
    run-within k lt = omega (arith, told.1, from-length 1 l.ends)

    pub end-small : (i : ℕ) → get_or l.ends i 0 ≤ most_number
    end-small i =
        let falls = both_left (falling (most_number + 1) l.ends) (floor_fits l.floor l.given l.ends) (valid-is l ∙ told.0) in
        omega (arith, falls-bound (most_number + 1) l.ends i falls)
