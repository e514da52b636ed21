-- What a look over a record finds of a number.
use Rattle.std.specs.Prelude.{ℕ, ◌+◌, ◌≤◌, ◌≡◌, true, cond, ◌&&◌, List, length, take, drop, eqb, Result, Ok, Err}
use Rattle.ledger.specs.Ends.{places, falling, ends_from, floor_fits}
use Rattle.ledger.specs.Calls.{most_number}
use Rattle.ledger_ends.specs.declared.Damage.{Damage}

-- how many ends are a number or above it: Ok where they fall from the largest number that may arrive
abbrev pub found_in : ℕ → List ℕ → Result ℕ Damage
found_in n es = cond (falling (most_number + 1) es) (Ok (ends_from n es)) (Err (record { from = ends_from n es }))

-- a place from which on all ends are 0, so that what is found before it is found in all
pub record Reach (to n : ℕ) (es : List ℕ) : Type 0 where
  pub within : to ≤ places
  pub zeros : ends_from 1 (drop to es) ≡ 0
  pub found : found_in n (take to es) ≡ found_in n es

-- ends that are no more than a record's, in order
pub record InOrder (es : List ℕ) : Type 0 where
  pub few : length es ≤ places
  pub falls : falling (most_number + 1) es ≡ true

-- nothing is in order in a list that has not as many places as a record, or beside a floor that does not fit
abbrev pub seen_of : ℕ → List ℕ → ℕ → ℕ → Result ℕ Damage
seen_of n es floor given =
    cond (eqb (length es) places)
    (cond (falling (most_number + 1) es && floor_fits floor given es) (Ok (ends_from n es)) (Err (record { from = ends_from n es })))
    (Err (record { from = 0 }))
