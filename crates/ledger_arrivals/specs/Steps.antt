-- What the functions of an arrival hand on to each other.
use Rattle.std.specs.Prelude.{ℕ, ◌+◌, ◌-◌, ◌≤◌, ◌<◌, ◌≡◌, true, cond, List, length, get_or, ltb, Result, Ok, Err}
use Rattle.ledger.specs.Ends.{places, falling, ends_from, runs_in, fitted}
use Rattle.ledger.specs.Calls.{most_number, most_runs}
use Rattle.ledger.specs.declared.Arrival.{Arrival}
use Rattle.ledger.specs.declared.LedgerError.{LedgerError}

-- the ends of a record, and a place of it with one behind
pub record RoomAt (at : ℕ) (es : List ℕ) : Type 0 where
  pub whole : length es ≡ places
  pub falls : falling (most_number + 1) es ≡ true
  pub two-places : at + 2 ≤ places

-- no end lies between two numbers: `at` ends are the upper one or above it, and no more are above the lower one
pub record NoneBetween (at before last : ℕ) (es : List ℕ) : Type 0 where
  pub whole : length es ≡ places
  pub falls : falling (most_number + 1) es ≡ true
  pub in_list : at < places
  pub ends_above : ends_from last es ≡ at
  pub none_between : ends_from (before + 1) es ≡ at
  pub in_order : before < last

-- nor at either: no settled stretch begins behind the upper one or ends with the lower one
pub record Alone (at before last : ℕ) (es : List ℕ) : Type 0 where
  pub between : NoneBetween at before last es
  pub apart_above : 0 < at → get_or es (at - 1) 0 ≡ last → ⊥
  pub apart_below : get_or es at 0 ≡ before → ⊥

-- what recording leads to: more than 64 runs and no change, or these ends
abbrev pub taken_answer : List ℕ → Result Arrival LedgerError
taken_answer more = cond (ltb most_runs (runs_in more)) (Err LedgerError.TooManyRuns) (Ok Arrival.New)

abbrev pub taken_ends : List ℕ → List ℕ → List ℕ
taken_ends more es = cond (ltb most_runs (runs_in more)) es (fitted more)
