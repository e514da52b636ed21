-- A day's history: a series of arrivals and give-ups from a fresh ledger, the latest first, and what the calls have to tell after it.
use Rattle.std.specs.Prelude.{ℕ, ◌+◌, ◌≤◌, ◌<◌, max, ◌≡◌, Bool, false, cond, ◌&&◌, ◌||◌, List, [], ◌∷◌, ◌↔◌, length, leb, ltb, eqb, Result, Ok, Err}
use Rattle.ledger.specs.Sets.{with, settled, runs_to, ends_run, first_above, TrueOf}
use Rattle.ledger.specs.Ends.{places}
use Rattle.ledger.specs.Calls.{most_number, most_runs, answer_number, fresh, arrived_of, gave_up_of, lent_arrived_of, lent_gave_up_of, highest_of, heard_of, missing_of, runs_of, floor_of, given_up_of, run_of, run_from}
use Rattle.ledger.specs.declared.Ledger.{Ledger}
use Rattle.ledger.specs.declared.Arrival.{Arrival}
use Rattle.ledger.specs.declared.Run.{Run}
use Rattle.ledger.specs.declared.LedgerError.{LedgerError}

-- what happens at a ledger: a number arrives, or the lowest missing run is given up
pub data Event : Type 0 where
  arrives : ℕ → Event
  gives_up : Event

-- the ledger that a series leaves
abbrev pub after : List Event → Ledger
after [] = fresh
after (arrives n ∷ hs) = (arrived_of (after hs) n).ledger
after (gives_up ∷ hs) = (gave_up_of (after hs)).ledger

-- what an arrival is answered after a series, and giving up
abbrev pub answer_to : List Event → ℕ → Result Arrival LedgerError
answer_to hs n = (arrived_of (after hs) n).answer

abbrev pub giving_up : List Event → Result Run LedgerError
giving_up hs = (gave_up_of (after hs)).answer

-- a number is recorded when at least one arrival of it was not refused
abbrev pub recorded : List Event → ℕ → Bool
recorded [] y = false
recorded (arrives n ∷ hs) y = (eqb y n && eqb (answer_number (answer_to hs n)) 0) || recorded hs y
recorded (gives_up ∷ hs) y = recorded hs y

-- giving up moves the floor to where the lowest run above it ends that was never recorded; without such a run it stays
abbrev pub floor_after : List Event → ℕ
floor_after [] = 0
floor_after (arrives n ∷ hs) = floor_after hs
floor_after (gives_up ∷ hs) = first_above (ends_run (recorded hs)) (floor_after hs) most_number

-- a record that some series of arrivals and give-ups from fresh leaves
abbrev pub Reached : Ledger → Type 0
Reached l = (hs : List Event) × (after hs ≡ l)

-- what the calls tell of a ledger is true of a set and a floor
pub record Tells (f : ℕ → Bool) (floor : ℕ) (l : Ledger) : Type 0 where
  pub highest : ℕ
  pub heard : ℕ
  pub missing : ℕ
  pub given-up : ℕ
  pub runs : ℕ
  pub first : ℕ → ℕ
  pub last : ℕ → ℕ
  pub says-highest : highest_of l ≡ Ok highest
  pub says-heard : heard_of l ≡ Ok heard
  pub says-missing : missing_of l ≡ Ok missing
  pub says-floor : floor_of l ≡ Ok floor
  pub says-given-up : given_up_of l ≡ Ok given-up
  pub says-runs : runs_of l ≡ Ok runs
  pub says-run : (k : ℕ) → k < runs → run_of l k ≡ Ok (run_from (first k) (last k))
  pub says-no-run : (k : ℕ) → runs ≤ k → run_of l k ≡ Err LedgerError.NoSuchRun
  pub true_of : TrueOf f floor highest heard missing given-up runs first last

-- the answer to an arrival by the set of recorded numbers, the floor and the highest
unfoldable pub answer_by : (ℕ → Bool) → ℕ → ℕ → ℕ → Result Arrival LedgerError
answer_by f floor top n =
    cond (eqb n 0 || ltb most_number n) (Err LedgerError.OutOfRange)
    (cond (leb n floor) (Err LedgerError.NotAboveFloor)
    (cond (f n) (Ok Arrival.Repeat)
    (cond (ltb most_runs (runs_to (settled floor (with n f)) (max n top))) (Err LedgerError.TooManyRuns)
    (Ok Arrival.New))))

-- giving up after a series: the lowest run, which is then no longer there: its last number is the floor, and every other run moves
-- down by a place; without a run it is refused
pub record GivesUp (hs : List Event) : Type 0 where
  pub done : (first last : ℕ) → run_of (after hs) 0 ≡ Ok (run_from first last)
      → (giving_up hs ≡ Ok (run_from first last)) × (floor_after (gives_up ∷ hs) ≡ last) × ((k : ℕ) → run_of (after (gives_up ∷ hs)) k ≡ run_of (after hs) (k + 1))
  pub refused : run_of (after hs) 0 ≡ Err LedgerError.NoSuchRun → (giving_up hs ≡ Err LedgerError.NothingMissing) × (after (gives_up ∷ hs) ≡ after hs)

-- every call but clearing answers 20 exactly when no series of arrivals and give-ups from fresh leaves the record
pub record Exactly20 (l : Ledger) : Type 0 where
  pub arrival : (n : ℕ) → (answer_number (arrived_of l n).answer ≡ 20) ↔ (Reached l → ⊥)
  pub giving-up : (answer_number (gave_up_of l).answer ≡ 20) ↔ (Reached l → ⊥)
  pub highest : (answer_number (highest_of l) ≡ 20) ↔ (Reached l → ⊥)
  pub heard : (answer_number (heard_of l) ≡ 20) ↔ (Reached l → ⊥)
  pub missing : (answer_number (missing_of l) ≡ 20) ↔ (Reached l → ⊥)
  pub runs : (answer_number (runs_of l) ≡ 20) ↔ (Reached l → ⊥)
  pub floor : (answer_number (floor_of l) ≡ 20) ↔ (Reached l → ⊥)
  pub given-up : (answer_number (given_up_of l) ≡ 20) ↔ (Reached l → ⊥)
  pub run : (k : ℕ) → (answer_number (run_of l k) ≡ 20) ↔ (Reached l → ⊥)

-- the calls that are lent a list of ends of any length: none that a series leaves has another length than a record's
pub record LentExactly20 (l : Ledger) : Type 0 where
  pub arrival : (n : ℕ) → (answer_number (lent_arrived_of l n).answer ≡ 20) ↔ (Reached l → ⊥)
  pub giving-up : (answer_number (lent_gave_up_of l).answer ≡ 20) ↔ (Reached l → ⊥)
  pub whole : Reached l → length l.ends ≡ places
