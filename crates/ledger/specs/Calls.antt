-- What each call answers, in the order of the rules, and what an arrival or a give-up leaves.
use Rattle.std.specs.Prelude.{ℕ, ◌+◌, ◌-◌, ◌≡◌, Bool, cond, not, ◌&&◌, ◌||◌, List, [], ◌∷◌, length, replicate, leb, ltb, eqb, Result, Ok, Err}
use Rattle.ledger.specs.Ends.{places, falling, settled_at, highest_in, settled_in, missing_in, runs_in, first_of, last_of, with_number, without_lowest, floor_fits, fitted}
use Rattle.ledger.specs.declared.Ledger.{Ledger}
use Rattle.ledger.specs.declared.Arrival.{Arrival}
use Rattle.ledger.specs.declared.Run.{Run}
use Rattle.ledger.specs.declared.Answered.{Answered}
use Rattle.ledger.specs.declared.LedgerError.{LedgerError}

-- the largest number that may arrive, and the most runs that may be missing
abbrev pub most_number : ℕ
most_number = 99999999

abbrev pub most_runs : ℕ
most_runs = 64

-- the paper's number of a refusal
abbrev pub error_number : LedgerError → ℕ
error_number LedgerError.Damaged = 20
error_number LedgerError.OutOfRange = 21
error_number LedgerError.TooManyRuns = 22
error_number LedgerError.NoSuchRun = 23
error_number LedgerError.NothingMissing = 24
error_number LedgerError.NotAboveFloor = 25

-- the number of an answer, 0 for one that is no refusal
abbrev pub answer_number : {A : Type 0} → Result A LedgerError → ℕ
answer_number (Ok x) = 0
answer_number (Err e) = error_number e

-- the value beside an arrival's, how many numbers more are recorded: 1 if it is new, 0 if it is a repeat
abbrev pub arrival_values : Result Arrival LedgerError → List ℕ
arrival_values (Ok Arrival.New) = 1 ∷ []
arrival_values (Ok Arrival.Repeat) = 0 ∷ []
arrival_values (Err e) = []

-- the value beside that of a question for a figure: the figure
abbrev pub figure_values : Result ℕ LedgerError → List ℕ
figure_values (Ok n) = n ∷ []
figure_values (Err e) = []

-- the values beside that of a question for a run, or of giving one up: the run's first and its last number
abbrev pub run_values : Result Run LedgerError → List ℕ
run_values (Ok r) = r.first ∷ r.last ∷ []
run_values (Err e) = []

-- a run by its first and its last number
abbrev pub run_from : ℕ → ℕ → Run
run_from first last = record { first = first; last = last }

-- the ledger with these ends, this floor and so many numbers given up
abbrev pub ledger_of : List ℕ → ℕ → ℕ → Ledger
ledger_of es floor given = record { ends = es; floor = floor; given = given }

-- a fresh ledger: highest 0, heard 0, no runs, floor 0, none given up
abbrev pub fresh : Ledger
fresh = ledger_of (replicate places 0) 0 0

-- a record that a series of arrivals and give-ups can leave; every other one answers 20
unfoldable pub valid : Ledger → Bool
valid l = falling (most_number + 1) l.ends && floor_fits l.floor l.given l.ends

-- an answer that leaves the ledger as it was
abbrev pub stays : {A : Type 0} → Ledger → Result A LedgerError → Answered A
stays l a = record { ledger = l; answer = a }

-- an arrival: 20; 21 for 0 or above 99,999,999; 25 at the floor or below it; repeat if already recorded; 22 if it would leave more
-- than 64 runs; else new
unfoldable pub arrived_of : Ledger → ℕ → Answered Arrival
arrived_of l n =
    let more = with_number n l.ends in
    cond (not (valid l)) (stays l (Err LedgerError.Damaged))
    (cond (eqb n 0 || ltb most_number n) (stays l (Err LedgerError.OutOfRange))
    (cond (leb n l.floor) (stays l (Err LedgerError.NotAboveFloor))
    (cond (settled_at l.ends n) (stays l (Ok Arrival.Repeat))
    (cond (ltb most_runs (runs_in more)) (stays l (Err LedgerError.TooManyRuns))
    (record { ledger = ledger_of (fitted more) l.floor l.given; answer = Ok Arrival.New })))))

-- giving the lowest run up: 20; 24 if there is none; else that run, whose last number is the floor and whose numbers are given up
unfoldable pub gave_up_of : Ledger → Answered Run
gave_up_of l =
    let first = first_of l.ends 0 in
    let last = last_of l.ends 0 in
    cond (not (valid l)) (stays l (Err LedgerError.Damaged))
    (cond (eqb (runs_in l.ends) 0) (stays l (Err LedgerError.NothingMissing))
    (record { ledger = ledger_of (fitted (without_lowest l.ends)) last (l.given + (last + 1 - first)); answer = Ok (run_from first last) }))

-- the same in a ledger that is lent with a list of ends: 20 where they are not as many as a record has
abbrev pub lent_arrived_of : Ledger → ℕ → Answered Arrival
lent_arrived_of l n = cond (eqb (length l.ends) places) (arrived_of l n) (stays l (Err LedgerError.Damaged))

abbrev pub lent_gave_up_of : Ledger → Answered Run
lent_gave_up_of l = cond (eqb (length l.ends) places) (gave_up_of l) (stays l (Err LedgerError.Damaged))

-- a figure of a ledger: 20, else the figure
abbrev pub figure_by : Bool → ℕ → Result ℕ LedgerError
figure_by ok n = cond (not ok) (Err LedgerError.Damaged) (Ok n)

abbrev pub figure_of : Ledger → ℕ → Result ℕ LedgerError
figure_of l n = figure_by (valid l) n

abbrev pub highest_of : Ledger → Result ℕ LedgerError
highest_of l = figure_of l (highest_in l.ends)

-- those that are settled and were not given up
abbrev pub heard_of : Ledger → Result ℕ LedgerError
heard_of l = figure_of l (settled_in l.ends - l.given)

abbrev pub missing_of : Ledger → Result ℕ LedgerError
missing_of l = figure_of l (missing_in l.ends)

abbrev pub runs_of : Ledger → Result ℕ LedgerError
runs_of l = figure_of l (runs_in l.ends)

abbrev pub floor_of : Ledger → Result ℕ LedgerError
floor_of l = figure_of l l.floor

abbrev pub given_up_of : Ledger → Result ℕ LedgerError
given_up_of l = figure_of l l.given

-- the run at a place, the lowest at 0: 20, then 23 if there is none
abbrev pub run_of : Ledger → ℕ → Result Run LedgerError
run_of l k =
    cond (not (valid l)) (Err LedgerError.Damaged)
    (cond (ltb k (runs_in l.ends)) (Ok (run_from (first_of l.ends k) (last_of l.ends k))) (Err LedgerError.NoSuchRun))

-- values beside 0; a refusal returns its number alone
abbrev pub beside : ℕ → List ℕ → List ℕ
beside number values = cond (eqb number 0) values []

-- what each call returns beside its answer's number, for every ledger, whatever list of ends it has
pub record Returns (l : Ledger) : Type 0 where
  pub arrival : (n : ℕ) → let a = (arrived_of l n).answer in arrival_values a ≡ beside (answer_number a) (cond (settled_at l.ends n) 0 1 ∷ [])
  pub lent-arrival : (n : ℕ) → let a = (lent_arrived_of l n).answer in arrival_values a ≡ beside (answer_number a) (cond (settled_at l.ends n) 0 1 ∷ [])
  pub highest : figure_values (highest_of l) ≡ beside (answer_number (highest_of l)) (highest_in l.ends ∷ [])
  pub heard : figure_values (heard_of l) ≡ beside (answer_number (heard_of l)) ((settled_in l.ends - l.given) ∷ [])
  pub missing : figure_values (missing_of l) ≡ beside (answer_number (missing_of l)) (missing_in l.ends ∷ [])
  pub runs : figure_values (runs_of l) ≡ beside (answer_number (runs_of l)) (runs_in l.ends ∷ [])
  pub run : (k : ℕ) → run_values (run_of l k) ≡ beside (answer_number (run_of l k)) (first_of l.ends k ∷ last_of l.ends k ∷ [])
  pub floor : figure_values (floor_of l) ≡ beside (answer_number (floor_of l)) (l.floor ∷ [])
  pub given-up : figure_values (given_up_of l) ≡ beside (answer_number (given_up_of l)) (l.given ∷ [])
  pub giving-up : let a = (gave_up_of l).answer in run_values a ≡ beside (answer_number a) (first_of l.ends 0 ∷ last_of l.ends 0 ∷ [])
  pub lent-giving-up : let a = (lent_gave_up_of l).answer in run_values a ≡ beside (answer_number a) (first_of l.ends 0 ∷ last_of l.ends 0 ∷ [])
