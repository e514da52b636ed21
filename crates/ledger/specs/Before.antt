-- What was demanded while no run could be given up: of a series of arrivals alone it still holds.
use Rattle.std.specs.Prelude.{ℕ, ◌+◌, ◌-◌, ◌≤◌, ◌<◌, max, ◌≡◌, Bool, true, false, List, [], ◌∷◌, ◌⊎◌, ◌↔◌, Ok, Err}
use Rattle.ledger.specs.Sets.{with, count_to, runs_to, Highest}
use Rattle.ledger.specs.Calls.{most_number, most_runs, answer_number, highest_of, heard_of, missing_of, runs_of, run_of, run_from}
use Rattle.ledger.specs.History.{Event, arrives, after, answer_to, recorded}
use Rattle.ledger.specs.declared.Ledger.{Ledger}
use Rattle.ledger.specs.declared.LedgerError.{LedgerError}

-- a series without give-ups
abbrev pub arrivals : List ℕ → List Event
arrivals [] = []
arrivals (n ∷ ns) = arrives n ∷ arrivals ns

-- a longest unbroken run of numbers from 1 to the highest that are not in the set
pub record Longest (f : ℕ → Bool) (top first last : ℕ) : Type 0 where
  pub from_one : 1 ≤ first
  pub in_order : first ≤ last
  pub to-highest : last ≤ top
  pub missing : (y : ℕ) → first ≤ y → y ≤ last → f y ≡ false
  pub none_below : (first ≡ 1) ⊎ (f (first - 1) ≡ true)
  pub none-behind : (last ≡ top) ⊎ (f (last + 1) ≡ true)

-- what the calls tell of a ledger is true of a set
pub record Tells (f : ℕ → Bool) (l : Ledger) : Type 0 where
  pub highest : ℕ
  pub heard : ℕ
  pub missing : ℕ
  pub runs : ℕ
  pub first : ℕ → ℕ
  pub last : ℕ → ℕ
  pub says-highest : highest_of l ≡ Ok highest
  pub says-heard : heard_of l ≡ Ok heard
  pub says-missing : missing_of l ≡ Ok missing
  pub says-runs : runs_of l ≡ Ok runs
  pub says-run : (k : ℕ) → k < runs → run_of l k ≡ Ok (run_from (first k) (last k))
  pub says-no-run : (k : ℕ) → runs ≤ k → run_of l k ≡ Err LedgerError.NoSuchRun
  pub is-highest : Highest f highest
  pub is-heard : heard ≡ count_to f highest
  pub adds-up : heard + missing ≡ highest
  pub is-runs : runs ≡ runs_to f highest
  pub each-longest : (k : ℕ) → k < runs → Longest f highest (first k) (last k)
  pub rising : (j k : ℕ) → j < k → k < runs → last j < first k
  pub every-longest : (a b : ℕ) → Longest f highest a b → (k : ℕ) × (k < runs) × (first k ≡ a) × (last k ≡ b)

-- after a series of arrivals: what the calls tell, and an arrival within the allowed numbers is refused exactly when recording it
-- would leave more than 64 runs
pub record AsBefore (ns : List ℕ) : Type 0 where
  pub tells : Tells (recorded (arrivals ns)) (after (arrivals ns))
  pub refuses : (n top : ℕ) → 1 ≤ n → n ≤ most_number → Highest (recorded (arrivals ns)) top
      → (0 < answer_number (answer_to (arrivals ns) n)) ↔ (most_runs < runs_to (with n (recorded (arrivals ns))) (max n top))
