-- What the ledger's calls answer, in one number.
use Rattle.std.specs.Prelude.{ℕ, ◌+◌, ◌*◌, ◌/◌, ◌%◌, Result, Ok, Err}
use Rattle.ledger.specs.Calls.{error_number}
use Rattle.ledger.specs.declared.Arrival.{Arrival}
use Rattle.ledger.specs.declared.Run.{Run}
use Rattle.ledger.specs.declared.LedgerError.{LedgerError}

-- of an arrival: above the answer stands how many numbers more are heard
abbrev pub arrival_outcome : Result Arrival LedgerError → ℕ
arrival_outcome (Ok Arrival.New) = 256
arrival_outcome (Ok Arrival.Repeat) = 0
arrival_outcome (Err e) = error_number e

-- of a question for a figure, which stands above the answer
abbrev pub figure_outcome : Result ℕ LedgerError → ℕ
figure_outcome (Ok n) = 256 * n
figure_outcome (Err e) = error_number e

-- of a question for a run: above the answer its first number in 28 bits, then its last
abbrev pub run_outcome : Result Run LedgerError → ℕ
run_outcome (Ok r) = 256 * (r.first % 268435456) + 68719476736 * (r.last % 268435456)
run_outcome (Err e) = error_number e

-- the two parts of it
abbrev pub first_part : ℕ → ℕ
first_part x = x / 256 % 268435456

abbrev pub last_part : ℕ → ℕ
last_part x = x / 68719476736
