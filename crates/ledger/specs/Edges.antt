-- The starred edge of the owner's paper that concerns the ledger, arrivals 5, 2, 5; and giving up behind it.
use Rattle.std.specs.Prelude.{◌≡◌, List, [], ◌∷◌, Ok, Err}
use Rattle.ledger.specs.Calls.{highest_of, heard_of, missing_of, runs_of, floor_of, given_up_of, run_of, run_from}
use Rattle.ledger.specs.History.{Event, arrives, gives_up, after, answer_to, giving_up}
use Rattle.ledger.specs.declared.Arrival.{Arrival}
use Rattle.ledger.specs.declared.LedgerError.{LedgerError}

-- the three arrivals, the latest first
abbrev pub arrivals : List Event
arrivals = arrives 5 ∷ arrives 2 ∷ arrives 5 ∷ []

pub record Edges : Type 0 where
  pub five-is-new : answer_to [] 5 ≡ Ok Arrival.New
  pub two-is-new : answer_to (arrives 5 ∷ []) 2 ≡ Ok Arrival.New
  pub five-is-repeat : answer_to (arrives 2 ∷ arrives 5 ∷ []) 5 ≡ Ok Arrival.Repeat
  pub heard-two : heard_of (after arrivals) ≡ Ok 2
  pub two_runs : runs_of (after arrivals) ≡ Ok 2
  pub lowest-run : run_of (after arrivals) 0 ≡ Ok (run_from 1 1)
  pub next-run : run_of (after arrivals) 1 ≡ Ok (run_from 3 4)
  pub no_third : run_of (after arrivals) 2 ≡ Err LedgerError.NoSuchRun
  pub missing-three : missing_of (after arrivals) ≡ Ok 3
  pub highest-five : highest_of (after arrivals) ≡ Ok 5

-- behind them the lowest run, 1, is given up, and then 3 to 4
abbrev pub one-given-up : List Event
one-given-up = gives_up ∷ arrivals

abbrev pub both-given-up : List Event
both-given-up = gives_up ∷ one-given-up

pub record GiveUpEdges : Type 0 where
  pub none-at-first : giving_up [] ≡ Err LedgerError.NothingMissing
  pub lowest-given-up : giving_up arrivals ≡ Ok (run_from 1 1)
  pub floor-one : floor_of (after one-given-up) ≡ Ok 1
  pub one_number : given_up_of (after one-given-up) ≡ Ok 1
  pub still-heard : heard_of (after one-given-up) ≡ Ok 2
  pub two-missing : missing_of (after one-given-up) ≡ Ok 2
  pub one-run : runs_of (after one-given-up) ≡ Ok 1
  pub lowest-now : run_of (after one-given-up) 0 ≡ Ok (run_from 3 4)
  pub at-the-floor : answer_to one-given-up 1 ≡ Err LedgerError.NotAboveFloor
  pub zero-still : answer_to one-given-up 0 ≡ Err LedgerError.OutOfRange
  pub above-the-floor : answer_to one-given-up 2 ≡ Ok Arrival.Repeat
  pub late : answer_to one-given-up 3 ≡ Ok Arrival.New
  pub next-given-up : giving_up one-given-up ≡ Ok (run_from 3 4)
  pub floor-four : floor_of (after both-given-up) ≡ Ok 4
  pub three-numbers : given_up_of (after both-given-up) ≡ Ok 3
  pub heard-the-same : heard_of (after both-given-up) ≡ Ok 2
  pub none-missing : missing_of (after both-given-up) ≡ Ok 0
  pub highest-the-same : highest_of (after both-given-up) ≡ Ok 5
  pub recorded-below : answer_to both-given-up 2 ≡ Err LedgerError.NotAboveFloor
  pub highest-repeats : answer_to both-given-up 5 ≡ Ok Arrival.Repeat
  pub none_left : giving_up both-given-up ≡ Err LedgerError.NothingMissing
  pub goes_on : answer_to both-given-up 8 ≡ Ok Arrival.New
