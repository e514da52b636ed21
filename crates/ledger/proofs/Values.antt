-- What each call returns beside its answer's number; a refusal returns its number alone.
use Prim.Native.Nat.{ℕ, ◌-◌}
use mathlib.Core.Path.{◌≡◌, refl, subst}
use mathlib.Core.Bool.{Bool, true, false, cond, not}
use mathlib.Core.List.{[], ◌∷◌}
use lib.ListN.{length}
use lib.Dec.{ltb, eqb}
use Rattle.std.specs.Prelude.{Result, Ok, Err}
use Rattle.ledger.specs.Ends.{places, settled_at, highest_in, settled_in, missing_in, runs_in, first_of, last_of}
use Rattle.ledger.specs.Calls.{answer_number, arrival_values, figure_values, run_values, valid, stays, arrived_of, gave_up_of, lent_arrived_of, lent_gave_up_of, figure_by, figure_of, run_of, beside, Returns, run_from}
use Rattle.ledger.specs.declared.Ledger.{Ledger}
use Rattle.ledger.specs.declared.Arrival.{Arrival}
use Rattle.ledger.specs.declared.Run.{Run}
use Rattle.ledger.specs.declared.Answered.{Answered}
use Rattle.ledger.specs.declared.LedgerError.{LedgerError}
use Rattle.ledger.proofs.ArriveLaws.{arrive-damaged, Arrives, outside, under, repeats, full, new, arrives}
use Rattle.ledger.proofs.GiveUpLaws.{give-up-damaged, Gives, no_run, a-run, gives}

-- an arrival's answer has its value
abbrev Valued : Ledger → ℕ → Answered Arrival → Type 0
Valued l n r = arrival_values r.answer ≡ beside (answer_number r.answer) (cond (settled_at l.ends n) 0 1 ∷ [])

arrival-by : (l : Ledger) (n : ℕ) (r : Answered Arrival) → Arrives l n r → Valued l n r
arrival-by l n r (outside o) = refl
arrival-by l n r (under lo hi low) = refl
arrival-by l n r (repeats lo hi above there) = rw there refl
arrival-by l n r (full lo hi above miss many) = refl
arrival-by l n r (new lo hi above miss few) = rw miss refl

arrival-returns : (l : Ledger) (n : ℕ) → Valued l n (arrived_of l n)
arrival-returns l n = go (valid l) refl
  where
    go : (t : Bool) → valid l ≡ t → Valued l n (arrived_of l n)
    go true p = arrival-by l n (arrived_of l n) (arrives l n p)
    go false p = subst (λ (r : Answered Arrival). Valued l n r) (arrive-damaged l n p) refl

lent-returns : (l : Ledger) (n : ℕ) → Valued l n (lent_arrived_of l n)
lent-returns l n = go (eqb (length l.ends) places)
  where
    go : (t : Bool) → Valued l n (cond t (arrived_of l n) (stays l (Err LedgerError.Damaged)))
    go true = arrival-returns l n
    go false = refl

figure-returns : (l : Ledger) (x : ℕ) → figure_values (figure_of l x) ≡ beside (answer_number (figure_of l x)) (x ∷ [])
figure-returns l x = go (valid l)
  where
    go : (t : Bool) → figure_values (figure_by t x) ≡ beside (answer_number (figure_by t x)) (x ∷ [])
    go true = refl
    go false = refl

run-returns : (l : Ledger) (k : ℕ) → run_values (run_of l k) ≡ beside (answer_number (run_of l k)) (first_of l.ends k ∷ last_of l.ends k ∷ [])
run-returns l k = go (valid l) (ltb k (runs_in l.ends))
  where
    told : Bool → Bool → Result Run LedgerError
    told s t = cond (not s) (Err LedgerError.Damaged) (cond t (Ok (run_from (first_of l.ends k) (last_of l.ends k))) (Err LedgerError.NoSuchRun))

    go : (s t : Bool) → run_values (told s t) ≡ beside (answer_number (told s t)) (first_of l.ends k ∷ last_of l.ends k ∷ [])
    go true true = refl
    go true false = refl
    go false t = refl

-- giving up returns the lowest run
abbrev Given : Ledger → Answered Run → Type 0
Given l r = run_values r.answer ≡ beside (answer_number r.answer) (first_of l.ends 0 ∷ last_of l.ends 0 ∷ [])

given_by : (l : Ledger) (r : Answered Run) → Gives l r → Given l r
given_by l r (no_run none) = refl
given_by l r (a-run some) = refl

giving-returns : (l : Ledger) → Given l (gave_up_of l)
giving-returns l = go (valid l) refl
  where
    go : (t : Bool) → valid l ≡ t → Given l (gave_up_of l)
    go true p = given_by l (gave_up_of l) (gives l p)
    go false p = subst (λ (r : Answered Run). Given l r) (give-up-damaged l p) refl

lent-giving-returns : (l : Ledger) → Given l (lent_gave_up_of l)
lent-giving-returns l = go (eqb (length l.ends) places)
  where
    go : (t : Bool) → Given l (cond t (gave_up_of l) (stays l (Err LedgerError.Damaged)))
    go true = giving-returns l
    go false = refl

pub returns-values : (l : Ledger) → Returns l
returns-values l = record {
  arrival = arrival-returns l;
  lent-arrival = lent-returns l;
  highest = figure-returns l (highest_in l.ends);
  heard = figure-returns l (settled_in l.ends - l.given);
  missing = figure-returns l (missing_in l.ends);
  runs = figure-returns l (runs_in l.ends);
  run = run-returns l;
  floor = figure-returns l l.floor;
  given-up = figure-returns l l.given;
  giving-up = giving-returns l;
  lent-giving-up = lent-giving-returns l;
}
