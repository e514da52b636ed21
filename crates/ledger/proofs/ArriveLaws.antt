-- The answers to an arrival, one by one.
use Prim.Native.Nat.{ℕ, ◌+◌, ◌≤◌, ◌<◌}
use native.Mathlib.Omega.{arith}
use mathlib.Core.Path.{◌≡◌, refl}
use mathlib.Core.Bool.{Bool, true, false, cond, ◌&&◌, ◌||◌}
use lib.Dec.{leb, ltb, eqb}
use borrow.Author.Tests.{eqb-false, ltb-false, ne_eqb, le-ltb, leb-true, leb-false, le-leb, lt-leb}
use Rattle.std.specs.Prelude.{Ok, Err}
use Rattle.ledger.specs.Ends.{falling, settled_at, runs_in, with_number, floor_fits, fitted}
use Rattle.ledger.specs.Calls.{most_number, most_runs, ledger_of, valid, stays, arrived_of}
use Rattle.ledger.specs.declared.Ledger.{Ledger}
use Rattle.ledger.specs.declared.Arrival.{Arrival}
use Rattle.ledger.specs.declared.Answered.{Answered}
use Rattle.ledger.specs.declared.LedgerError.{LedgerError}

-- the number is one of those that may arrive
pub inside : (n : ℕ) → 1 ≤ n → n ≤ most_number → (eqb n 0 || ltb most_number n) ≡ false
inside n lo hi = rw (ne_eqb n 0 (λ (q : n ≡ 0). omega arith), le-ltb most_number n hi) refl

pub valid-is : (l : Ledger) → (falling (most_number + 1) l.ends && floor_fits l.floor l.given l.ends) ≡ valid l
unfolding valid
valid-is l = refl

-- the ledger with a number more
abbrev pub with_more : Ledger → ℕ → Ledger
with_more l n = ledger_of (fitted (with_number n l.ends)) l.floor l.given

pub arrive-damaged : (l : Ledger) (n : ℕ) → valid l ≡ false → stays l (Err LedgerError.Damaged) ≡ arrived_of l n
unfolding arrived_of
arrive-damaged l n bad = rw bad refl

pub arrive-outside : (l : Ledger) (n : ℕ) → valid l ≡ true → (eqb n 0 || ltb most_number n) ≡ true → stays l (Err LedgerError.OutOfRange) ≡ arrived_of l n
unfolding arrived_of
arrive-outside l n ok out = rw (ok, out) refl

module _ (l : Ledger) (n : ℕ) (ok : valid l ≡ true) (lo : 1 ≤ n) (hi : n ≤ most_number) where
  pub arrive-under : n ≤ l.floor → stays l (Err LedgerError.NotAboveFloor) ≡ arrived_of l n
  unfolding arrived_of
  arrive-under under = rw (ok, inside n lo hi, le-leb n l.floor under) refl

  module _ (above : l.floor < n) where
    pub arrive-repeat : settled_at l.ends n ≡ true → stays l (Ok Arrival.Repeat) ≡ arrived_of l n
    unfolding arrived_of
    arrive-repeat there = rw (ok, inside n lo hi, lt-leb n l.floor above, there) refl

    pub arrive-full : settled_at l.ends n ≡ false → ltb most_runs (runs_in (with_number n l.ends)) ≡ true → stays l (Err LedgerError.TooManyRuns) ≡ arrived_of l n
    unfolding arrived_of
    arrive-full miss many = rw (ok, inside n lo hi, lt-leb n l.floor above, miss, many) refl

    pub arrive-new : settled_at l.ends n ≡ false → ltb most_runs (runs_in (with_number n l.ends)) ≡ false
        → record { ledger = with_more l n; answer = Ok Arrival.New } ≡ arrived_of l n
    unfolding arrived_of
    arrive-new miss few = rw (ok, inside n lo hi, lt-leb n l.floor above, miss, few) refl

-- every arrival at a good record is one of these
pub data Arrives (l : Ledger) (n : ℕ) : Answered Arrival → Type 0 where
  outside : (eqb n 0 || ltb most_number n) ≡ true → Arrives l n (stays l (Err LedgerError.OutOfRange))
  under : 1 ≤ n → n ≤ most_number → n ≤ l.floor → Arrives l n (stays l (Err LedgerError.NotAboveFloor))
  repeats : 1 ≤ n → n ≤ most_number → l.floor < n → settled_at l.ends n ≡ true → Arrives l n (stays l (Ok Arrival.Repeat))
  full : 1 ≤ n → n ≤ most_number → l.floor < n → settled_at l.ends n ≡ false → ltb most_runs (runs_in (with_number n l.ends)) ≡ true
      → Arrives l n (stays l (Err LedgerError.TooManyRuns))
  new : 1 ≤ n → n ≤ most_number → l.floor < n → settled_at l.ends n ≡ false → ltb most_runs (runs_in (with_number n l.ends)) ≡ false
      → Arrives l n (record { ledger = with_more l n; answer = Ok Arrival.New })

pub arrives : (l : Ledger) (n : ℕ) → valid l ≡ true → Arrives l n (arrived_of l n)
unfolding arrived_of
arrives l n ok = rw ok (range (eqb n 0) refl (ltb most_number n) refl)
  where
    rest : 1 ≤ n → n ≤ most_number → (r : Bool) → leb n l.floor ≡ r → (s : Bool) → settled_at l.ends n ≡ s → (t : Bool) → ltb most_runs (runs_in (with_number n l.ends)) ≡ t
        → Arrives l n
        (cond r (stays l (Err LedgerError.NotAboveFloor))
        (cond s (stays l (Ok Arrival.Repeat)) (cond t (stays l (Err LedgerError.TooManyRuns)) (record { ledger = with_more l n; answer = Ok Arrival.New }))))
    rest lo hi true o s p t q = under lo hi (leb-true n l.floor o)
    rest lo hi false o true p t q = repeats lo hi (leb-false n l.floor o) p
    rest lo hi false o false p true q = full lo hi (leb-false n l.floor o) p q
    rest lo hi false o false p false q = new lo hi (leb-false n l.floor o) p q

    range : (s : Bool) → eqb n 0 ≡ s → (t : Bool) → ltb most_number n ≡ t
        → Arrives l n
        (cond (s || t) (stays l (Err LedgerError.OutOfRange))
        (cond (leb n l.floor) (stays l (Err LedgerError.NotAboveFloor))
        (cond (settled_at l.ends n) (stays l (Ok Arrival.Repeat))
        (cond (ltb most_runs (runs_in (with_number n l.ends))) (stays l (Err LedgerError.TooManyRuns))
        (record { ledger = with_more l n; answer = Ok Arrival.New })))))
    range true p t q = outside (rw p refl)
    range false p true q = outside (rw (p, q) refl)
    range false p false q =
        let ne : n ≡ 0 → ⊥ = eqb-false n 0 p in
        rest (omega arith) (ltb-false most_number n q) (leb n l.floor) refl (settled_at l.ends n) refl (ltb most_runs (runs_in (with_number n l.ends))) refl
