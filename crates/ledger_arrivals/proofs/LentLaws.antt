-- The answers to an arrival at lent ends, by what a look over the record has found.
use Prim.Native.Nat.{ℕ, ◌+◌, ◌-◌, ◌%◌, ◌≤◌, ◌<◌}
use native.Mathlib.Omega.{arith}
use mathlib.Core.Path.{◌≡◌, refl, sym, ap, ◌∙◌}
use mathlib.Core.Bool.{Bool, true, false, cond, ◌||◌}
use mathlib.Core.List.{List}
use lib.ListN.{length}
use lib.Dec.{ltb, eqb}
use borrow.Author.Tests.{eqb-true, eq-eqb}
use Rattle.std.specs.Prelude.{Result, Ok, Err}
use Rattle.ledger.specs.Ends.{places, falling, ends_from, settled_at, runs_in, with_number, fitted}
use Rattle.ledger.specs.Calls.{most_number, most_runs, ledger_of, valid, stays, arrived_of, lent_arrived_of}
use Rattle.ledger.specs.declared.Ledger.{Ledger}
use Rattle.ledger.specs.declared.Arrival.{Arrival}
use Rattle.ledger.specs.declared.LedgerError.{LedgerError}
use Rattle.ledger.proofs.EndLaws.{from-length, odd-settled, even-missing}
use Rattle.ledger.proofs.ArriveLaws.{arrive-damaged, arrive-outside, arrive-under, arrive-repeat, arrive-full, arrive-new}
use Rattle.ledger_ends.proofs.SeenLaws.{Found, Refused}
use Rattle.ledger_arrivals.specs.Steps.{NoneBetween, taken_answer, taken_ends}

-- a record that has as many ends as it should
pub lent-whole : (l : Ledger) (n : ℕ) → length l.ends ≡ places → lent_arrived_of l n ≡ arrived_of l n
lent-whole l n whole = ap (λ (t : Bool). cond t (arrived_of l n) (stays l (Err LedgerError.Damaged))) (eq-eqb (length l.ends) places whole)

-- a number that may arrive, above the floor, and is missing
module _ (l : Ledger) (n : ℕ) (ok : valid l ≡ true) (lo : 1 ≤ n) (hi : n ≤ most_number) (above : l.floor < n) (miss : settled_at l.ends n ≡ false) where
  -- what taking the run of one number leads to is the arrival's answer
  arrive-taken : record { ledger = ledger_of (taken_ends (with_number n l.ends) l.ends) l.floor l.given; answer = taken_answer (with_number n l.ends) } ≡ arrived_of l n
  arrive-taken = go (ltb most_runs (runs_in (with_number n l.ends))) refl
    where
      go : (t : Bool) → ltb most_runs (runs_in (with_number n l.ends)) ≡ t
          → record { ledger = ledger_of (cond t l.ends (fitted (with_number n l.ends))) l.floor l.given; answer = cond t (Err LedgerError.TooManyRuns) (Ok Arrival.New) } ≡ arrived_of l n
      go true p = arrive-full l n ok lo hi above miss p
      go false p = arrive-new l n ok lo hi above miss p

  arrive-left : (left : List ℕ) (r : Result Arrival LedgerError) → r ≡ taken_answer (with_number n l.ends) → left ≡ taken_ends (with_number n l.ends) l.ends
      → record { ledger = ledger_of left l.floor l.given; answer = r } ≡ arrived_of l n
  arrive-left left r p q = rw (p, q) arrive-taken

-- one missing number is a run that can be taken
one-missing : (es : List ℕ) (at n : ℕ) → length es ≡ places → falling (most_number + 1) es ≡ true → 1 ≤ n → at ≡ ends_from n es → at % 2 ≡ 0
    → NoneBetween at (n - 1) n es
one-missing es at n whole falls lo place even =
    let q : n - 1 + 1 ≡ n = omega arith in
    record {
      whole = whole;
      falls = falls;
      in_list = omega (arith, from-length n es);
      ends_above = sym place;
      none_between = rw q (sym place);
      in_order = omega arith;
    }

-- 20: the list has not a record's places, or the record is not valid
pub lent-damaged : (l : Ledger) (n : ℕ) (e : LedgerError) → Refused l e → stays l (Err e) ≡ lent_arrived_of l n
lent-damaged l n e bad = ap (λ (d : LedgerError). stays l (Err d)) bad.number ∙ go (eqb (length l.ends) places) refl
  where
    go : (t : Bool) → eqb (length l.ends) places ≡ t → stays l (Err LedgerError.Damaged) ≡ cond t (arrived_of l n) (stays l (Err LedgerError.Damaged))
    go true p = arrive-damaged l n (bad.invalid (eqb-true (length l.ends) places p))
    go false p = refl

module _ (n : ℕ) (l : Ledger) (from : ℕ) (found : Found n l from) where
  -- 21
  pub lent-outside : (eqb n 0 || ltb most_number n) ≡ true → stays l (Err LedgerError.OutOfRange) ≡ lent_arrived_of l n
  lent-outside out = arrive-outside l n found.ok out ∙ sym (lent-whole l n found.whole)

  module _ (lo : 1 ≤ n) (hi : n ≤ most_number) where
    -- 25
    pub lent-under : n ≤ l.floor → stays l (Err LedgerError.NotAboveFloor) ≡ lent_arrived_of l n
    lent-under low = arrive-under l n found.ok lo hi low ∙ sym (lent-whole l n found.whole)

    -- a missing number is a run that can be taken
    pub lent-missing : from % 2 ≡ 0 → NoneBetween from (n - 1) n l.ends
    lent-missing even = one-missing l.ends from n found.whole found.falls lo found.count even

    module _ (above : l.floor < n) where
      pub lent-repeat : from % 2 ≡ 1 → stays l (Ok Arrival.Repeat) ≡ lent_arrived_of l n
      lent-repeat odd = arrive-repeat l n found.ok lo hi above (odd-settled l.ends n (omega (arith, found.count))) ∙ sym (lent-whole l n found.whole)

      pub lent-taken : from % 2 ≡ 0 → (left : List ℕ) (r : Result Arrival LedgerError) → r ≡ taken_answer (with_number n l.ends) → left ≡ taken_ends (with_number n l.ends) l.ends
          → record { ledger = ledger_of left l.floor l.given; answer = r } ≡ lent_arrived_of l n
      lent-taken even left r p q = arrive-left l n found.ok lo hi above (even-missing l.ends n (omega (arith, found.count))) left r p q ∙ sym (lent-whole l n found.whole)
