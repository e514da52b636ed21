-- The answers to giving up, by what a look over the record has found.
use Prim.Native.Nat.{ℕ, zero, suc, ◌+◌, ◌-◌, ◌*◌, ◌/◌, ◌≤◌, ◌<◌}
use native.Mathlib.Omega.{arith}
use mathlib.Core.Path.{◌≡◌, refl, sym, ap, ◌∙◌}
use mathlib.Core.Bool.{Bool, true, false, cond}
use mathlib.Core.List.{List, [], ◌∷◌, ◌++◌}
use lib.ListN.{length, get_or, set, take, drop, replicate, take-append-drop}
use lib.Dec.{leb, eqb}
use borrow.Author.Tests.{leb-false, eqb-true, eq-eqb}
use Rattle.std.specs.Prelude.{Ok, Err}
use Rattle.ledger.specs.Ends.{places, falling, ends_from, runs_in, first_of, last_of, without_lowest, floor_fits, fitted}
use Rattle.ledger.specs.Calls.{most_number, ledger_of, stays, run_from, gave_up_of, lent_gave_up_of}
use Rattle.ledger.specs.declared.Ledger.{Ledger}
use Rattle.ledger.specs.declared.LedgerError.{LedgerError}
use Rattle.ledger.proofs.EndLaws.{both_right, falls-bound, falls-next, from-length}
use Rattle.ledger.proofs.TurnLaws.{from-append, from_first}
use Rattle.ledger.proofs.FloorLaws.{Fits, no-floor, a-floor, fits-is, fits_below}
use Rattle.ledger.proofs.ArriveLaws.{valid-is}
use Rattle.ledger.proofs.GiveUpLaws.{give-up-damaged, give-up-none, give-up-some}
use Rattle.ledger_ends.proofs.SeenLaws.{Found, Refused}

-- a record that has as many ends as it should
pub lent-whole : (l : Ledger) → length l.ends ≡ places → lent_gave_up_of l ≡ gave_up_of l
lent-whole l whole = ap (λ (t : Bool). cond t (gave_up_of l) (stays l (Err LedgerError.Damaged))) (eq-eqb (length l.ends) places whole)

-- ends of which none is above 0 are zeros, as many as there is room for
zeros-are : (k : ℕ) (es : List ℕ) → length es ≤ k → ends_from 1 es ≡ 0 → es ≡ take (length es) (replicate k 0)
zeros-are k [] le none = refl
zeros-are zero (e ∷ es) le none = absurd (omega arith)
zeros-are (suc k) (e ∷ es) le none = go (leb 1 e) refl none (zeros-are k es (omega arith))
  where
    go : (t : Bool) → leb 1 e ≡ t → cond t 1 0 + ends_from 1 es ≡ 0 → (ends_from 1 es ≡ 0 → es ≡ take (length es) (replicate k 0)) → e ∷ es ≡ 0 ∷ take (length es) (replicate k 0)
    go true p none ih = absurd (omega arith)
    go false p none ih =
        let low : e ≡ 0 = omega (arith, leb-false 1 e p) in
        rw low (ap (λ (t : List ℕ). 0 ∷ t) (ih (omega arith)))

-- the last two ends set to 0: what stands before them, fitted
two_gone : (k i : ℕ) (es : List ℕ) → suc i < length es → length es ≤ k + i → ends_from 1 (drop (suc (suc i)) es) ≡ 0
    → set (set es (suc i) 0) i 0 ≡ take (length es) (take i es ++ replicate k 0)
two_gone k i [] lt le none = absurd (omega arith)
two_gone k zero (e ∷ []) lt le none = absurd (omega arith)
two_gone zero zero (e ∷ f ∷ es) lt le none = absurd (omega arith)
two_gone (suc zero) zero (e ∷ f ∷ es) lt le none = absurd (omega arith)
two_gone (suc (suc k)) zero (e ∷ f ∷ es) lt le none = ap (λ (t : List ℕ). 0 ∷ 0 ∷ t) (zeros-are k es (omega arith) none)
two_gone k (suc i) (e ∷ es) lt le none = ap (λ (t : List ℕ). e ∷ t) (two_gone k i es (omega arith) (omega arith) none)

-- behind so many ends as there are none is left
none_left : (b k : ℕ) (es : List ℕ) → falling b es ≡ true → ends_from 1 es ≤ k → ends_from 1 (drop k es) ≡ 0
none_left b k es h le =
    let all : ends_from 1 es ≡ ends_from 1 (take k es) + ends_from 1 (drop k es) = ap (λ (t : List ℕ). ends_from 1 t) (sym (take-append-drop k es)) ∙ from-append 1 (take k es) (drop k es) in
    omega (arith, from_first b 1 k es h (omega arith))

-- 20: the list has not a record's places, or the record is not valid
pub gave-damaged : (l : Ledger) (e : LedgerError) → Refused l e → stays l (Err e) ≡ lent_gave_up_of l
gave-damaged l e bad = ap (λ (d : LedgerError). stays l (Err d)) bad.number ∙ go (eqb (length l.ends) places) refl
  where
    go : (t : Bool) → eqb (length l.ends) places ≡ t → stays l (Err LedgerError.Damaged) ≡ cond t (gave_up_of l) (stays l (Err LedgerError.Damaged))
    go true p = give-up-damaged l (bad.invalid (eqb-true (length l.ends) places p))
    go false p = refl

module _ (l : Ledger) (from : ℕ) (found : Found 1 l from) where
  -- 24
  pub gave-none : from / 2 ≡ 0 → stays l (Err LedgerError.NothingMissing) ≡ lent_gave_up_of l
  gave-none none = give-up-none l found.ok (omega (arith, found.count)) ∙ sym (lent-whole l found.whole)

  -- the place of a run's ends is in the list, and the figures are small
  end-within : 2 * (from / 2) < places
  end-within = omega (arith, found.count, from-length 1 l.ends, found.whole)

  pub lent-ends : 2 * (from / 2) < length l.ends
  lent-ends = omega (arith, end-within, found.whole)

  pub end-small : (i : ℕ) → get_or l.ends i 0 ≤ most_number
  end-small i = omega (arith, falls-bound (most_number + 1) l.ends i found.falls)

  pub given-small : l.given ≤ most_number
  given-small = go (fits-is l.floor l.given l.ends (both_right (falling (most_number + 1) l.ends) (floor_fits l.floor l.given l.ends) (valid-is l ∙ found.ok)))
    where
      go : Fits l.floor l.given l.ends → l.given ≤ most_number
      go (no-floor p q) = omega arith
      go (a-floor a) = omega (arith, a.most, fits_below (most_number + 1) l.floor l.given l.ends found.falls (a-floor a), end-small 0)

  module _ (some : 1 ≤ from / 2) where
    pub before_last : get_or l.ends (2 * (from / 2)) 0 ≤ get_or l.ends (2 * (from / 2) - 1) 0
    before_last =
        let q : suc (2 * (from / 2) - 1) ≡ 2 * (from / 2) = omega arith in
        let next : get_or l.ends (2 * (from / 2)) 0 ≤ get_or l.ends (2 * (from / 2) - 1) 0 - 1 = rw q at (falls-next (most_number + 1) l.ends (2 * (from / 2) - 1) found.falls) in
        omega arith

    -- the lowest run
    pub gave_some : let end = 2 * (from / 2) in let before = get_or l.ends end 0 in let last = get_or l.ends (end - 1) 0 in
        record { ledger = ledger_of (set (set l.ends end 0) (end - 1) 0) last (l.given + (last - before)); answer = Ok (run_from (before + 1) last) } ≡ lent_gave_up_of l
    gave_some =
        let end = 2 * (from / 2) in
        let es = l.ends in
        let runs : runs_in es ≡ from / 2 = ap (λ (n : ℕ). n / 2) (sym found.count) in
        let low : end ≡ suc (end - 1) = omega arith in
        let place : 2 * runs_in es - 1 ≡ end - 1 = omega (arith, runs) in
        let left : set (set es (suc (end - 1)) 0) (end - 1) 0 ≡ take (length es) (take (end - 1) es ++ replicate places 0) =
        two_gone places (end - 1) es (omega (arith, found.whole, end-within)) (omega (arith, found.whole)) (none_left (most_number + 1) (suc (suc (end - 1))) es found.falls (omega (arith, found.count))) in
        let ends : set (set es end 0) (end - 1) 0 ≡ fitted (without_lowest es) =
        ap (λ (k : ℕ). set (set es k 0) (end - 1) 0) low ∙ left ∙ ap (λ (n : ℕ). take n (take (end - 1) es ++ replicate places 0)) found.whole
        ∙ ap (λ (k : ℕ). fitted (take k es)) (sym place) in
        let at_first : 2 * (runs_in es - 0) ≡ end = omega (arith, runs) in
        let first : get_or es end 0 + 1 ≡ first_of es 0 = ap (λ (k : ℕ). get_or es k 0 + 1) (sym at_first) in
        let last : get_or es (end - 1) 0 ≡ last_of es 0 = ap (λ (k : ℕ). get_or es (k - 1) 0) (sym at_first) in
        let given : l.given + (get_or es (end - 1) 0 - get_or es end 0) ≡ l.given + (last_of es 0 + 1 - first_of es 0) = omega (arith, first, last) in
        (λ i. record { ledger = ledger_of (ends i) (last i) (given i); answer = Ok (run_from (first i) (last i)) })
        ∙ give-up-some l found.ok (omega (arith, runs)) ∙ sym (lent-whole l found.whole)
