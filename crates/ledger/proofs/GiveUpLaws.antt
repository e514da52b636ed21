-- The answers to giving the lowest run up, one by one, and the ends that it leaves.
use Prim.Native.Nat.{ℕ, suc, ◌+◌, ◌-◌, ◌*◌, ◌%◌, ◌≤◌, ◌<◌, min}
use native.Mathlib.Omega.{arith}
use mathlib.Core.Path.{◌≡◌, refl, ap, ◌∙◌}
use mathlib.Core.Bool.{Bool, true, false, cond, ◌||◌}
use mathlib.Core.List.{List}
use lib.ListN.{length, get_or}
use lib.Dec.{leb, eqb}
use borrow.Author.Tests.{leb-true, leb-false, eqb-true, eqb-false, eq-eqb, ne_eqb}
use Rattle.std.specs.Prelude.{Ok, Err}
use Rattle.ledger.specs.Ends.{places, falling, ends_from, settled_at, runs_in, first_of, last_of, without_lowest, fitted}
use Rattle.ledger.specs.Calls.{ledger_of, valid, stays, gave_up_of, run_from}
use Rattle.ledger.specs.declared.Ledger.{Ledger}
use Rattle.ledger.specs.declared.Run.{Run}
use Rattle.ledger.specs.declared.Answered.{Answered}
use Rattle.ledger.specs.declared.LedgerError.{LedgerError}
use Rattle.ledger.proofs.EndLaws.{falls-next, from-length, from-below, from-above, from-between, odd-settled, even-missing}
use Rattle.ledger.proofs.TurnLaws.{from_first, from-fewer, take-falls, fitted-from}
use Rattle.ledger.proofs.FloorLaws.{Fits, no-floor, a-floor}

-- the ledger without its lowest run
abbrev pub with_less : Ledger → Ledger
with_less l = ledger_of (fitted (without_lowest l.ends)) (last_of l.ends 0) (l.given + (last_of l.ends 0 + 1 - first_of l.ends 0))

-- the answer to giving it up
abbrev pub lowest_gone : Ledger → Answered Run
lowest_gone l = record { ledger = with_less l; answer = Ok (run_from (first_of l.ends 0) (last_of l.ends 0)) }

pub give-up-damaged : (l : Ledger) → valid l ≡ false → stays l (Err LedgerError.Damaged) ≡ gave_up_of l
unfolding gave_up_of
give-up-damaged l bad = rw bad refl

pub give-up-none : (l : Ledger) → valid l ≡ true → runs_in l.ends ≡ 0 → stays l (Err LedgerError.NothingMissing) ≡ gave_up_of l
unfolding gave_up_of
give-up-none l ok none = rw (ok, eq-eqb (runs_in l.ends) 0 none) refl

pub give-up-some : (l : Ledger) → valid l ≡ true → 1 ≤ runs_in l.ends → lowest_gone l ≡ gave_up_of l
unfolding gave_up_of
give-up-some l ok some = rw (ok, ne_eqb (runs_in l.ends) 0 (λ (q : runs_in l.ends ≡ 0). omega arith)) refl

-- giving up at a good record is one of these
pub data Gives (l : Ledger) : Answered Run → Type 0 where
  no_run : runs_in l.ends ≡ 0 → Gives l (stays l (Err LedgerError.NothingMissing))
  a-run : 1 ≤ runs_in l.ends → Gives l (lowest_gone l)

pub gives : (l : Ledger) → valid l ≡ true → Gives l (gave_up_of l)
unfolding gave_up_of
gives l ok = rw ok (go (eqb (runs_in l.ends) 0) refl)
  where
    go : (t : Bool) → eqb (runs_in l.ends) 0 ≡ t → Gives l (cond t (stays l (Err LedgerError.NothingMissing)) (lowest_gone l))
    go true p = no_run (eqb-true (runs_in l.ends) 0 p)
    go false p = let ne : runs_in l.ends ≡ 0 → ⊥ = eqb-false (runs_in l.ends) 0 p in a-run (omega arith)

-- the lowest run of falling ends
module _ (b : ℕ) (es : List ℕ) (h : falling b es ≡ true) (whole : length es ≡ places) (some : 1 ≤ runs_in es) where
  -- the place of its end
  abbrev pub lowest : ℕ
  lowest = 2 * runs_in es - 1

  pub lowest-last : last_of es 0 ≡ get_or es lowest 0
  lowest-last = let q : 2 * (runs_in es - 0) - 1 ≡ lowest = omega arith in ap (λ (i : ℕ). get_or es i 0) q

  pub lowest-first : first_of es 0 ≡ get_or es (suc lowest) 0 + 1
  lowest-first = let q : 2 * (runs_in es - 0) ≡ suc lowest = omega arith in ap (λ (i : ℕ). get_or es i 0 + 1) q

  -- up to its last number more ends are counted than stand before its own
  below_last : (y : ℕ) → 1 ≤ y → y ≤ last_of es 0 → lowest < ends_from y es
  below_last y lo le = from-above b y es lowest h lo (omega (arith, lowest-last))

  above-last : (y : ℕ) → 1 ≤ y → last_of es 0 < y → ends_from y es ≤ lowest
  above-last y lo lt = go (leb (ends_from y es) lowest) refl
    where
      go : (t : Bool) → leb (ends_from y es) lowest ≡ t → ends_from y es ≤ lowest
      go true p = leb-true (ends_from y es) lowest p
      go false p = absurd (omega (arith, lowest-last, from-below b y es lowest h lo (leb-false (ends_from y es) lowest p)))

  pub last_some : 1 ≤ last_of es 0
  last_some = omega (arith, lowest-last, from-below b 1 es lowest h (omega arith) (omega arith))

  pub first-under-last : first_of es 0 ≤ last_of es 0
  first-under-last = omega (arith, last_some, lowest-last, lowest-first, falls-next b es lowest h)

  -- its numbers are missing, the one behind it is settled, and so are all below it
  pub lowest-missing : (y : ℕ) → first_of es 0 ≤ y → y ≤ last_of es 0 → settled_at es y ≡ false
  lowest-missing y lo hi =
      even-missing es y (omega (arith, from-between b y es lowest h (omega (arith, lowest-last)) (omega (arith, lowest-first))))

  behind-count : ends_from (last_of es 0 + 1) es ≡ lowest
  behind-count =
      let q : suc (lowest - 1) ≡ lowest = omega arith in
      let next : get_or es lowest 0 ≤ get_or es (lowest - 1) 0 - 1 = rw q at (falls-next b es (lowest - 1) h) in
      let low : get_or es (suc (lowest - 1)) 0 < last_of es 0 + 1 = rw q (omega (arith, lowest-last)) in
      from-between b (last_of es 0 + 1) es (lowest - 1) h (omega (arith, last_some, lowest-last)) low ∙ q

  pub behind-settled : settled_at es (last_of es 0 + 1) ≡ true
  behind-settled = odd-settled es (last_of es 0 + 1) (omega (arith, behind-count))

  pub below-settled : (y : ℕ) → 1 ≤ y → y < first_of es 0 → settled_at es y ≡ true
  below-settled y lo lt =
      odd-settled es y (omega (arith, from-fewer 1 y es lo, from-above b y es (suc lowest) h lo (omega (arith, lowest-first))))

  -- what is left: the numbers up to its last are settled, the others as they were
  pub less-counts : (y : ℕ) → 1 ≤ y → ends_from y (fitted (without_lowest es)) ≡ min lowest (ends_from y es)
  less-counts y lo =
      fitted-from b y (without_lowest es) (take-falls b lowest es h) lo (omega (arith, from_first b 1 lowest es h (omega arith), from-length 1 es))
      ∙ from_first b y lowest es h lo

  pub less-settles : (y : ℕ) → 1 ≤ y → settled_at (fitted (without_lowest es)) y ≡ (leb y (last_of es 0) || settled_at es y)
  less-settles y lo = go (leb y (last_of es 0)) refl
    where
      go : (t : Bool) → leb y (last_of es 0) ≡ t → settled_at (fitted (without_lowest es)) y ≡ (t || settled_at es y)
      go true p =
          odd-settled (fitted (without_lowest es)) y (omega (arith, less-counts y lo, below_last y lo (leb-true y (last_of es 0) p)))
      go false p =
          let q : ends_from y (fitted (without_lowest es)) ≡ ends_from y es = omega (arith, less-counts y lo, above-last y lo (leb-false y (last_of es 0) p)) in
          ap (λ (n : ℕ). eqb (n % 2) 1) q

  -- the floor is below the run, and its last number fits as a floor
  pub floor-under : (floor given : ℕ) → Fits floor given es → floor < first_of es 0
  floor-under floor given (no-floor p q) = omega (arith, lowest-first)
  floor-under floor given (a-floor f) =
      omega (arith, lowest-first, from-below b (floor + 1) es (suc lowest) h (omega arith) (omega (arith, f.odd, f.none-under)))

  pub less-fits : (floor given : ℕ) → Fits floor given es → Fits (last_of es 0) (given + (last_of es 0 + 1 - first_of es 0)) (fitted (without_lowest es))
  less-fits floor given fits = a-floor (record {
    some = omega (arith, first-under-last);
    most = most fits;
    odd = omega (arith, less-counts (last_of es 0 + 1) (omega arith), behind-count);
    none-under = omega (arith, less-counts 1 (omega arith), less-counts (last_of es 0 + 1) (omega arith), behind-count, below_last 1 (omega arith) last_some);
  })
    where
      most : Fits floor given es → given + (last_of es 0 + 1 - first_of es 0) ≤ last_of es 0
      most (no-floor p q) = omega (arith, lowest-first, first-under-last)
      most (a-floor f) = omega (arith, f.most, floor-under floor given (a-floor f), first-under-last)
