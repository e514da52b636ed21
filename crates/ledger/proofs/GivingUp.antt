-- Giving up after a series: the lowest run goes, the others move down by a place.
use Prim.Native.Nat.{ℕ, ◌+◌, ◌-◌, ◌*◌, ◌≤◌, ◌<◌}
use native.Mathlib.Omega.{arith}
use mathlib.Core.Path.{◌≡◌, refl, sym, ap, ◌∙◌}
use mathlib.Core.Bool.{Bool, true, false, cond}
use mathlib.Core.List.{List, [], ◌∷◌, ◌++◌}
use lib.ListN.{length, get_or, take, replicate, get_or-append}
use lib.Seq.{length-take-le, get_or-take}
use lib.Dec.{ltb}
use borrow.Author.Tests.{ltb-true, ltb-false, lt-ltb, le-ltb}
use Rattle.std.specs.Prelude.{Ok, Err}
use Rattle.ledger.specs.Ends.{places, runs_in, first_of, last_of, without_lowest, fitted}
use Rattle.ledger.specs.Calls.{most_number, gave_up_of, run_of, run_from, run_values}
use Rattle.ledger.specs.History.{Event, gives_up, after, recorded, GivesUp}
use Rattle.ledger.specs.declared.Ledger.{Ledger}
use Rattle.ledger.specs.declared.Run.{Run}
use Rattle.ledger.specs.declared.Answered.{Answered}
use Rattle.ledger.specs.declared.LedgerError.{LedgerError}
use Rattle.ledger.proofs.EndLaws.{from-length}
use Rattle.ledger.proofs.GiveUpLaws.{with_less, Gives, no_run, a-run, gives, less-counts}
use Rattle.ledger.proofs.Series.{good-valid, Holds, holds-give-up, series-holds, series-floor}

-- an end before the lowest run's stays where it is
less-ends : (es : List ℕ) (i : ℕ) → length es ≡ places → i < 2 * runs_in es - 1 → get_or (fitted (without_lowest es)) i 0 ≡ get_or es i 0
less-ends es i whole lt =
    let k = 2 * runs_in es - 1 in
    let low : k ≤ length es = omega (arith, from-length 1 es) in
    get_or-take places (take k es ++ replicate places 0) i 0 (omega (arith, from-length 1 es))
    ∙ get_or-append (take k es) (replicate places 0) 0 i (omega (arith, length-take-le k es low))
    ∙ get_or-take k es i 0 lt

module _ (f : ℕ → Bool) (l : Ledger) (h : Holds f l) (some : 1 ≤ runs_in l.ends) where
  less-runs : runs_in (with_less l).ends + 1 ≡ runs_in l.ends
  less-runs = omega (arith, less-counts (most_number + 1) l.ends h.good.falls h.good.whole some 1 (omega arith))

  -- the run at a place is the one that was at the next
  less-run : (k : ℕ) → run_of (with_less l) k ≡ run_of l (k + 1)
  less-run k =
      rw (good-valid l h.good, good-valid (with_less l) (holds-give-up f l (record { ledger = with_less l; answer = Ok (run_from (first_of l.ends 0) (last_of l.ends 0)) }) h (a-run some)).good)
      (go (ltb (k + 1) (runs_in l.ends)) refl)
    where
      go : (t : Bool) → ltb (k + 1) (runs_in l.ends) ≡ t
          → cond (ltb k (runs_in (with_less l).ends)) (Ok (run_from (first_of (with_less l).ends k) (last_of (with_less l).ends k))) (Err LedgerError.NoSuchRun)
          ≡ cond t (Ok (run_from (first_of l.ends (k + 1)) (last_of l.ends (k + 1)))) (Err LedgerError.NoSuchRun)
      go true p =
          let lt : k + 1 < runs_in l.ends = ltb-true (k + 1) (runs_in l.ends) p in
          let i = 2 * (runs_in l.ends - (k + 1)) in
          let same : 2 * (runs_in (with_less l).ends - k) ≡ i = omega (arith, less-runs) in
          let first : first_of (with_less l).ends k ≡ first_of l.ends (k + 1) =
          ap (λ (j : ℕ). get_or (with_less l).ends j 0 + 1) same ∙ ap (λ (e : ℕ). e + 1) (less-ends l.ends i h.good.whole (omega arith)) in
          let last : last_of (with_less l).ends k ≡ last_of l.ends (k + 1) =
          ap (λ (j : ℕ). get_or (with_less l).ends (j - 1) 0) same ∙ less-ends l.ends (i - 1) h.good.whole (omega arith) in
          rw (lt-ltb k (runs_in (with_less l).ends) (omega (arith, less-runs)), first, last) refl
      go false p = rw (le-ltb k (runs_in (with_less l).ends) (omega (arith, less-runs, ltb-false (k + 1) (runs_in l.ends) p))) refl

-- what is told of the run at place 0 tells what giving up leads to
module _ (f : ℕ → Bool) (l : Ledger) (h : Holds f l) where
  gone : (r : Answered Run) → Gives l r → (first last : ℕ) → run_of l 0 ≡ Ok (run_from first last)
      → (r.answer ≡ Ok (run_from first last)) × (r.ledger.floor ≡ last) × ((k : ℕ) → run_of r.ledger k ≡ run_of l (k + 1))
  gone r (no_run none) first last is =
      let q : Err LedgerError.NoSuchRun ≡ Ok (run_from first last) = sym (rw (good-valid l h.good, le-ltb 0 (runs_in l.ends) (omega arith)) refl) ∙ is in
      absurd (other q)
    where
      other : Err LedgerError.NoSuchRun ≡ Ok (run_from first last) → ⊥
      other q = let z : ◌≡◌ {A = ℕ} 0 1 = cc in omega arith
  gone r (a-run some) first last is =
      let q : Ok (run_from (first_of l.ends 0) (last_of l.ends 0)) ≡ Ok (run_from first last) = sym (rw (good-valid l h.good, lt-ltb 0 (runs_in l.ends) some) refl) ∙ is in
      let values : first_of l.ends 0 ∷ last_of l.ends 0 ∷ [] ≡ first ∷ last ∷ [] = ap run_values q in
      let same : last_of l.ends 0 ≡ last = cc in
      (q, same, less-run f l h some)

  not-gone : (r : Answered Run) → Gives l r → run_of l 0 ≡ Err LedgerError.NoSuchRun → (r.answer ≡ Err LedgerError.NothingMissing) × (r.ledger ≡ l)
  not-gone r (no_run none) is = (refl, refl)
  not-gone r (a-run some) is =
      let q : Ok (run_from (first_of l.ends 0) (last_of l.ends 0)) ≡ Err LedgerError.NoSuchRun = sym (rw (good-valid l h.good, lt-ltb 0 (runs_in l.ends) some) refl) ∙ is in
      absurd (other q)
    where
      other : Ok (run_from (first_of l.ends 0) (last_of l.ends 0)) ≡ Err LedgerError.NoSuchRun → ⊥
      other q = let z : ◌≡◌ {A = ℕ} 0 1 = cc in omega arith

pub series-gives-up : (hs : List Event) → GivesUp hs
series-gives-up hs =
    let h = series-holds hs in
    let why = gives (after hs) (good-valid (after hs) h.good) in
    record {
      done = λ (first last : ℕ) (is : run_of (after hs) 0 ≡ Ok (run_from first last)).
          (let g = gone (recorded hs) (after hs) h (gave_up_of (after hs)) why first last is in
          (g.0, sym (series-floor (gives_up ∷ hs)) ∙ g.1, g.2));
      refused = not-gone (recorded hs) (after hs) h (gave_up_of (after hs)) why;
    }
