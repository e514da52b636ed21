-- 20 exactly: a record is refused exactly when no series of arrivals and give-ups from fresh leaves it.
use Prim.Native.Nat.{ℕ, zero, suc, ◌+◌, ◌-◌, ◌*◌, ◌/◌, ◌≤◌, ◌<◌}
use native.Mathlib.Omega.{arith}
use mathlib.Core.Path.{◌≡◌, refl, sym, ap, ◌∙◌}
use mathlib.Core.Bool.{Bool, true, false, cond}
use mathlib.Core.List.{List, [], ◌∷◌, ◌++◌, append_assoc}
use mathlib.Core.Logic.{◌↔◌}
use lib.ListN.{length, get_or, take, replicate, length-append}
use lib.Seq.{take_at}
use lib.Dec.{leb, ltb, eqb}
use borrow.Author.Tests.{leb-true, leb-false, le-leb, eqb-true, eqb-false, lt-ltb, le-ltb}
use Rattle.std.specs.Prelude.{Ok, Err}
use Rattle.ledger.specs.Ends.{places, falling, ends_from, settled_at, highest_in, settled_in, missing_in, runs_in, first_of, last_of, turned, with_number, without_lowest, floor_fits, fitted}
use Rattle.ledger.specs.Calls.{most_number, most_runs, answer_number, ledger_of, valid, stays, arrived_of, gave_up_of, lent_arrived_of, lent_gave_up_of, figure_of, run_of, run_from}
use Rattle.ledger.specs.History.{arrives, gives_up, Reached, Exactly20, LentExactly20}
use Rattle.ledger.specs.declared.Ledger.{Ledger}
use Rattle.ledger.specs.declared.Arrival.{Arrival}
use Rattle.ledger.specs.declared.Run.{Run}
use Rattle.ledger.specs.declared.Answered.{Answered}
use Rattle.ledger.specs.declared.LedgerError.{LedgerError}
use Rattle.ledger.proofs.EndLaws.{both_left, both_right, falls-head, falls-tail, falls-cons, falls-under, falls-bound, from-none, from-length, from-above, even-missing}
use Rattle.ledger.proofs.TurnLaws.{turn-out, turn_in, zeros-fall, from-append, from-zeros, fitted-same}
use Rattle.ledger.proofs.FloorLaws.{Fits, no-floor, a-floor, fits-is, fits-apart}
use Rattle.ledger.proofs.ArriveLaws.{arrive-new, arrive-damaged, valid-is, Arrives, outside, under, repeats, full, new, arrives as arrival}
use Rattle.ledger.proofs.GiveUpLaws.{give-up-damaged, give-up-some, Gives, no_run, a-run, gives}
use Rattle.ledger.proofs.Series.{Good, good-valid, series-holds}

-- what a series leaves is valid, and a valid record with 129 places is good
pub reached-good : (l : Ledger) → Reached l → Good l
reached-good l (hs, is) = rw is at (series-holds hs).good

valid-good : (l : Ledger) → length l.ends ≡ places → valid l ≡ true → Good l
valid-good l long ok =
    let falls = falling (most_number + 1) l.ends in
    let fits = floor_fits l.floor l.given l.ends in
    let both = valid-is l ∙ ok in
    record { whole = long; falls = both_left falls fits both; fits = fits-is l.floor l.given l.ends (both_right falls fits both) }

-- all zeros
only-zeros : (b : ℕ) (es : List ℕ) → falling b es ≡ true → highest_in es ≡ 0 → es ≡ replicate (length es) 0
only-zeros b [] h z = refl
only-zeros b (e ∷ es) h z =
    let t : falling e es ≡ true = falls-tail b e es h in
    let rest : es ≡ replicate (length es) 0 = only-zeros e es t (omega (arith, falls-bound e es 0 t)) in
    rw z (ap (λ (l : List ℕ). 0 ∷ l) rest)

-- an end above all others is put in front
turn-front : (b x : ℕ) (es : List ℕ) → falling b es ≡ true → b ≤ x → 1 ≤ x → turned x es ≡ x ∷ es
turn-front b x [] h le one = refl
turn-front b x (e ∷ es) h le one = turn_in x e es (omega (arith, falls-head b e es h))

-- a record that the arrival of a number makes of one that is reached
reached-by : (floor given : ℕ) (es less : List ℕ) (n : ℕ) → Good (ledger_of less floor given) → floor < n → n ≤ most_number → ends_from n less ≡ 0
    → ends_from 1 (with_number n less) ≤ places → fitted (with_number n less) ≡ es → Reached (ledger_of less floor given) → Reached (ledger_of es floor given)
reached-by floor given es less n g lo hi none few fit (hs, is) =
    let l = ledger_of less floor given in
    let miss : settled_at less n ≡ false = even-missing less n (omega arith) in
    let room : ltb most_runs (runs_in (with_number n less)) ≡ false = le-ltb most_runs (runs_in (with_number n less)) (omega arith) in (
      arrives n ∷ hs,
      ap (λ (x : Ledger). (arrived_of x n).ledger) is ∙ ap (λ (r : Answered Arrival). r.ledger) (sym (arrive-new l n (good-valid l g) (omega arith) hi lo miss room))
          ∙ ap (λ (x : List ℕ). ledger_of x floor given) fit,
    )

-- the highest number taken back: where the one below it is missing its run goes too, else the stretch ends one lower
module _ (floor given k f : ℕ) (rest : List ℕ) (long : length rest ≡ 127) (h : falling (most_number + 1) (suc k ∷ f ∷ rest) ≡ true)
    (fits : Fits floor given (suc k ∷ f ∷ rest)) (room : 1 ≤ floor → floor < k) where
  top : suc k ≤ most_number
  top = omega (arith, falls-head (most_number + 1) (suc k) (f ∷ rest) h)

  next : falling (suc k) (f ∷ rest) ≡ true
  next = falls-tail (most_number + 1) (suc k) (f ∷ rest) h

  under-k : f ≤ k
  under-k = omega (arith, falls-head (suc k) f rest next)

  back : suc k - 1 ≡ k
  back = omega arith

  few : ends_from 1 (suc k ∷ f ∷ rest) ≤ places
  few = omega (arith, from-length 1 (suc k ∷ f ∷ rest))

  above : floor < suc k
  above = go (leb 1 floor) refl
    where
      go : (t : Bool) → leb 1 floor ≡ t → floor < suc k
      go true p = omega (arith, room (leb-true 1 floor p))
      go false p = omega (arith, leb-false 1 floor p)

  -- the run below it goes too
  gone-falls : falling f (rest ++ (0 ∷ 0 ∷ [])) ≡ true
  gone-falls = zeros-fall f 2 rest (falls-tail (suc k) f rest next)

  gone-counts : (y : ℕ) → 1 ≤ y → ends_from y (rest ++ (0 ∷ 0 ∷ [])) ≡ ends_from y rest
  gone-counts y lo = omega (arith, from-append y rest (0 ∷ 0 ∷ []), from-zeros y 2 lo)

  gone-good : f ≡ k → Good (ledger_of (rest ++ (0 ∷ 0 ∷ [])) floor given)
  gone-good q = record {
    whole = omega (arith, length-append rest (0 ∷ 0 ∷ []));
    falls = falls-under f (most_number + 1) (rest ++ (0 ∷ 0 ∷ [])) (omega (arith, top, under-k)) gone-falls;
    fits = go fits;
  }
    where
      go : Fits floor given (suc k ∷ f ∷ rest) → Fits floor given (rest ++ (0 ∷ 0 ∷ []))
      go (no-floor p r) = no-floor p r
      go (a-floor a) =
          let low : floor < k = room (omega (arith, a.some, a.most)) in
          let count : (y : ℕ) → 1 ≤ y → y ≤ k → ends_from y (suc k ∷ f ∷ rest) ≡ 2 + ends_from y rest =
          λ (y : ℕ) (one : 1 ≤ y) (le : y ≤ k). rw (le-leb y (suc k) (omega arith), le-leb y f (omega arith)) (omega arith) in
          a-floor (record {
            some = a.some;
            most = a.most;
            odd = omega (arith, a.odd, count (floor + 1) (omega arith) (omega arith), gone-counts (floor + 1) (omega arith));
            none-under = omega (arith, a.none-under, count 1 (omega arith) (omega arith), count (floor + 1) (omega arith) (omega arith), gone-counts 1 (omega arith), gone-counts (floor + 1) (omega arith));
          })

  gone-more : 1 ≤ f → f ≡ k → with_number (suc k) (rest ++ (0 ∷ 0 ∷ [])) ≡ (suc k ∷ f ∷ rest) ++ (0 ∷ 0 ∷ [])
  gone-more one q =
      let in-front : turned (suc k) (rest ++ (0 ∷ 0 ∷ [])) ≡ suc k ∷ (rest ++ (0 ∷ 0 ∷ [])) = turn-front f (suc k) (rest ++ (0 ∷ 0 ∷ [])) gone-falls (omega arith) (omega arith) in
      let below : turned k (rest ++ (0 ∷ 0 ∷ [])) ≡ k ∷ (rest ++ (0 ∷ 0 ∷ [])) = turn-front f k (rest ++ (0 ∷ 0 ∷ [])) gone-falls (omega arith) (omega arith) in
      let first : with_number (suc k) (rest ++ (0 ∷ 0 ∷ [])) ≡ turned k (turned (suc k) (rest ++ (0 ∷ 0 ∷ []))) =
      ap (λ (x : ℕ). turned x (turned (suc k) (rest ++ (0 ∷ 0 ∷ [])))) back in
      first ∙ rw (in-front, lt-ltb k (suc k) (omega arith), below, q) refl

  reached-gone : 1 ≤ f → f ≡ k → Reached (ledger_of (rest ++ (0 ∷ 0 ∷ [])) floor given) → Reached (ledger_of (suc k ∷ f ∷ rest) floor given)
  reached-gone one q there =
      let more : with_number (suc k) (rest ++ (0 ∷ 0 ∷ [])) ≡ (suc k ∷ f ∷ rest) ++ (0 ∷ 0 ∷ []) = gone-more one q in
      let count : ends_from 1 ((suc k ∷ f ∷ rest) ++ (0 ∷ 0 ∷ [])) ≤ places = omega (arith, from-append 1 (suc k ∷ f ∷ rest) (0 ∷ 0 ∷ []), from-zeros 1 2 (omega arith), few) in
      let fit : fitted ((suc k ∷ f ∷ rest) ++ (0 ∷ 0 ∷ [])) ≡ suc k ∷ f ∷ rest =
      ap (λ (l : List ℕ). take places l) (append_assoc (suc k ∷ f ∷ rest) (0 ∷ 0 ∷ []) (replicate places 0))
      ∙ take_at (suc k ∷ f ∷ rest) ((0 ∷ 0 ∷ []) ++ replicate places 0) places (omega arith) in
      reached-by floor given (suc k ∷ f ∷ rest) (rest ++ (0 ∷ 0 ∷ [])) (suc k) (gone-good q) above top
      (from-none f (suc k) (rest ++ (0 ∷ 0 ∷ [])) gone-falls (omega (arith, under-k)) (omega arith)) (rw more count) (rw more fit) there

  -- the stretch ends one lower
  low-falls : (1 ≤ f → f ≡ k → ⊥) → falling (suc k) (k ∷ f ∷ rest) ≡ true
  low-falls apart = falls-cons (suc k) k (f ∷ rest) (omega arith) (falls-cons k f rest (lower (leb 1 f) refl (eqb f k) refl) (falls-tail (suc k) f rest next))
    where
      lower : (s : Bool) → leb 1 f ≡ s → (t : Bool) → eqb f k ≡ t → f ≤ k - 1
      lower true p true q = absurd (apart (leb-true 1 f p) (eqb-true f k q))
      lower true p false q = let ne : f ≡ k → ⊥ = eqb-false f k q in omega (arith, under-k)
      lower false p t q = omega (arith, leb-false 1 f p)

  low-good : (1 ≤ f → f ≡ k → ⊥) → Good (ledger_of (k ∷ f ∷ rest) floor given)
  low-good apart = record {
    whole = omega arith;
    falls = falls-under (suc k) (most_number + 1) (k ∷ f ∷ rest) (omega (arith, top)) (low-falls apart);
    fits = go fits;
  }
    where
      go : Fits floor given (suc k ∷ f ∷ rest) → Fits floor given (k ∷ f ∷ rest)
      go (no-floor p r) = no-floor p r
      go (a-floor a) =
          let low : floor < k = room (omega (arith, a.some, a.most)) in
          let same : (y : ℕ) → y ≤ k → ends_from y (suc k ∷ f ∷ rest) ≡ ends_from y (k ∷ f ∷ rest) =
          λ (y : ℕ) (le : y ≤ k). rw (le-leb y (suc k) (omega arith), le-leb y k le) refl in
          a-floor (record {
            some = a.some;
            most = a.most;
            odd = omega (arith, a.odd, same (floor + 1) (omega arith));
            none-under = omega (arith, a.none-under, same 1 (omega arith), same (floor + 1) (omega arith));
          })

  reached-low : (1 ≤ f → f ≡ k → ⊥) → Reached (ledger_of (k ∷ f ∷ rest) floor given) → Reached (ledger_of (suc k ∷ f ∷ rest) floor given)
  reached-low apart there =
      let falls : falling (suc k) (k ∷ f ∷ rest) ≡ true = low-falls apart in
      let in-front : turned (suc k) (k ∷ f ∷ rest) ≡ suc k ∷ k ∷ f ∷ rest = turn-front (suc k) (suc k) (k ∷ f ∷ rest) falls (omega arith) (omega arith) in
      let first : with_number (suc k) (k ∷ f ∷ rest) ≡ turned k (turned (suc k) (k ∷ f ∷ rest)) =
      ap (λ (x : ℕ). turned x (turned (suc k) (k ∷ f ∷ rest))) back in
      let more : with_number (suc k) (k ∷ f ∷ rest) ≡ suc k ∷ f ∷ rest =
      first ∙ rw (in-front, lt-ltb k (suc k) (omega arith), turn-out k (f ∷ rest)) refl in
      reached-by floor given (suc k ∷ f ∷ rest) (k ∷ f ∷ rest) (suc k) (low-good apart) above top
      (from-none (suc k) (suc k) (k ∷ f ∷ rest) falls (omega arith) (omega arith)) (rw more few) (rw more (fitted-same (suc k ∷ f ∷ rest) (omega arith))) there

  reached-back : ((es : List ℕ) → Good (ledger_of es floor given) → highest_in es ≤ k → Reached (ledger_of es floor given)) → Reached (ledger_of (suc k ∷ f ∷ rest) floor given)
  reached-back ih = go (leb 1 f) refl (eqb f k) refl
    where
      low : (1 ≤ f → f ≡ k → ⊥) → Reached (ledger_of (suc k ∷ f ∷ rest) floor given)
      low apart = reached-low apart (ih (k ∷ f ∷ rest) (low-good apart) (omega arith))

      go : (s : Bool) → leb 1 f ≡ s → (t : Bool) → eqb f k ≡ t → Reached (ledger_of (suc k ∷ f ∷ rest) floor given)
      go true p true q =
          reached-gone (leb-true 1 f p) (eqb-true f k q)
          (ih (rest ++ (0 ∷ 0 ∷ [])) (gone-good (eqb-true f k q)) (omega (arith, falls-bound f (rest ++ (0 ∷ 0 ∷ [])) 0 gone-falls, under-k)))
      go true p false q = low (λ (one : 1 ≤ f) (same : f ≡ k). eqb-false f k q same)
      go false p t q = low (λ (one : 1 ≤ f) (same : f ≡ k). omega (arith, leb-false 1 f p))

-- every good record is reached, by induction over a bound of its highest number, down to the number after the floor
module _ (floor given : ℕ) (lowest : (es : List ℕ) → Good (ledger_of es floor given) → 1 ≤ floor → highest_in es ≤ floor + 1 → Reached (ledger_of es floor given)) where
  reached-fresh : (es : List ℕ) → Good (ledger_of es floor given) → highest_in es ≡ 0 → Reached (ledger_of es floor given)
  reached-fresh es g z = go g.fits
    where
      go : Fits floor given es → Reached (ledger_of es floor given)
      go (no-floor p q) =
          let zeros : replicate places 0 ≡ es = sym (only-zeros (most_number + 1) es g.falls z ∙ ap (λ (n : ℕ). replicate n 0) g.whole) in
          ([], λ i. ledger_of (zeros i) (sym p i) (sym q i))
      go (a-floor a) = absurd (omega (arith, fits-apart (most_number + 1) floor given es g.falls (a-floor a) (omega (arith, a.some, a.most))))

  ends-reached : (k : ℕ) (es : List ℕ) → Good (ledger_of es floor given) → highest_in es ≤ k → Reached (ledger_of es floor given)
  ends-reached zero es g le = reached-fresh es g (omega arith)
  ends-reached (suc k) [] g le = absurd (omega (arith, g.whole))
  ends-reached (suc k) (e ∷ []) g le = absurd (omega (arith, g.whole))
  ends-reached (suc k) (e ∷ f ∷ rest) g le = go (leb e k) refl (leb 1 floor) refl (leb e (floor + 1)) refl (ends-reached k)
    where
      back : e ≡ suc k → (1 ≤ floor → floor < k) → ((es : List ℕ) → Good (ledger_of es floor given) → highest_in es ≤ k → Reached (ledger_of es floor given)) → Reached (ledger_of (e ∷ f ∷ rest) floor given)
      back q room ih =
          let h : falling (most_number + 1) (suc k ∷ f ∷ rest) ≡ true = rw q at g.falls in
          let fits : Fits floor given (suc k ∷ f ∷ rest) = rw q at g.fits in
          rw q (reached-back floor given k f rest (omega (arith, g.whole)) h fits room ih)

      go : (t : Bool) → leb e k ≡ t → (s : Bool) → leb 1 floor ≡ s → (u : Bool) → leb e (floor + 1) ≡ u
          → ((es : List ℕ) → Good (ledger_of es floor given) → highest_in es ≤ k → Reached (ledger_of es floor given)) → Reached (ledger_of (e ∷ f ∷ rest) floor given)
      go true p s q u r ih = ih (e ∷ f ∷ rest) g (leb-true e k p)
      go false p true q true r ih = lowest (e ∷ f ∷ rest) g (leb-true 1 floor q) (leb-true e (floor + 1) r)
      go false p true q false r ih = back (omega (arith, leb-false e k p)) (λ (one : 1 ≤ floor). omega (arith, leb-false e k p, leb-false e (floor + 1) r)) ih
      go false p false q u r ih = back (omega (arith, leb-false e k p)) (λ (one : 1 ≤ floor). absurd (omega (arith, leb-false 1 floor q))) ih

-- without a floor
unfloored-reached : (es : List ℕ) → Good (ledger_of es 0 0) → Reached (ledger_of es 0 0)
unfloored-reached es g =
    ends-reached 0 0 (λ (es : List ℕ) (g : Good (ledger_of es 0 0)) (one : 1 ≤ 0) (le : highest_in es ≤ 0 + 1). absurd (omega arith)) (highest_in es) es g (omega arith)

-- a floor with the number after it: as many numbers as are given up are missing below that, and then their run is given up
module _ (floor given : ℕ) (some : 1 ≤ given) (most : given ≤ floor) (top : floor + 1 ≤ most_number) where
  abbrev before : List ℕ
  before = (floor + 1) ∷ floor ∷ (floor - given) ∷ replicate 126 0

  before-good : Good (ledger_of before 0 0)
  before-good = record {
    whole = refl;
    falls = falls-cons (most_number + 1) (floor + 1) (floor ∷ (floor - given) ∷ replicate 126 0) (omega arith)
        (falls-cons (floor + 1) floor ((floor - given) ∷ replicate 126 0) (omega arith)
        (falls-cons floor (floor - given) (replicate 126 0) (omega arith) (zeros-fall (floor - given) 126 [] refl)));
    fits = no-floor refl refl;
  }

  one-run : runs_in before ≡ 1
  one-run = go (leb 1 (floor - given)) (from-zeros 1 126 (omega arith))
    where
      go : (t : Bool) → ends_from 1 (replicate 126 0) ≡ 0 → runs_in before ≡ 1
      go t zeros = rw (le-leb 1 (floor + 1) (omega arith), le-leb 1 floor (omega arith), zeros) (half (leb 1 (floor - given)))
        where
          half : (t : Bool) → (1 + (1 + (cond t 1 0 + 0))) / 2 ≡ 1
          half true = refl
          half false = refl

  floored : Reached (ledger_of ((floor + 1) ∷ replicate 128 0) floor given)
  floored =
      let l = ledger_of before 0 0 in
      let there = unfloored-reached before before-good in
      let ends : fitted (without_lowest before) ≡ (floor + 1) ∷ replicate 128 0 = ap (λ (r : ℕ). fitted (take (2 * r - 1) before)) one-run in
      let last : last_of before 0 ≡ floor = ap (λ (r : ℕ). get_or before (2 * (r - 0) - 1) 0) one-run in
      let first : first_of before 0 ≡ floor - given + 1 = ap (λ (r : ℕ). get_or before (2 * (r - 0)) 0 + 1) one-run in
      let count : 0 + (last_of before 0 + 1 - first_of before 0) ≡ given = omega (arith, last, first) in (
        gives_up ∷ there.0,
        ap (λ (x : Ledger). (gave_up_of x).ledger) there.1 ∙ ap (λ (r : Answered Run). r.ledger) (sym (give-up-some l (good-valid l before-good) (omega (arith, one-run))))
            ∙ (λ i. ledger_of (ends i) (last i) (count i)),
      )

-- so every good record is
pub good-reached : (l : Ledger) → Good l → Reached l
good-reached l g = ends-reached l.floor l.given lowest (highest_in l.ends) l.ends g (omega arith)
  where
    ends-are : (es : List ℕ) → length es ≡ places → falling (most_number + 1) es ≡ true → highest_in es ≡ l.floor + 1 → ends_from 1 es ≡ ends_from (l.floor + 1) es
        → es ≡ (l.floor + 1) ∷ replicate 128 0
    ends-are [] whole h top none = absurd (omega arith)
    ends-are (e ∷ es) whole h top none =
        let falls : falling e es ≡ true = falls-tail (most_number + 1) e es h in
        let high : ends_from (l.floor + 1) es ≡ 0 = from-none e (l.floor + 1) es falls (omega arith) (omega arith) in
        let low : ends_from 1 es ≡ 0 = omega (arith, none, rests e es top) in
        let zeros : es ≡ replicate (length es) 0 = only-zeros e es falls (none-highest e es falls low) in
        let long : length es ≡ 128 = omega arith in
        λ i. top i ∷ (zeros ∙ ap (λ (n : ℕ). replicate n 0) long) i
      where
        rests : (e : ℕ) (es : List ℕ) → e ≡ l.floor + 1 → (ends_from 1 (e ∷ es) ≡ 1 + ends_from 1 es) × (ends_from (l.floor + 1) (e ∷ es) ≡ 1 + ends_from (l.floor + 1) es)
        rests e es q = (rw (le-leb 1 e (omega arith)) refl, rw (le-leb (l.floor + 1) e (omega arith)) refl)

        none-highest : (b : ℕ) (es : List ℕ) → falling b es ≡ true → ends_from 1 es ≡ 0 → highest_in es ≡ 0
        none-highest b es h none = go (leb 1 (highest_in es)) refl
          where
            go : (t : Bool) → leb 1 (highest_in es) ≡ t → highest_in es ≡ 0
            go true p = absurd (omega (arith, none, from-above b 1 es 0 h (omega arith) (leb-true 1 (highest_in es) p)))
            go false p = omega (arith, leb-false 1 (highest_in es) p)

    lowest : (es : List ℕ) → Good (ledger_of es l.floor l.given) → 1 ≤ l.floor → highest_in es ≤ l.floor + 1 → Reached (ledger_of es l.floor l.given)
    lowest es g one le = go g.fits
      where
        go : Fits l.floor l.given es → Reached (ledger_of es l.floor l.given)
        go (no-floor p q) = absurd (omega arith)
        go (a-floor a) =
            let top : highest_in es ≡ l.floor + 1 = omega (arith, fits-apart (most_number + 1) l.floor l.given es g.falls (a-floor a) one) in
            rw (ends-are es g.whole g.falls top a.none-under)
            (floored l.floor l.given a.some a.most (omega (arith, falls-bound (most_number + 1) es 0 g.falls)))

-- both directions, for any answer that is 20 where the record is not valid and another number where it is
exactly : (l : Ledger) (number : ℕ) → length l.ends ≡ places → (valid l ≡ false → number ≡ 20) → (valid l ≡ true → number ≡ 20 → ⊥)
    → (number ≡ 20) ↔ (Reached l → ⊥)
exactly l number long bad good = (
  λ (is : number ≡ 20) (there : Reached l). good (good-valid l (reached-good l there)) is,
  λ (none : Reached l → ⊥). go none (valid l) refl,
)
  where
    go : (Reached l → ⊥) → (t : Bool) → valid l ≡ t → number ≡ 20
    go none true p = absurd (none (good-reached l (valid-good l long p)))
    go none false p = bad p

arrival-other : (l : Ledger) (n : ℕ) (r : Answered Arrival) → Arrives l n r → answer_number r.answer ≡ 20 → ⊥
arrival-other l n r (outside o) is = omega arith
arrival-other l n r (under lo hi low) is = omega arith
arrival-other l n r (repeats lo hi above there) is = omega arith
arrival-other l n r (full lo hi above miss many) is = omega arith
arrival-other l n r (new lo hi above miss few) is = omega arith

giving-other : (l : Ledger) (r : Answered Run) → Gives l r → answer_number r.answer ≡ 20 → ⊥
giving-other l r (no_run none) is = omega arith
giving-other l r (a-run some) is = omega arith

figure-exactly : (l : Ledger) (x : ℕ) → length l.ends ≡ places → (answer_number (figure_of l x) ≡ 20) ↔ (Reached l → ⊥)
figure-exactly l x long = exactly l (answer_number (figure_of l x)) long (λ (bad : valid l ≡ false). rw bad refl) other
  where
    other : valid l ≡ true → answer_number (figure_of l x) ≡ 20 → ⊥
    other ok = rw ok (λ (is : ◌≡◌ {A = ℕ} 0 20). omega arith)

run-exactly : (l : Ledger) (k : ℕ) → length l.ends ≡ places → (answer_number (run_of l k) ≡ 20) ↔ (Reached l → ⊥)
run-exactly l k long = exactly l (answer_number (run_of l k)) long (λ (bad : valid l ≡ false). rw bad refl) other
  where
    go : (t : Bool) → answer_number (cond t (Ok (run_from (first_of l.ends k) (last_of l.ends k))) (Err LedgerError.NoSuchRun)) ≡ 20 → ⊥
    go true is = omega arith
    go false is = omega arith

    other : valid l ≡ true → answer_number (run_of l k) ≡ 20 → ⊥
    other ok = rw ok (go (ltb k (runs_in l.ends)))

-- 20, exactly
pub twenty-exactly : (l : Ledger) → length l.ends ≡ places → Exactly20 l
twenty-exactly l long = record {
  arrival = λ (n : ℕ). exactly l (answer_number (arrived_of l n).answer) long
      (λ (bad : valid l ≡ false). ap (λ (r : Answered Arrival). answer_number r.answer) (sym (arrive-damaged l n bad)))
      (λ (ok : valid l ≡ true). arrival-other l n (arrived_of l n) (arrival l n ok));
  giving-up = exactly l (answer_number (gave_up_of l).answer) long
      (λ (bad : valid l ≡ false). ap (λ (r : Answered Run). answer_number r.answer) (sym (give-up-damaged l bad)))
      (λ (ok : valid l ≡ true). giving-other l (gave_up_of l) (gives l ok));
  highest = figure-exactly l (highest_in l.ends) long;
  heard = figure-exactly l (settled_in l.ends - l.given) long;
  missing = figure-exactly l (missing_in l.ends) long;
  runs = figure-exactly l (runs_in l.ends) long;
  floor = figure-exactly l l.floor long;
  given-up = figure-exactly l l.given long;
  run = λ (k : ℕ). run-exactly l k long;
}

-- of a lent list of any length
pub lent-twenty-exactly : (l : Ledger) → LentExactly20 l
lent-twenty-exactly l = record {
  arrival = λ (n : ℕ). arrived n (eqb (length l.ends) places) refl;
  giving-up = gave-up (eqb (length l.ends) places) refl;
  whole = λ (there : Reached l). (reached-good l there).whole;
}
  where
    short : (number : ℕ) → number ≡ 20 → eqb (length l.ends) places ≡ false → (number ≡ 20) ↔ (Reached l → ⊥)
    short number is p = (
      λ (is : number ≡ 20) (there : Reached l). eqb-false (length l.ends) places p (reached-good l there).whole,
      λ (none : Reached l → ⊥). is,
    )

    arrived : (n : ℕ) (t : Bool) → eqb (length l.ends) places ≡ t → (answer_number (cond t (arrived_of l n) (stays l (Err LedgerError.Damaged))).answer ≡ 20) ↔ (Reached l → ⊥)
    arrived n true p = (twenty-exactly l (eqb-true (length l.ends) places p)).arrival n
    arrived n false p = short 20 refl p

    gave-up : (t : Bool) → eqb (length l.ends) places ≡ t → (answer_number (cond t (gave_up_of l) (stays l (Err LedgerError.Damaged))).answer ≡ 20) ↔ (Reached l → ⊥)
    gave-up true p = (twenty-exactly l (eqb-true (length l.ends) places p)).giving-up
    gave-up false p = short 20 refl p

-- a refusal leaves the ledger as it was
kept_by : (l : Ledger) (n : ℕ) (r : Answered Arrival) → Arrives l n r → 0 < answer_number r.answer → r.ledger ≡ l
kept_by l n r (outside o) refused = refl
kept_by l n r (under lo hi low) refused = refl
kept_by l n r (repeats lo hi above there) refused = refl
kept_by l n r (full lo hi above miss many) refused = refl
kept_by l n r (new lo hi above miss few) refused = absurd (omega arith)

pub refused-keeps : (l : Ledger) (n : ℕ) → 0 < answer_number (arrived_of l n).answer → (arrived_of l n).ledger ≡ l
refused-keeps l n refused = go (valid l) refl
  where
    go : (t : Bool) → valid l ≡ t → (arrived_of l n).ledger ≡ l
    go true p = kept_by l n (arrived_of l n) (arrival l n p) refused
    go false p = ap (λ (r : Answered Arrival). r.ledger) (sym (arrive-damaged l n p))

given-kept : (l : Ledger) (r : Answered Run) → Gives l r → 0 < answer_number r.answer → r.ledger ≡ l
given-kept l r (no_run none) refused = refl
given-kept l r (a-run some) refused = absurd (omega arith)

pub refused-give-up-keeps : (l : Ledger) → 0 < answer_number (gave_up_of l).answer → (gave_up_of l).ledger ≡ l
refused-give-up-keeps l refused = go (valid l) refl
  where
    go : (t : Bool) → valid l ≡ t → (gave_up_of l).ledger ≡ l
    go true p = given-kept l (gave_up_of l) (gives l p) refused
    go false p = ap (λ (r : Answered Run). r.ledger) (sym (give-up-damaged l p))

-- and one whose ends are lent too
pub lent-refused-keeps : (l : Ledger) (n : ℕ) → 0 < answer_number (lent_arrived_of l n).answer → (lent_arrived_of l n).ledger ≡ l
lent-refused-keeps l n = go (eqb (length l.ends) places)
  where
    go : (t : Bool) → 0 < answer_number (cond t (arrived_of l n) (stays l (Err LedgerError.Damaged))).answer → (cond t (arrived_of l n) (stays l (Err LedgerError.Damaged))).ledger ≡ l
    go true refused = refused-keeps l n refused
    go false refused = refl

pub lent-refused-give-up-keeps : (l : Ledger) → 0 < answer_number (lent_gave_up_of l).answer → (lent_gave_up_of l).ledger ≡ l
lent-refused-give-up-keeps l = go (eqb (length l.ends) places)
  where
    go : (t : Bool) → 0 < answer_number (cond t (gave_up_of l) (stays l (Err LedgerError.Damaged))).answer → (cond t (gave_up_of l) (stays l (Err LedgerError.Damaged))).ledger ≡ l
    go true refused = refused-give-up-keeps l refused
    go false refused = refl
