-- Demand 3: after any series of arrivals and give-ups from a fresh ledger the calls tell what the set of recorded numbers and the
-- floor say.
use Prim.Native.Nat.{ℕ, ◌+◌, ◌-◌, ◌*◌, ◌%◌, ◌≤◌, ◌<◌, max}
use native.Mathlib.Omega.{arith}
use mathlib.Core.Path.{◌≡◌, refl, sym, ap, subst, ◌∙◌}
use mathlib.Core.Bool.{Bool, true, false, not, ◌&&◌, ◌||◌, and-true, and-false, false≢true}
use mathlib.Core.List.{List, [], ◌∷◌}
use mathlib.Core.Logic.{◌⊎◌, ◌↔◌, inl, inr, ⊎_elim}
use lib.ListN.{length, replicate}
use lib.Dec.{leb, eqb}
use borrow.Author.Tests.{leb-true, leb-false, le-leb, lt-leb, ltb-true, ltb-false, lt-ltb, le-ltb, ne_eqb}
use Rattle.ledger.specs.Sets.{with, left_out, settled, count_to, runs_to, ends_run, first_above, Highest}
use Rattle.ledger.specs.Ends.{places, falling, ends_from, settled_at, highest_in, settled_in, missing_in, runs_in, first_of, last_of, turned, with_number, without_lowest, fitted}
use Rattle.ledger.specs.Calls.{most_number, most_runs, answer_number, fresh, valid, arrived_of, gave_up_of}
use Rattle.ledger.specs.History.{Event, arrives, gives_up, after, answer_to, recorded, floor_after, Tells, answer_by}
use Rattle.ledger.specs.declared.Ledger.{Ledger}
use Rattle.ledger.specs.declared.Arrival.{Arrival}
use Rattle.ledger.specs.declared.Run.{Run}
use Rattle.ledger.specs.declared.Answered.{Answered}
use Rattle.ledger.proofs.EndLaws.{falls-bound, from-length, even-missing, missing-even, settled-under-highest}
use Rattle.ledger.proofs.SetLaws.{count_same, count-above, runs_same, highest-once, highest-same, runs-of-same, with-highest, with-there}
use Rattle.ledger.proofs.TrueLaws.{ends-highest, ends-settled, ends-runs, ends-are-runs}
use Rattle.ledger.proofs.TurnLaws.{turn-falls, turn-above, number-count, number-settled, from-zeros, from-fewer, take-falls, fitted-falls, fitted-whole, fitted-from}
use Rattle.ledger.proofs.FloorLaws.{Fits, no-floor, a-floor, is-fits, fits_below, fits-apart}
use Rattle.ledger.proofs.SettledLaws.{settled-above, settled-with, settled-higher, runs-above, highest-above, highest-settled, count-settled, count-all, first-is, first-none}
use Rattle.ledger.proofs.ArriveLaws.{with_more, Arrives, outside, under, repeats, full, new, arrives as arrival, inside, valid-is}
use Rattle.ledger.proofs.GiveUpLaws.{with_less, Gives, no_run, a-run, gives, first-under-last, lowest-missing, behind-settled, below-settled, less-settles, floor-under, less-fits}

-- a record as a series leaves it: 129 places, and valid
pub record Good (l : Ledger) : Type 0 where
  pub whole : length l.ends ≡ places
  pub falls : falling (most_number + 1) l.ends ≡ true
  pub fits : Fits l.floor l.given l.ends

pub good-valid : (l : Ledger) → Good l → valid l ≡ true
good-valid l g = sym (valid-is l) ∙ rw g.falls (is-fits l.floor l.given l.ends g.fits)

-- a record that holds a set: what is settled in it is the set and all up to its floor, and the count of what is given up is right
pub record Holds (f : ℕ → Bool) (l : Ledger) : Type 0 where
  pub good : Good l
  pub settles : (y : ℕ) → 1 ≤ y → settled_at l.ends y ≡ settled l.floor f y
  pub is-given : l.given ≡ count_to (left_out f) l.floor

holds_same : (f g : ℕ → Bool) (l : Ledger) → ((y : ℕ) → 1 ≤ y → f y ≡ g y) → Holds f l → Holds g l
holds_same f g l same h = record {
  good = h.good;
  settles = λ (y : ℕ) (lo : 1 ≤ y). h.settles y lo ∙ ap (λ (b : Bool). leb y l.floor || b) (same y lo);
  is-given = h.is-given ∙ count_same (left_out f) (left_out g) l.floor (λ (y : ℕ) (lo : 1 ≤ y) (hi : y ≤ l.floor). ap not (same y lo));
}

-- a number above the floor is in the set exactly if it is settled
above_in : (f : ℕ → Bool) (l : Ledger) (y : ℕ) → Holds f l → l.floor < y → settled_at l.ends y ≡ f y
above_in f l y h lt = h.settles y (omega arith) ∙ settled-above l.floor f y lt

fresh_holds : Holds (λ (y : ℕ). false) fresh
fresh_holds = record {
  good = record { whole = refl; falls = refl; fits = no-floor refl refl };
  settles = λ (y : ℕ) (lo : 1 ≤ y). even-missing (replicate places 0) y (omega (arith, from-zeros y places lo)) ∙ sym (settled-above 0 (λ (z : ℕ). false) y lo);
  is-given = refl;
}

number-falls : (n : ℕ) (es : List ℕ) → n ≤ most_number → falling (most_number + 1) es ≡ true → falling (most_number + 1) (with_number n es) ≡ true
number-falls n es hi h = turn-falls (most_number + 1) (n - 1) (turned n es) (omega arith) (turn-falls (most_number + 1) n es (omega arith) h)

-- a new number
module _ (f : ℕ → Bool) (l : Ledger) (n : ℕ) (h : Holds f l) (one : 1 ≤ n) (hi : n ≤ most_number) (above : l.floor < n)
    (miss : settled_at l.ends n ≡ false) (few : runs_in (with_number n l.ends) ≤ most_runs) where
  abbrev more : List ℕ
  more = with_number n l.ends

  more-falls : falling (most_number + 1) more ≡ true
  more-falls = number-falls n l.ends hi h.good.falls

  more-counts : (y : ℕ) → 1 ≤ y → ends_from y (fitted more) ≡ ends_from y more
  more-counts y lo = fitted-from (most_number + 1) y more more-falls lo (omega (arith, few))

  -- two ends more or less, above the floor
  more-fits : Fits l.floor l.given l.ends → Fits l.floor l.given (fitted more)
  more-fits (no-floor p q) = no-floor p q
  more-fits (a-floor a) =
      let m = l.floor + 1 in
      let even : ends_from n l.ends % 2 ≡ 0 = missing-even l.ends n miss in
      let apart : n ≡ m → ⊥ = λ (q : n ≡ m). (let even' : ends_from m l.ends % 2 ≡ 0 = rw q at even in omega (arith, a.odd)) in
      let low : leb m (n - 1) ≡ true = le-leb m (n - 1) (omega arith) in
      let high : leb m n ≡ true = le-leb m n (omega arith) in
      let count : ends_from m more % 2 ≡ (ends_from m l.ends + 1 + 1) % 2 = number-count n m l.ends ∙ rw (low, high) refl in
      a-floor (record {
        some = a.some;
        most = a.most;
        odd = omega (arith, a.odd, more-counts m (omega arith));
        none-under = omega (
          arith,
          a.none-under,
          more-counts 1 (omega arith),
          more-counts m (omega arith),
          turn-above m n l.ends (omega arith) (omega arith),
          turn-above m (n - 1) (turned n l.ends) (omega arith) (omega arith),
        );
      })

  more-holds : Holds (with n f) (with_more l n)
  more-holds = record {
    good = record { whole = fitted-whole more; falls = fitted-falls (most_number + 1) more more-falls; fits = more-fits h.good.fits };
    settles = λ (y : ℕ) (lo : 1 ≤ y).
        ap (λ (k : ℕ). eqb (k % 2) 1) (more-counts y lo) ∙ number-settled n y l.ends one lo miss ∙ ap (λ (b : Bool). eqb y n || b) (h.settles y lo) ∙ settled-with l.floor n f y;
    is-given = h.is-given
        ∙ count_same (left_out f) (left_out (with n f)) l.floor
        (λ (y : ℕ) (lo : 1 ≤ y) (le : y ≤ l.floor). ap (λ (b : Bool). not (b || f y)) (sym (ne_eqb y n (λ (q : y ≡ n). omega arith))));
  }

-- an arrival that is not refused puts its number in
abbrev with_arrival : ℕ → Answered Arrival → (ℕ → Bool) → ℕ → Bool
with_arrival n r f y = (eqb y n && eqb (answer_number r.answer) 0) || f y

holds-arrival : (f : ℕ → Bool) (l : Ledger) (n : ℕ) (r : Answered Arrival) → Holds f l → Arrives l n r → Holds (with_arrival n r f) r.ledger
holds-arrival f l n r h (outside o) = holds_same f (with_arrival n r f) l (λ (y : ℕ) (lo : 1 ≤ y). rw (and-false (eqb y n)) refl) h
holds-arrival f l n r h (under one hi low) = holds_same f (with_arrival n r f) l (λ (y : ℕ) (lo : 1 ≤ y). rw (and-false (eqb y n)) refl) h
holds-arrival f l n r h (full one hi above miss many) = holds_same f (with_arrival n r f) l (λ (y : ℕ) (lo : 1 ≤ y). rw (and-false (eqb y n)) refl) h
holds-arrival f l n r h (repeats one hi above there) =
    holds_same f (with_arrival n r f) l
    (λ (y : ℕ) (lo : 1 ≤ y). rw (and-true (eqb y n)) (sym (with-there f n y (sym (above_in f l n h above) ∙ there)))) h
holds-arrival f l n r h (new one hi above miss few) =
    holds_same (with n f) (with_arrival n r f) r.ledger (λ (y : ℕ) (lo : 1 ≤ y). rw (and-true (eqb y n)) refl)
    (more-holds f l n h one hi above miss (ltb-false most_runs (runs_in (with_number n l.ends)) few))

-- the lowest run given up
module _ (f : ℕ → Bool) (l : Ledger) (h : Holds f l) (some : 1 ≤ runs_in l.ends) where
  falls : falling (most_number + 1) l.ends ≡ true
  falls = h.good.falls

  whole : length l.ends ≡ places
  whole = h.good.whole

  floor-low : l.floor < first_of l.ends 0
  floor-low = floor-under (most_number + 1) l.ends falls whole some l.floor l.given h.good.fits

  in_order : first_of l.ends 0 ≤ last_of l.ends 0
  in_order = first-under-last (most_number + 1) l.ends falls whole some

  -- in the set are the numbers between the floor and the run, and the one behind it; not its own
  between_in : (y : ℕ) → l.floor < y → y < first_of l.ends 0 → f y ≡ true
  between_in y lo hi = sym (above_in f l y h lo) ∙ below-settled (most_number + 1) l.ends falls whole some y (omega arith) hi

  run_out : (y : ℕ) → first_of l.ends 0 ≤ y → y ≤ last_of l.ends 0 → f y ≡ false
  run_out y lo hi = sym (above_in f l y h (omega (arith, floor-low))) ∙ lowest-missing (most_number + 1) l.ends falls whole some y lo hi

  behind-in : f (last_of l.ends 0 + 1) ≡ true
  behind-in = sym (above_in f l (last_of l.ends 0 + 1) h (omega (arith, floor-low, in_order))) ∙ behind-settled (most_number + 1) l.ends falls whole some

  less-given : l.given + (last_of l.ends 0 + 1 - first_of l.ends 0) ≡ count_to (left_out f) (last_of l.ends 0)
  less-given =
      let first = first_of l.ends 0 in
      let last = last_of l.ends 0 in
      let none : count_to (left_out f) (first - 1) ≡ count_to (left_out f) l.floor =
      count-above (left_out f) l.floor (first - 1) (omega (arith, floor-low)) (λ (y : ℕ) (lt : l.floor < y) (le : y ≤ first - 1). ap not (between_in y lt (omega (arith, floor-low)))) in
      let all : count_to (left_out f) last ≡ count_to (left_out f) (first - 1) + (last - (first - 1)) =
      count-all (left_out f) (first - 1) last (omega (arith, in_order)) (λ (y : ℕ) (lt : first - 1 < y) (le : y ≤ last). ap not (run_out y (omega arith) le)) in
      omega (arith, h.is-given, floor-low, in_order)

  less-holds : Holds f (with_less l)
  less-holds = record {
    good = record {
      whole = fitted-whole (without_lowest l.ends);
      falls = fitted-falls (most_number + 1) (without_lowest l.ends) (take-falls (most_number + 1) (2 * runs_in l.ends - 1) l.ends falls);
      fits = less-fits (most_number + 1) l.ends falls whole some l.floor l.given h.good.fits;
    };
    settles = λ (y : ℕ) (lo : 1 ≤ y).
        less-settles (most_number + 1) l.ends falls whole some y lo
        ∙ ap (λ (t : Bool). leb y (last_of l.ends 0) || t) (h.settles y lo)
        ∙ settled-higher l.floor (last_of l.ends 0) f y (omega (arith, floor-low, in_order));
    is-given = less-given;
  }

  -- the floor is where the lowest run above it ends
  less-floor : last_of l.ends 0 ≡ first_above (ends_run f) l.floor most_number
  less-floor =
      let last = last_of l.ends 0 in
      sym (first-is (ends_run f) l.floor last most_number (omega (arith, floor-low, in_order)) (omega (arith, falls-bound (most_number + 1) l.ends (2 * (runs_in l.ends - 0) - 1) falls))
      (rw (run_out last in_order (omega arith), behind-in) refl) before)
    where
      before : (y : ℕ) → l.floor < y → y < last_of l.ends 0 → ends_run f y ≡ false
      before y lo lt = go (leb (first_of l.ends 0) y) refl
        where
          go : (t : Bool) → leb (first_of l.ends 0) y ≡ t → ends_run f y ≡ false
          go true p = rw (run_out (y + 1) (omega (arith, leb-true (first_of l.ends 0) y p)) (omega arith)) (and-false (not (f y)))
          go false p = rw (between_in y lo (leb-false (first_of l.ends 0) y p)) refl

-- without a run no number above the floor ends one
no-run-floor : (f : ℕ → Bool) (l : Ledger) → Holds f l → runs_in l.ends ≡ 0 → l.floor ≡ first_above (ends_run f) l.floor most_number
no-run-floor f l h none = sym (first-none (ends_run f) l.floor most_number (λ (y : ℕ) (lo : l.floor < y) (hi : y ≤ most_number). go y lo (f y) refl))
  where
    go : (y : ℕ) → l.floor < y → (t : Bool) → f y ≡ t → (not t && f (y + 1)) ≡ false
    go y lo true p = refl
    go y lo false p =
        let even : ends_from y l.ends % 2 ≡ 0 = missing-even l.ends y (above_in f l y h lo ∙ p) in
        let next : ends_from (y + 1) l.ends ≡ 0 = omega (arith, none, from-fewer 1 y l.ends (omega arith), from-fewer y (y + 1) l.ends (omega arith)) in
        sym (above_in f l (y + 1) h (omega arith)) ∙ even-missing l.ends (y + 1) (omega arith)

pub holds-give-up : (f : ℕ → Bool) (l : Ledger) (r : Answered Run) → Holds f l → Gives l r → Holds f r.ledger
holds-give-up f l r h (no_run none) = h
holds-give-up f l r h (a-run some) = less-holds f l h some

-- what a series leaves holds the recorded numbers
pub series-holds : (hs : List Event) → Holds (recorded hs) (after hs)
series-holds [] = fresh_holds
series-holds (arrives n ∷ hs) =
    let h = series-holds hs in
    holds-arrival (recorded hs) (after hs) n (arrived_of (after hs) n) h (arrival (after hs) n (good-valid (after hs) h.good))
series-holds (gives_up ∷ hs) =
    let h = series-holds hs in
    holds-give-up (recorded hs) (after hs) (gave_up_of (after hs)) h (gives (after hs) (good-valid (after hs) h.good))

-- an arrival leaves the floor; giving up moves it
floor-stays : (l : Ledger) (n : ℕ) (r : Answered Arrival) → Arrives l n r → r.ledger.floor ≡ l.floor
floor-stays l n r (outside o) = refl
floor-stays l n r (under one hi low) = refl
floor-stays l n r (repeats one hi above there) = refl
floor-stays l n r (full one hi above miss many) = refl
floor-stays l n r (new one hi above miss few) = refl

floor-moves : (f : ℕ → Bool) (l : Ledger) (r : Answered Run) → Holds f l → Gives l r → r.ledger.floor ≡ first_above (ends_run f) l.floor most_number
floor-moves f l r h (no_run none) = no-run-floor f l h none
floor-moves f l r h (a-run some) = less-floor f l h some

pub series-floor : (hs : List Event) → (after hs).floor ≡ floor_after hs
series-floor [] = refl
series-floor (arrives n ∷ hs) =
    floor-stays (after hs) n (arrived_of (after hs) n) (arrival (after hs) n (good-valid (after hs) (series-holds hs).good)) ∙ series-floor hs
series-floor (gives_up ∷ hs) =
    let h = series-holds hs in
    floor-moves (recorded hs) (after hs) (gave_up_of (after hs)) h (gives (after hs) (good-valid (after hs) h.good))
    ∙ ap (λ (k : ℕ). first_above (ends_run (recorded hs)) k most_number) (series-floor hs)

-- what the calls tell of a record that holds a set
module _ (f : ℕ → Bool) (l : Ledger) (h : Holds f l) where
  highest-of : Highest f (highest_in l.ends)
  highest-of =
      highest-above l.floor f (highest_in l.ends) (fits-apart (most_number + 1) l.floor l.given l.ends h.good.falls h.good.fits)
      (highest-same (settled_at l.ends) (settled l.floor f) h.settles (highest_in l.ends) (ends-highest (most_number + 1) l.ends h.good.falls))

  -- all that is settled: what was recorded, and what was given up
  settled-of : settled_in l.ends ≡ count_to f (highest_in l.ends) + l.given
  settled-of =
      let top = highest_in l.ends in
      let counted : count_to (settled_at l.ends) top ≡ settled_in l.ends = ends-settled (most_number + 1) l.ends top h.good.falls (omega arith) in
      let same : count_to (settled_at l.ends) top ≡ count_to (settled l.floor f) top =
      count_same (settled_at l.ends) (settled l.floor f) top (λ (y : ℕ) (lo : 1 ≤ y) (hi : y ≤ top). h.settles y lo) in
      let parts : count_to (settled l.floor f) top ≡ count_to f top + count_to (left_out f) l.floor =
      count-settled l.floor f top (fits_below (most_number + 1) l.floor l.given l.ends h.good.falls h.good.fits) in
      omega (arith, h.is-given)

  runs_of : runs_in l.ends ≡ runs_to (settled l.floor f) (highest_in l.ends)
  runs_of =
      sym (ends-runs (most_number + 1) l.ends h.good.falls).0
      ∙ runs_same (settled_at l.ends) (settled l.floor f) (highest_in l.ends) (λ (y : ℕ) (lo : 1 ≤ y) (hi : y ≤ highest_in l.ends). h.settles y lo)

  told : Tells f l.floor l
  told =
      let es = l.ends in
      let ok : valid l ≡ true = good-valid l h.good in
      record {
        highest = highest_in es;
        heard = settled_in es - l.given;
        missing = missing_in es;
        given-up = l.given;
        runs = runs_in es;
        first = first_of es;
        last = last_of es;
        says-highest = rw ok refl;
        says-heard = rw ok refl;
        says-missing = rw ok refl;
        says-floor = rw ok refl;
        says-given-up = rw ok refl;
        says-runs = rw ok refl;
        says-run = λ (k : ℕ) (lt : k < runs_in es). rw (ok, lt-ltb k (runs_in es) lt) refl;
        says-no-run = λ (k : ℕ) (le : runs_in es ≤ k). rw (ok, le-ltb k (runs_in es) le) refl;
        true_of = record {
          is-highest = highest-of;
          is-heard = omega (arith, settled-of);
          is-given-up = h.is-given;
          adds-up = omega (arith, settled-of, settled-under-highest es);
          is-runs = runs_of;
          are-runs = runs-above l.floor f (highest_in es) (runs_in es) (first_of es) (last_of es)
              (runs-of-same (settled_at es) (settled l.floor f) h.settles 0 (highest_in es) (runs_in es) (first_of es) (last_of es) (ends-are-runs (most_number + 1) es h.good.falls));
        };
      }

pub series-told : (hs : List Event) → Tells (recorded hs) (floor_after hs) (after hs)
series-told hs = subst (λ (floor : ℕ). Tells (recorded hs) floor (after hs)) (series-floor hs) (told (recorded hs) (after hs) (series-holds hs))

-- the runs that recording a number would leave
module _ (f : ℕ → Bool) (l : Ledger) (n top : ℕ) (h : Holds f l) (one : 1 ≤ n) (hi : Highest f top) (above : l.floor < n) where
  -- ends that hold what is then settled tell them
  runs-with : (more : List ℕ) → falling (most_number + 1) more ≡ true → ((y : ℕ) → 1 ≤ y → settled_at more y ≡ settled l.floor (with n f) y)
      → runs_to (settled l.floor (with n f)) (max n top) ≡ runs_in more
  runs-with more falls same =
      let g = settled l.floor (with n f) in
      let highest : highest_in more ≡ max n top =
      highest-once g (highest_in more) (max n top)
      (highest-same (settled_at more) g same (highest_in more) (ends-highest (most_number + 1) more falls))
      (highest-settled l.floor (with n f) (max n top) (omega arith) (with-highest f n top one hi)) in
      sym (runs_same (settled_at more) g (max n top) (λ (y : ℕ) (lo : 1 ≤ y) (up : y ≤ max n top). same y lo))
      ∙ ap (λ (k : ℕ). runs_to (settled_at more) k) (sym highest) ∙ (ends-runs (most_number + 1) more falls).0

  runs-more : n ≤ most_number → settled_at l.ends n ≡ false → runs_to (settled l.floor (with n f)) (max n top) ≡ runs_in (with_number n l.ends)
  runs-more most miss =
      runs-with (with_number n l.ends) (number-falls n l.ends most h.good.falls)
      (λ (y : ℕ) (lo : 1 ≤ y). number-settled n y l.ends one lo miss ∙ ap (λ (t : Bool). eqb y n || t) (h.settles y lo) ∙ settled-with l.floor n f y)

  -- a number that is recorded already would leave those that there are
  runs-kept : settled_at l.ends n ≡ true → runs_to (settled l.floor (with n f)) (max n top) ≤ most_runs
  runs-kept there =
      let is : f n ≡ true = sym (above_in f l n h above) ∙ there in
      let count : runs_to (settled l.floor (with n f)) (max n top) ≡ runs_in l.ends =
      runs-with l.ends h.good.falls (λ (y : ℕ) (lo : 1 ≤ y). h.settles y lo ∙ ap (λ (t : Bool). leb y l.floor || t) (sym (with-there f n y is))) in
      omega (arith, from-length 1 l.ends, h.good.whole)

-- each answer is the one that the set gives
answer-by : (f : ℕ → Bool) (l : Ledger) (n top : ℕ) (r : Answered Arrival) → Holds f l → Highest f top → Arrives l n r → r.answer ≡ answer_by f l.floor top n
unfolding answer_by
answer-by f l n top r h hi (outside o) = rw o refl
answer-by f l n top r h hi (under one most low) = rw (inside n one most, le-leb n l.floor low) refl
answer-by f l n top r h hi (repeats one most above there) = rw (inside n one most, lt-leb n l.floor above, sym (above_in f l n h above) ∙ there) refl
answer-by f l n top r h hi (full one most above miss many) =
    rw (inside n one most, lt-leb n l.floor above, sym (above_in f l n h above) ∙ miss, runs-more f l n top h one hi above most miss, many) refl
answer-by f l n top r h hi (new one most above miss few) =
    rw (inside n one most, lt-leb n l.floor above, sym (above_in f l n h above) ∙ miss, runs-more f l n top h one hi above most miss, few) refl

pub series-answers : (hs : List Event) (n top : ℕ) → Highest (recorded hs) top → answer_to hs n ≡ answer_by (recorded hs) (floor_after hs) top n
series-answers hs n top hi =
    let h = series-holds hs in
    answer-by (recorded hs) (after hs) n top (arrived_of (after hs) n) h hi (arrival (after hs) n (good-valid (after hs) h.good))
    ∙ ap (λ (floor : ℕ). answer_by (recorded hs) floor top n) (series-floor hs)

-- an arrival within the allowed numbers is refused exactly when it is not above the floor, or recording it would leave more than 64
-- runs above the floor
refused-by : (f : ℕ → Bool) (l : Ledger) (n top : ℕ) (r : Answered Arrival) → 1 ≤ n → n ≤ most_number → Holds f l → Highest f top → Arrives l n r
    → (0 < answer_number r.answer) ↔ ((n ≤ l.floor) ⊎ (most_runs < runs_to (settled l.floor (with n f)) (max n top)))
refused-by f l n top r lo most h hi (outside o) = absurd (false≢true (sym (inside n lo most) ∙ o))
refused-by f l n top r lo most h hi (under one _ low) = (
  λ (refused : 0 < 25). inl low,
  λ (why : (n ≤ l.floor) ⊎ (most_runs < runs_to (settled l.floor (with n f)) (max n top))). omega arith,
)
refused-by f l n top r lo most h hi (repeats one _ above there) =
    let few : runs_to (settled l.floor (with n f)) (max n top) ≤ most_runs = runs-kept f l n top h lo hi above there in (
      λ (refused : 0 < 0). absurd (omega arith),
      ⊎_elim (λ (low : n ≤ l.floor). absurd (omega arith)) (λ (many : most_runs < runs_to (settled l.floor (with n f)) (max n top)). absurd (omega arith)),
    )
refused-by f l n top r lo most h hi (full one _ above miss many) = (
  λ (refused : 0 < 22). inr (omega (arith, runs-more f l n top h lo hi above most miss, ltb-true most_runs (runs_in (with_number n l.ends)) many)),
  λ (why : (n ≤ l.floor) ⊎ (most_runs < runs_to (settled l.floor (with n f)) (max n top))). omega arith,
)
refused-by f l n top r lo most h hi (new one _ above miss few) = (
  λ (refused : 0 < 0). absurd (omega arith),
  ⊎_elim (λ (low : n ≤ l.floor). absurd (omega arith))
      (λ (more : most_runs < runs_to (settled l.floor (with n f)) (max n top)).
      absurd (omega (arith, runs-more f l n top h lo hi above most miss, ltb-false most_runs (runs_in (with_number n l.ends)) few))),
)

pub refused-exactly : (hs : List Event) (n top : ℕ) → 1 ≤ n → n ≤ most_number → Highest (recorded hs) top
    → (0 < answer_number (answer_to hs n)) ↔ ((n ≤ floor_after hs) ⊎ (most_runs < runs_to (settled (floor_after hs) (with n (recorded hs))) (max n top)))
refused-exactly hs n top lo most hi =
    let h = series-holds hs in
    subst (λ (floor : ℕ). (0 < answer_number (answer_to hs n)) ↔ ((n ≤ floor) ⊎ (most_runs < runs_to (settled floor (with n (recorded hs))) (max n top)))) (series-floor hs)
    (refused-by (recorded hs) (after hs) n top (arrived_of (after hs) n) lo most h hi (arrival (after hs) n (good-valid (after hs) h.good)))
