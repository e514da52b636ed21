-- The outcome of a call on a ledger tells the answer: an arrival's, a figure's and a run's.
use Prim.Native.Nat.{ℕ, zero, suc, ◌+◌, ◌-◌, ◌*◌, ◌/◌, ◌%◌, ◌≤◌}
use mathlib.Core.Path.{◌≡◌, refl, sym, ap, subst, ◌∙◌}
use mathlib.Core.List.{[], ◌∷◌}
use mathlib.Core.Bool.{Bool, true, false, cond, not, ◌||◌}
use native.Mathlib.Omega.{arith}
use lib.Dec.{leb, eqb, ltb}
use borrow.Author.Tests.{leb-true, leb-false, eqb-true, eqb-false, ne_eqb, ltb-false}
use Rattle.digits.proofs.Bools.{no_false}
use Rattle.std.specs.Prelude.{Result, Ok, Err}
use Rattle.ledger.specs.Sets.{with, count_to}
use Rattle.ledger.specs.Ends.{falling, settled_at, highest_in, settled_in, first_of, last_of, runs_in, turned, with_number, floor_fits, fitted}
use Rattle.ledger.specs.Calls.{most_number, most_runs, answer_number, run_values, run_from, error_number, valid, arrived_of, gave_up_of, figure_by, figure_of, run_of}
use Rattle.ledger.specs.declared.Ledger.{Ledger}
use Rattle.ledger.specs.declared.Arrival.{Arrival}
use Rattle.ledger.specs.declared.Run.{Run}
use Rattle.ledger.specs.declared.Answered.{Answered}
use Rattle.ledger.specs.declared.LedgerError.{LedgerError}
use Rattle.ledger.proofs.EndLaws.{both_left, both_right, falls-bound, odd-settled}
use Rattle.ledger.proofs.SetLaws.{count_same}
use Rattle.ledger.proofs.TrueLaws.{ends-settled}
use Rattle.ledger.proofs.TurnLaws.{turn-falls, number-settled, from-fewer, fitted-falls, fitted-from}
use Rattle.ledger.proofs.FloorLaws.{Fits, no-floor, a-floor, fits-is, fits_below}
use Rattle.ledger.proofs.SettledLaws.{count-all}
use Rattle.ledger.proofs.ArriveLaws.{valid-is, arrive-damaged, Arrives, outside, under, repeats, full, new, arrives}
use Rattle.ledger.proofs.GiveUpLaws.{give-up-damaged, Gives, no_run, a-run, gives}
use Rattle.c_outcomes.specs.Outcomes.{answer_part}
use Rattle.c_ledger.specs.Outcomes.{arrival_outcome, figure_outcome, run_outcome, first_part, last_part}

-- what stands above the answer
abbrev pub above_part : ℕ → ℕ
above_part x = x / 256

-- the ends of a valid ledger fall
valid-falls : (l : Ledger) → valid l ≡ true → falling (most_number + 1) l.ends ≡ true
valid-falls l v = both_left (falling (most_number + 1) l.ends) (floor_fits l.floor l.given l.ends) (valid-is l ∙ v)

-- the refusal of a number
abbrev pub error_in : ℕ → LedgerError
error_in x =
    cond (eqb x 20) LedgerError.Damaged
    (cond (eqb x 21) LedgerError.OutOfRange
    (cond (eqb x 22) LedgerError.TooManyRuns
    (cond (eqb x 23) LedgerError.NoSuchRun
    (cond (eqb x 24) LedgerError.NothingMissing LedgerError.NotAboveFloor))))

-- ---- arrivals
-- how many numbers more are heard
abbrev pub heard_more : Result Arrival LedgerError → ℕ
heard_more (Ok Arrival.New) = 1
heard_more (Ok Arrival.Repeat) = 0
heard_more (Err e) = 0

-- the answer that an arrival's outcome tells
abbrev pub arrival_in : ℕ → Result Arrival LedgerError
arrival_in x = cond (eqb (answer_part x) 0) (Ok (cond (eqb (above_part x) 0) Arrival.Repeat Arrival.New)) (Err (error_in (answer_part x)))

-- what holds of the six answers holds of the answer to any arrival
of-arrivals : (P : Result Arrival LedgerError → Type 0) → P (Ok Arrival.New) → P (Ok Arrival.Repeat) → P (Err LedgerError.Damaged) → P (Err LedgerError.OutOfRange) → P (Err LedgerError.TooManyRuns) → P (Err LedgerError.NotAboveFloor)
    → (l : Ledger) (n : ℕ) → P (arrived_of l n).answer
of-arrivals P p q r s t u l n = go (valid l) refl
  where
    by-case : (x : Answered Arrival) → Arrives l n x → P x.answer
    by-case x (outside e) = s
    by-case x (under lo hi low) = u
    by-case x (repeats lo hi above e) = q
    by-case x (full lo hi above e f) = t
    by-case x (new lo hi above e f) = p

    go : (v : Bool) → valid l ≡ v → P (arrived_of l n).answer
    go true v = by-case (arrived_of l n) (arrives l n v)
    go false v = subst (λ (x : Answered Arrival). P x.answer) (arrive-damaged l n v) r

-- an arrival's outcome tells the answer
pub arrival-back : (l : Ledger) (n : ℕ) → arrival_in (arrival_outcome (arrived_of l n).answer) ≡ (arrived_of l n).answer
arrival-back = of-arrivals (λ a. arrival_in (arrival_outcome a) ≡ a) refl refl refl refl refl refl

-- it has the answer's number, and how many numbers more are heard
pub arrival-told : (l : Ledger) (n : ℕ) → let a = (arrived_of l n).answer in
    (answer_part (arrival_outcome a) ≡ answer_number a) × (above_part (arrival_outcome a) ≡ heard_more a)
arrival-told =
    of-arrivals (λ a. (answer_part (arrival_outcome a) ≡ answer_number a) × (above_part (arrival_outcome a) ≡ heard_more a))
    (refl, refl) (refl, refl) (refl, refl) (refl, refl) (refl, refl) (refl, refl)

-- a number put into a set that it is not in makes one more
count-with : (f : ℕ → Bool) (n k : ℕ) → 1 ≤ n → n ≤ k → f n ≡ false → count_to (with n f) k ≡ count_to f k + 1
count-with f n zero lo hi miss = absurd (omega arith)
count-with f n (suc k) lo hi miss = go (eqb (suc k) n) refl (f (suc k)) refl (λ le. count-with f n k lo le miss)
  where
    go : (s : Bool) → eqb (suc k) n ≡ s → (t : Bool) → f (suc k) ≡ t → (n ≤ k → count_to (with n f) k ≡ count_to f k + 1)
        → cond (s || t) 1 0 + count_to (with n f) k ≡ cond t 1 0 + count_to f k + 1
    go true p true q ih = absurd (no_false (sym miss ∙ ap f (sym (eqb-true (suc k) n p)) ∙ q))
    go true p false q ih =
        omega (arith, count_same (with n f) f k (λ y one le. ap (λ (b : Bool). b || f y) (ne_eqb y n (λ e. omega (arith, e, eqb-true (suc k) n p)))))
    go false p t q ih = let apart : suc k ≡ n → ⊥ = eqb-false (suc k) n p in omega (arith, ih (omega arith))

-- up to a higher number no fewer are counted
count-rises : (f : ℕ → Bool) (a b : ℕ) → a ≤ b → count_to f a ≤ count_to f b
count-rises f a zero le = let q : a ≡ 0 = omega arith in rw q (omega arith)
count-rises f a (suc b) le = go (leb a b) refl (λ lo. count-rises f a b lo)
  where
    go : (t : Bool) → leb a b ≡ t → (a ≤ b → count_to f a ≤ count_to f b) → count_to f a ≤ count_to f (suc b)
    go true p ih = omega (arith, ih (leb-true a b p))
    go false p ih = let q : a ≡ suc b = omega (arith, leb-false a b p) in rw q (omega arith)

-- what was given up is settled
given-settled : (l : Ledger) → valid l ≡ true → l.given ≤ settled_in l.ends
given-settled l v = go (fits-is l.floor l.given l.ends (both_right (falling (most_number + 1) l.ends) (floor_fits l.floor l.given l.ends) (valid-is l ∙ v)))
  where
    go : Fits l.floor l.given l.ends → l.given ≤ settled_in l.ends
    go (no-floor p q) = omega arith
    go (a-floor a) =
        let es = l.ends in
        let below : l.floor ≤ highest_in es = fits_below (most_number + 1) l.floor l.given es (valid-falls l v) (a-floor a) in
        let all : count_to (settled_at es) l.floor ≡ count_to (settled_at es) 0 + (l.floor - 0) =
        count-all (settled_at es) 0 l.floor (omega arith)
        (λ y lo hi. odd-settled es y (omega (arith, a.odd, a.none-under, from-fewer 1 y es (omega arith), from-fewer y (l.floor + 1) es (omega arith)))) in
        omega (arith, a.most, count-rises (settled_at es) l.floor (highest_in es) below, ends-settled (most_number + 1) es (highest_in es) (valid-falls l v) (omega arith))

-- how many numbers a ledger has heard: those settled that were not given up
abbrev pub heard_by : Ledger → ℕ
heard_by l = settled_in l.ends - l.given

-- so many more are then heard
pub arrival-grows : (l : Ledger) (n : ℕ) → heard_by (arrived_of l n).ledger ≡ heard_by l + heard_more (arrived_of l n).answer
arrival-grows l n = go (valid l) refl
  where
    grown : falling (most_number + 1) l.ends ≡ true → 1 ≤ n → n ≤ most_number → settled_at l.ends n ≡ false
        → ltb most_runs (runs_in (with_number n l.ends)) ≡ false → settled_in (fitted (with_number n l.ends)) ≡ settled_in l.ends + 1
    grown falls lo hi miss few =
        let es = l.ends in
        let more = with_number n es in
        let more-falls : falling (most_number + 1) more ≡ true =
        turn-falls (most_number + 1) (n - 1) (turned n es) (omega arith) (turn-falls (most_number + 1) n es (omega arith) falls) in
        let k = n + highest_in es + highest_in (fitted more) in
        let same : count_to (settled_at (fitted more)) k ≡ count_to (with n (settled_at es)) k =
        count_same (settled_at (fitted more)) (with n (settled_at es)) k
        (λ y one le. ap (λ (c : ℕ). eqb (c % 2) 1) (fitted-from (most_number + 1) y more more-falls one (omega (arith, ltb-false most_runs (runs_in more) few)))
        ∙ number-settled n y es lo one miss) in
        sym (ends-settled (most_number + 1) (fitted more) k (fitted-falls (most_number + 1) more more-falls) (omega arith))
        ∙ same ∙ count-with (settled_at es) n k lo (omega arith) miss
        ∙ ap (λ (c : ℕ). c + 1) (ends-settled (most_number + 1) es k falls (omega arith))

    by-case : valid l ≡ true → (x : Answered Arrival) → Arrives l n x → heard_by x.ledger ≡ heard_by l + heard_more x.answer
    by-case v x (outside e) = omega arith
    by-case v x (under lo hi low) = omega arith
    by-case v x (repeats lo hi above e) = omega arith
    by-case v x (full lo hi above e f) = omega arith
    by-case v x (new lo hi above e f) = omega (arith, grown (valid-falls l v) lo hi e f, given-settled l v)

    go : (v : Bool) → valid l ≡ v → heard_by (arrived_of l n).ledger ≡ heard_by l + heard_more (arrived_of l n).answer
    go true v = by-case v (arrived_of l n) (arrives l n v)
    go false v = subst (λ (x : Answered Arrival). heard_by x.ledger ≡ heard_by l + heard_more x.answer) (arrive-damaged l n v) (omega arith)

-- ---- figures
-- the answer that a figure's outcome tells
abbrev pub figure_in : ℕ → Result ℕ LedgerError
figure_in x = cond (eqb (answer_part x) 0) (Ok (above_part x)) (Err (error_in (answer_part x)))

-- the outcome of a question for any figure of a ledger, as the highest, heard, missing, runs, floor or given up, tells the answer
pub figure-back : (l : Ledger) (n : ℕ) → figure_in (figure_outcome (figure_of l n)) ≡ figure_of l n
figure-back l n = go (valid l)
  where
    go : (v : Bool) → figure_in (figure_outcome (figure_by v n)) ≡ figure_by v n
    go true =
        let a : answer_part (figure_outcome (Ok n)) ≡ 0 = omega arith in
        let f : above_part (figure_outcome (Ok n)) ≡ n = omega arith in
        λ i. cond (eqb (a i) 0) (Ok (f i)) (Err (error_in (a i)))
    go false = refl

-- it has the answer's number, and where there is a figure the figure
pub figure-told : (l : Ledger) (n : ℕ) → let x = figure_outcome (figure_of l n) in
    (answer_part x ≡ answer_number (figure_of l n)) × ((k : ℕ) → figure_of l n ≡ Ok k → above_part x ≡ k)
figure-told l n = go (valid l)
  where
    go : (v : Bool) → let x = figure_outcome (figure_by v n) in (answer_part x ≡ answer_number (figure_by v n)) × ((k : ℕ) → figure_by v n ≡ Ok k → above_part x ≡ k)
    go true = (omega arith, λ k e. let same : n ≡ k = cc in omega arith)
    go false = (refl, λ k e. let z : ◌≡◌ {A = ℕ} 0 1 = cc in absurd (omega arith))

-- ---- runs
-- the answer that a run's outcome tells
abbrev pub run_in : ℕ → Result Run LedgerError
run_in x = cond (eqb (answer_part x) 0) (Ok (run_from (first_part x) (last_part x))) (Err (error_in (answer_part x)))

-- what holds of 20, of 23 and of every run whose numbers are small holds of the answer to any question for a run
of-runs : (P : Result Run LedgerError → Type 0) → P (Err LedgerError.Damaged) → P (Err LedgerError.NoSuchRun) → ((first last : ℕ) → first ≤ 100000000 → last ≤ 99999999 → P (Ok (run_from first last)))
    → (l : Ledger) (k : ℕ) → P (run_of l k)
of-runs P damaged none run l k = go (valid l) (ltb k (runs_in l.ends)) refl
  where
    go : (v u : Bool) → valid l ≡ v → P (cond (not v) (Err LedgerError.Damaged) (cond u (Ok (run_from (first_of l.ends k) (last_of l.ends k))) (Err LedgerError.NoSuchRun)))
    go true true v =
        run (first_of l.ends k) (last_of l.ends k)
        (omega (arith, falls-bound (most_number + 1) l.ends (2 * (runs_in l.ends - k)) (valid-falls l v)))
        (omega (arith, falls-bound (most_number + 1) l.ends (2 * (runs_in l.ends - k) - 1) (valid-falls l v)))
    go true false v = none
    go false u v = damaged

-- and so of 24 in place of 23 of the answer to giving up
of-givings : (P : Result Run LedgerError → Type 0) → P (Err LedgerError.Damaged) → P (Err LedgerError.NothingMissing) → ((first last : ℕ) → first ≤ 100000000 → last ≤ 99999999 → P (Ok (run_from first last)))
    → (l : Ledger) → P (gave_up_of l).answer
of-givings P damaged none run l = go (valid l) refl
  where
    by-case : valid l ≡ true → (x : Answered Run) → Gives l x → P x.answer
    by-case v x (no_run e) = none
    by-case v x (a-run e) =
        run (first_of l.ends 0) (last_of l.ends 0)
        (omega (arith, falls-bound (most_number + 1) l.ends (2 * (runs_in l.ends - 0)) (valid-falls l v)))
        (omega (arith, falls-bound (most_number + 1) l.ends (2 * (runs_in l.ends - 0) - 1) (valid-falls l v)))

    go : (v : Bool) → valid l ≡ v → P (gave_up_of l).answer
    go true v = by-case v (gave_up_of l) (gives l v)
    go false v = subst (λ (x : Answered Run). P x.answer) (give-up-damaged l v) damaged

-- the outcome of a question for a run has its first and its last number, and answer 0
run-parts : (first last : ℕ) → first ≤ 100000000 → last ≤ 99999999 → let x = run_outcome (Ok (run_from first last)) in
    (answer_part x ≡ 0) × (first_part x ≡ first) × (last_part x ≡ last)
run-parts first last low high = (omega arith, omega arith, omega arith)

-- that an outcome tells the answer
Back : Result Run LedgerError → Type 0
Back r = run_in (run_outcome r) ≡ r

back-run : (first last : ℕ) → first ≤ 100000000 → last ≤ 99999999 → Back (Ok (run_from first last))
unfolding Back
back-run first last low high = let p = run-parts first last low high in λ i. cond (eqb (p.0 i) 0) (Ok (run_from (p.1 i) (p.2 i))) (Err (error_in (p.0 i)))

-- that it has the answer's number, and where there is a run its first and its last number
Told : Result Run LedgerError → Type 0
Told r = (answer_part (run_outcome r) ≡ answer_number r) × ((first last : ℕ) → r ≡ Ok (run_from first last) → (first_part (run_outcome r) ≡ first) × (last_part (run_outcome r) ≡ last))

told-run : (first last : ℕ) → first ≤ 100000000 → last ≤ 99999999 → Told (Ok (run_from first last))
unfolding Told
told-run a z low high = let p = run-parts a z low high in (
  p.0,
  λ first last e.
      (let v : a ∷ z ∷ [] ≡ first ∷ last ∷ [] = ap run_values e in
      let f : a ≡ first = cc in
      let g : z ≡ last = cc in (p.1 ∙ f, p.2 ∙ g)),
)

told-refused : (e : LedgerError) → answer_part (error_number e) ≡ error_number e → Told (Err e)
unfolding Told
told-refused e small = (small, λ first last is. let z : ◌≡◌ {A = ℕ} 0 1 = cc in absurd (omega arith))

-- the outcome of a question for a run tells the answer
pub run-back : (l : Ledger) (k : ℕ) → run_in (run_outcome (run_of l k)) ≡ run_of l k
unfolding Back
run-back = of-runs Back refl refl back-run

-- it has the answer's number, and where there is a run its first and its last number
pub run-told : (l : Ledger) (k : ℕ) → let x = run_outcome (run_of l k) in
    (answer_part x ≡ answer_number (run_of l k)) × ((first last : ℕ) → run_of l k ≡ Ok (run_from first last) → (first_part x ≡ first) × (last_part x ≡ last))
unfolding Told
run-told = of-runs Told (told-refused LedgerError.Damaged refl) (told-refused LedgerError.NoSuchRun refl) told-run

-- and so with the outcome of giving up
pub give-up-back : (l : Ledger) → run_in (run_outcome (gave_up_of l).answer) ≡ (gave_up_of l).answer
unfolding Back
give-up-back = of-givings Back refl refl back-run

pub give-up-told : (l : Ledger) → let r = (gave_up_of l).answer in
    (answer_part (run_outcome r) ≡ answer_number r) × ((first last : ℕ) → r ≡ Ok (run_from first last) → (first_part (run_outcome r) ≡ first) × (last_part (run_outcome r) ≡ last))
unfolding Told
give-up-told = of-givings Told (told-refused LedgerError.Damaged refl) (told-refused LedgerError.NothingMissing refl) told-run
