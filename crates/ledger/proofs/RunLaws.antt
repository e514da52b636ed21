-- The runs that the rule for 22 counts are the longest ones, in every set: any set is held by some ends.
use Prim.Native.Nat.{ℕ, zero, suc, ◌+◌, ◌-◌, ◌≤◌, ◌<◌, max}
use native.Mathlib.Omega.{arith}
use mathlib.Core.Path.{◌≡◌, refl, sym, ap, subst, ◌∙◌}
use mathlib.Core.Bool.{Bool, true, false, cond, ◌&&◌, ◌||◌, and-false}
use mathlib.Core.List.{List, []}
use lib.Dec.{leb, eqb}
use borrow.Author.Tests.{leb-true, leb-false, le-leb, lt-leb, eqb-true, eqb-false}
use Rattle.ledger.specs.Sets.{with, settled, runs_to, Highest, RunsOf, HasRuns}
use Rattle.ledger.specs.Ends.{falling, settled_at, highest_in, runs_in, first_of, last_of, turned, with_number}
use Rattle.ledger.proofs.EndLaws.{falls-under}
use Rattle.ledger.proofs.SetLaws.{runs_same, highest-once, highest-same, runs-of-same, with-highest}
use Rattle.ledger.proofs.TrueLaws.{ends-highest, ends-runs, ends-are-runs}
use Rattle.ledger.proofs.TurnLaws.{turn-falls, number-settled}
use Rattle.ledger.proofs.SettledLaws.{runs-above, highest-settled}

-- the ends of the numbers of a set up to a bound
abbrev pub ends_of : (ℕ → Bool) → ℕ → List ℕ
ends_of f zero = []
ends_of f (suc k) = cond (f (suc k)) (with_number (suc k) (ends_of f k)) (ends_of f k)

pub ends-fall : (f : ℕ → Bool) (k : ℕ) → falling (k + 1) (ends_of f k) ≡ true
ends-fall f zero = refl
ends-fall f (suc k) = go (f (suc k)) (falls-under (k + 1) (suc k + 1) (ends_of f k) (omega arith) (ends-fall f k))
  where
    go : (t : Bool) → falling (suc k + 1) (ends_of f k) ≡ true → falling (suc k + 1) (cond t (with_number (suc k) (ends_of f k)) (ends_of f k)) ≡ true
    go true ih =
        turn-falls (suc k + 1) (suc k - 1) (turned (suc k) (ends_of f k)) (omega arith) (turn-falls (suc k + 1) (suc k) (ends_of f k) (omega arith) ih)
    go false ih = ih

-- they hold those numbers and no other
module _ (f : ℕ → Bool) (k : ℕ) (held : (y : ℕ) → 1 ≤ y → settled_at (ends_of f k) y ≡ (leb y k && f y)) where
  lower : (y : ℕ) → (y ≡ suc k → ⊥) → leb y k ≡ leb y (suc k)
  lower y ne = go (leb y k) refl
    where
      go : (t : Bool) → leb y k ≡ t → t ≡ leb y (suc k)
      go true p = sym (le-leb y (suc k) (omega (arith, leb-true y k p)))
      go false p = sym (lt-leb y (suc k) (omega (arith, leb-false y k p)))

  next-in : (y : ℕ) → f (suc k) ≡ true → (t : Bool) → eqb y (suc k) ≡ t → (t || (leb y k && f y)) ≡ (leb y (suc k) && f y)
  next-in y is true p = let q : y ≡ suc k = eqb-true y (suc k) p in rw (q, is, le-leb (suc k) (suc k) (omega arith)) refl
  next-in y is false p = ap (λ (b : Bool). b && f y) (lower y (eqb-false y (suc k) p))

  next-out : (y : ℕ) → f (suc k) ≡ false → (t : Bool) → eqb y (suc k) ≡ t → (leb y k && f y) ≡ (leb y (suc k) && f y)
  next-out y is true p = let q : y ≡ suc k = eqb-true y (suc k) p in rw (q, is) (and-false (leb (suc k) k) ∙ sym (and-false (leb (suc k) (suc k))))
  next-out y is false p = ap (λ (b : Bool). b && f y) (lower y (eqb-false y (suc k) p))

  hold-next : (y : ℕ) → 1 ≤ y → settled_at (ends_of f (suc k)) y ≡ (leb y (suc k) && f y)
  hold-next y lo = go (f (suc k)) refl
    where
      miss : settled_at (ends_of f k) (suc k) ≡ false
      miss = held (suc k) (omega arith) ∙ rw (lt-leb (suc k) k (omega arith)) refl

      go : (t : Bool) → f (suc k) ≡ t → settled_at (cond t (with_number (suc k) (ends_of f k)) (ends_of f k)) y ≡ (leb y (suc k) && f y)
      go true is =
          number-settled (suc k) y (ends_of f k) (omega arith) lo miss
          ∙ ap (λ (b : Bool). eqb y (suc k) || b) (held y lo)
          ∙ next-in y is (eqb y (suc k)) refl
      go false is = held y lo ∙ next-out y is (eqb y (suc k)) refl

ends-hold : (f : ℕ → Bool) (k y : ℕ) → 1 ≤ y → settled_at (ends_of f k) y ≡ (leb y k && f y)
ends-hold f zero y lo = rw (lt-leb y 0 (omega arith)) refl
ends-hold f (suc k) y lo = hold-next f k (λ (z : ℕ) (one : 1 ≤ z). ends-hold f k z one) y lo

-- those up to its highest number hold the whole set
pub ends-all : (f : ℕ → Bool) (top y : ℕ) → Highest f top → 1 ≤ y → settled_at (ends_of f top) y ≡ f y
ends-all f top y hi lo = ends-hold f top y lo ∙ go (leb y top) refl
  where
    go : (t : Bool) → leb y top ≡ t → (t && f y) ≡ f y
    go true p = refl
    go false p = sym (hi.none_above y (leb-false y top p))

-- their highest is the set's, and their runs are as many as start in it
pub ends-top : (f : ℕ → Bool) (top : ℕ) → Highest f top → highest_in (ends_of f top) ≡ top
ends-top f top hi =
    let es = ends_of f top in
    highest-once f (highest_in es) top
    (highest-same (settled_at es) f (λ (y : ℕ) (lo : 1 ≤ y). ends-all f top y hi lo) (highest_in es) (ends-highest (top + 1) es (ends-fall f top))) hi

pub ends-count : (f : ℕ → Bool) (top : ℕ) → Highest f top → runs_in (ends_of f top) ≡ runs_to f top
ends-count f top hi =
    let es = ends_of f top in
    sym (ends-runs (top + 1) es (ends-fall f top)).0
    ∙ runs_same (settled_at es) f (highest_in es) (λ (y : ℕ) (lo : 1 ≤ y) (up : y ≤ highest_in es). ends-all f top y hi lo)
    ∙ ap (λ (t : ℕ). runs_to f t) (ends-top f top hi)

-- the count of starting runs is the number of longest runs, whatever the set
runs-counted : (f : ℕ → Bool) (top : ℕ) → Highest f top → HasRuns f 0 top (runs_to f top)
runs-counted f top hi =
    let es = ends_of f top in
    let falls : falling (top + 1) es ≡ true = ends-fall f top in
    let same : (y : ℕ) → 1 ≤ y → settled_at es y ≡ f y = λ (y : ℕ) (lo : 1 ≤ y). ends-all f top y hi lo in
    record {
      first = first_of es;
      last = last_of es;
      are-runs = subst (λ (r : ℕ). RunsOf f 0 top r (first_of es) (last_of es)) (ends-count f top hi)
          (subst (λ (t : ℕ). RunsOf f 0 t (runs_in es) (first_of es) (last_of es)) (ends-top f top hi)
          (runs-of-same (settled_at es) f same 0 (highest_in es) (runs_in es) (first_of es) (last_of es) (ends-are-runs (top + 1) es falls)));
    }

-- and above a floor
pub runs-counted-above : (f : ℕ → Bool) (floor top : ℕ) → floor ≤ top → Highest f top → HasRuns f floor top (runs_to (settled floor f) top)
runs-counted-above f floor top le hi =
    let has = runs-counted (settled floor f) top (highest-settled floor f top le hi) in
    record {
      first = has.first;
      last = has.last;
      are-runs = runs-above floor f top (runs_to (settled floor f) top) has.first has.last has.are-runs;
    }

-- so 22 counts the longest missing runs above the floor that recording a number would leave
pub rule-counts : (f : ℕ → Bool) (floor n top : ℕ) → floor < n → Highest f top → HasRuns (with n f) floor (max n top) (runs_to (settled floor (with n f)) (max n top))
rule-counts f floor n top lo hi = runs-counted-above (with n f) floor (max n top) (omega arith) (with-highest f n top (omega arith) hi)
