-- The settled numbers of a set above a floor: their runs are the set's above the floor, and they count what is given up with it.
use Prim.Native.Nat.{ℕ, zero, suc, ◌+◌, ◌-◌, ◌≤◌, ◌<◌, min}
use native.Mathlib.Omega.{arith}
use mathlib.Core.Path.{◌≡◌, refl, sym, ap, ◌∙◌}
use mathlib.Core.Bool.{Bool, true, false, cond, not, ◌&&◌, ◌||◌}
use mathlib.Core.Logic.{◌⊎◌, inl, inr, ⊎_elim}
use lib.Dec.{leb, ltb, eqb}
use borrow.Author.Tests.{leb-true, leb-false, le-leb, lt-leb, ltb-true, lt-ltb, le-ltb}
use Rattle.ledger.specs.Sets.{with, left_out, settled, count_to, first_above, Highest, Longest, RunsOf}
use Rattle.ledger.proofs.SetLaws.{never}

-- a number above the floor is settled if it is in the set, and one up to it always
pub settled-above : (floor : ℕ) (f : ℕ → Bool) (y : ℕ) → floor < y → settled floor f y ≡ f y
settled-above floor f y lt = rw (lt-leb y floor lt) refl

pub settled-under : (floor : ℕ) (f : ℕ → Bool) (y : ℕ) → y ≤ floor → settled floor f y ≡ true
settled-under floor f y le = rw (le-leb y floor le) refl

-- a number that is not settled lies above the floor, and is not in the set
pub unsettled : (floor : ℕ) (f : ℕ → Bool) (y : ℕ) → settled floor f y ≡ false → (floor < y) × (f y ≡ false)
unsettled floor f y = go (leb y floor) refl
  where
    go : (t : Bool) → leb y floor ≡ t → (t || f y) ≡ false → (floor < y) × (f y ≡ false)
    go true p h = never true refl h
    go false p h = (leb-false y floor p, h)

-- one that is settled is in the set or not above the floor
pub settled-why : (floor : ℕ) (f : ℕ → Bool) (y : ℕ) → settled floor f y ≡ true → (y ≤ floor) ⊎ (f y ≡ true)
settled-why floor f y = go (leb y floor) refl
  where
    go : (t : Bool) → leb y floor ≡ t → (t || f y) ≡ true → (y ≤ floor) ⊎ (f y ≡ true)
    go true p h = inl (leb-true y floor p)
    go false p h = inr h

module _ (floor : ℕ) (f : ℕ → Bool) where
  -- the longest runs of numbers that are not settled are those of the set above the floor
  pub longest-above : (top first last : ℕ) → Longest (settled floor f) 0 top first last → Longest f floor top first last
  longest-above top first last run =
      let from = unsettled floor f first (run.missing first (omega arith) run.in_order) in
      record {
        above_floor = from.0;
        in_order = run.in_order;
        to-highest = run.to-highest;
        missing = λ (y : ℕ) (lo : first ≤ y) (hi : y ≤ last). (unsettled floor f y (run.missing y lo hi)).1;
        none_below = ⊎_elim (λ (q : first ≡ 0 + 1). inl (omega (arith, from.0)))
            (λ (q : settled floor f (first - 1) ≡ true).
            ⊎_elim (λ (le : first - 1 ≤ floor). inl (omega (arith, from.0))) (λ (is : f (first - 1) ≡ true). inr is) (settled-why floor f (first - 1) q)) run.none_below;
        none-behind = ⊎_elim (λ (q : last ≡ top). inl q)
            (λ (q : settled floor f (last + 1) ≡ true). inr (sym (settled-above floor f (last + 1) (omega (arith, from.0, run.in_order))) ∙ q)) run.none-behind;
      }

  pub longest-settled : (top first last : ℕ) → Longest f floor top first last → Longest (settled floor f) 0 top first last
  longest-settled top first last run =
      let low : floor < first = run.above_floor in
      record {
        above_floor = omega arith;
        in_order = run.in_order;
        to-highest = run.to-highest;
        missing = λ (y : ℕ) (lo : first ≤ y) (hi : y ≤ last). settled-above floor f y (omega arith) ∙ run.missing y lo hi;
        none_below = ⊎_elim (λ (q : first ≡ floor + 1). inr (settled-under floor f (first - 1) (omega arith))) (λ (q : f (first - 1) ≡ true). below (leb (first - 1) floor) refl q) run.none_below;
        none-behind = ⊎_elim (λ (q : last ≡ top). inl q)
            (λ (q : f (last + 1) ≡ true). inr (settled-above floor f (last + 1) (omega (arith, run.in_order)) ∙ q)) run.none-behind;
      }
    where
      below : (t : Bool) → leb (first - 1) floor ≡ t → f (first - 1) ≡ true → (first ≡ 0 + 1) ⊎ (settled floor f (first - 1) ≡ true)
      below true p q = inr (settled-under floor f (first - 1) (leb-true (first - 1) floor p))
      below false p q = inr (settled-above floor f (first - 1) (leb-false (first - 1) floor p) ∙ q)

  pub runs-above : (top runs : ℕ) (first last : ℕ → ℕ) → RunsOf (settled floor f) 0 top runs first last → RunsOf f floor top runs first last
  runs-above top runs first last r = record {
    each-longest = λ (k : ℕ) (lt : k < runs). longest-above top (first k) (last k) (r.each-longest k lt);
    rising = r.rising;
    every-longest = λ (a b : ℕ) (run : Longest f floor top a b). r.every-longest a b (longest-settled top a b run);
  }

  -- the highest number is the same, if it is above the floor or the floor is 0
  pub highest-above : (top : ℕ) → (1 ≤ floor → floor < top) → Highest (settled floor f) top → Highest f top
  highest-above top apart hi = record {
    there = ⊎_elim (λ (q : top ≡ 0). inl q) (λ (q : settled floor f top ≡ true). why (settled-why floor f top q)) hi.there;
    none_above = λ (y : ℕ) (lt : top < y). (unsettled floor f y (hi.none_above y lt)).1;
  }
    where
      why : (top ≤ floor) ⊎ (f top ≡ true) → (top ≡ 0) ⊎ (f top ≡ true)
      why = ⊎_elim (λ (le : top ≤ floor). go (leb 1 floor) refl le) (λ (is : f top ≡ true). inr is)
        where
          go : (t : Bool) → leb 1 floor ≡ t → top ≤ floor → (top ≡ 0) ⊎ (f top ≡ true)
          go true p le = absurd (omega (arith, apart (leb-true 1 floor p)))
          go false p le = inl (omega (arith, leb-false 1 floor p))

  pub highest-settled : (top : ℕ) → floor ≤ top → Highest f top → Highest (settled floor f) top
  highest-settled top le hi = record {
    there = ⊎_elim (λ (q : top ≡ 0). inl q) (λ (q : f top ≡ true). go (leb top floor) refl q) hi.there;
    none_above = λ (y : ℕ) (lt : top < y). settled-above floor f y (omega arith) ∙ hi.none_above y lt;
  }
    where
      go : (t : Bool) → leb top floor ≡ t → f top ≡ true → (top ≡ 0) ⊎ (settled floor f top ≡ true)
      go true p q = inr (settled-under floor f top (leb-true top floor p))
      go false p q = inr (settled-above floor f top (leb-false top floor p) ∙ q)

  -- they are the set's numbers and those that it leaves out up to the floor
  count_min : (k : ℕ) → count_to (settled floor f) k ≡ count_to f k + count_to (left_out f) (min k floor)
  count_min zero = let q : min 0 floor ≡ 0 = omega arith in rw q refl
  count_min (suc k) = go (leb (suc k) floor) refl (count_min k)
    where
      go : (t : Bool) → leb (suc k) floor ≡ t → count_to (settled floor f) k ≡ count_to f k + count_to (left_out f) (min k floor)
          → count_to (settled floor f) (suc k) ≡ count_to f (suc k) + count_to (left_out f) (min (suc k) floor)
      go true p ih =
          let le : suc k ≤ floor = leb-true (suc k) floor p in
          let q : min (suc k) floor ≡ suc k = omega arith in
          let r : min k floor ≡ k = omega arith in
          let so : count_to (settled floor f) k ≡ count_to f k + count_to (left_out f) k = ih ∙ ap (λ (m : ℕ). count_to f k + count_to (left_out f) m) r in
          rw (settled-under floor f (suc k) le, q) (each (f (suc k)) so)
        where
          each : (b : Bool) → count_to (settled floor f) k ≡ count_to f k + count_to (left_out f) k
              → 1 + count_to (settled floor f) k ≡ cond b 1 0 + count_to f k + (cond (not b) 1 0 + count_to (left_out f) k)
          each true so = omega arith
          each false so = omega arith
      go false p ih =
          let lt : floor < suc k = leb-false (suc k) floor p in
          let q : min (suc k) floor ≡ min k floor = omega arith in
          rw (settled-above floor f (suc k) lt, q) (omega arith)

  pub count-settled : (k : ℕ) → floor ≤ k → count_to (settled floor f) k ≡ count_to f k + count_to (left_out f) floor
  count-settled k le = let q : min k floor ≡ floor = omega arith in count_min k ∙ ap (λ (m : ℕ). count_to f k + count_to (left_out f) m) q

-- a number put in above the floor: before or after the numbers up to it
pub settled-with : (floor n : ℕ) (f : ℕ → Bool) (y : ℕ) → with n (settled floor f) y ≡ settled floor (with n f) y
settled-with floor n f y = go (eqb y n) (leb y floor) (f y)
  where
    go : (a b c : Bool) → (a || (b || c)) ≡ (b || (a || c))
    go true true c = refl
    go true false c = refl
    go false b c = refl

-- a higher floor
pub settled-higher : (low high : ℕ) (f : ℕ → Bool) (y : ℕ) → low ≤ high → (leb y high || settled low f y) ≡ settled high f y
settled-higher low high f y le = go (leb y high) refl
  where
    go : (t : Bool) → leb y high ≡ t → (t || settled low f y) ≡ (t || f y)
    go true p = refl
    go false p = settled-above low f y (omega (arith, leb-false y high p))

-- the first number above a floor
pub first-none : (p : ℕ → Bool) (floor k : ℕ) → ((y : ℕ) → floor < y → y ≤ k → p y ≡ false) → first_above p floor k ≡ floor
first-none p floor zero none = refl
first-none p floor (suc k) none =
    rw (first-none p floor k (λ (y : ℕ) (lo : floor < y) (hi : y ≤ k). none y lo (omega arith)), le-ltb floor floor (omega arith)) (go (ltb floor (suc k)) refl)
  where
    go : (t : Bool) → ltb floor (suc k) ≡ t → cond (t && p (suc k)) (suc k) floor ≡ floor
    go true q = rw (none (suc k) (ltb-true floor (suc k) q) (omega arith)) refl
    go false q = refl

pub first-is : (p : ℕ → Bool) (floor b k : ℕ) → floor < b → b ≤ k → p b ≡ true → ((y : ℕ) → floor < y → y < b → p y ≡ false) → first_above p floor k ≡ b
first-is p floor b zero lt le is before = absurd (omega arith)
first-is p floor b (suc k) lt le is before = go (leb b k) refl (λ (hi : b ≤ k). first-is p floor b k lt hi is before)
  where
    go : (t : Bool) → leb b k ≡ t → (b ≤ k → first_above p floor k ≡ b) → first_above p floor (suc k) ≡ b
    go true q ih = rw (ih (leb-true b k q), lt-ltb floor b lt) refl
    go false q ih =
        let here : suc k ≡ b = omega (arith, leb-false b k q) in
        let none : first_above p floor k ≡ floor = first-none p floor k (λ (y : ℕ) (lo : floor < y) (hi : y ≤ k). before y lo (omega arith)) in
        rw (none, le-ltb floor floor (omega arith), here, lt-ltb floor b lt, is) refl

-- all numbers above one place up to another count
pub count-all : (f : ℕ → Bool) (a b : ℕ) → a ≤ b → ((y : ℕ) → a < y → y ≤ b → f y ≡ true) → count_to f b ≡ count_to f a + (b - a)
count-all f a zero le all = let q : a ≡ 0 = omega arith in rw q refl
count-all f a (suc b) le all = go (leb a b) refl (λ (lo : a ≤ b). count-all f a b lo (λ (y : ℕ) (lt : a < y) (hi : y ≤ b). all y lt (omega arith)))
  where
    go : (t : Bool) → leb a b ≡ t → (a ≤ b → count_to f b ≡ count_to f a + (b - a)) → count_to f (suc b) ≡ count_to f a + (suc b - a)
    go true p ih =
        let lo : a ≤ b = leb-true a b p in
        rw (all (suc b) (omega arith) (omega arith)) (omega (arith, ih lo))
    go false p ih = let q : a ≡ suc b = omega (arith, leb-false a b p) in rw q (omega arith)
