-- Counting in sets of numbers: sets that agree, numbers that are not there, a set and what is left out of it.
use Prim.Native.Nat.{ℕ, zero, suc, ◌+◌, ◌-◌, ◌≤◌, ◌<◌, max}
use native.Mathlib.Omega.{arith}
use mathlib.Core.Path.{◌≡◌, refl, sym, ◌∙◌}
use mathlib.Core.Bool.{Bool, true, false, cond, not, ◌&&◌, ◌||◌}
use mathlib.Core.Logic.{◌⊎◌, inl, inr, ⊎_elim}
use lib.Dec.{leb, eqb}
use borrow.Author.Tests.{leb-true, leb-false, eq-eqb, ne_eqb, eqb-true, eqb-false}
use Rattle.ledger.specs.Sets.{with, count_to, starts_run, runs_to, Highest, Longest, RunsOf}

-- a Bool that is both
pub never : {P : Type 0} (b : Bool) → b ≡ true → b ≡ false → P
never b p q = let z : ◌≡◌ {A = ℕ} 0 1 = cc in absurd (omega arith)

pub count_same : (f g : ℕ → Bool) (k : ℕ) → ((y : ℕ) → 1 ≤ y → y ≤ k → f y ≡ g y) → count_to f k ≡ count_to g k
count_same f g zero h = refl
count_same f g (suc k) h = rw (h (suc k) (omega arith) (omega arith), count_same f g k (λ (y : ℕ) (lo : 1 ≤ y) (hi : y ≤ k). h y lo (omega arith))) refl

-- numbers above a place that are not in the set count nothing
pub count-above : (f : ℕ → Bool) (top k : ℕ) → top ≤ k → ((y : ℕ) → top < y → y ≤ k → f y ≡ false) → count_to f k ≡ count_to f top
count-above f top zero le h = let q : top ≡ 0 = omega arith in rw q refl
count-above f top (suc k) le h = go (leb top k) refl (λ (lo : top ≤ k). count-above f top k lo (λ (y : ℕ) (lt : top < y) (hi : y ≤ k). h y lt (omega arith)))
  where
    go : (t : Bool) → leb top k ≡ t → (top ≤ k → count_to f k ≡ count_to f top) → count_to f (suc k) ≡ count_to f top
    go true p ih =
        let lo : top ≤ k = leb-true top k p in
        rw (h (suc k) (omega arith) (omega arith)) (omega (arith, ih lo))
    go false p ih = let q : top ≡ suc k = omega (arith, leb-false top k p) in rw q refl

-- a set and the numbers left out of it make all
pub count-both : (f g : ℕ → Bool) (k : ℕ) → ((y : ℕ) → 1 ≤ y → y ≤ k → f y ≡ not (g y)) → count_to f k + count_to g k ≡ k
count-both f g zero h = refl
count-both f g (suc k) h =
    rw (h (suc k) (omega arith) (omega arith)) (go (g (suc k)) (count-both f g k (λ (y : ℕ) (lo : 1 ≤ y) (hi : y ≤ k). h y lo (omega arith))))
  where
    go : (t : Bool) → count_to f k + count_to g k ≡ k → (cond (not t) 1 0 + count_to f k) + (cond t 1 0 + count_to g k) ≡ suc k
    go true ih = omega arith
    go false ih = omega arith

pub starts-same : (f g : ℕ → Bool) (k : ℕ) → ((y : ℕ) → 1 ≤ y → y ≤ k → f y ≡ g y) → (y : ℕ) → 1 ≤ y → y ≤ k → starts_run f y ≡ starts_run g y
starts-same f g k h y lo hi = go (eqb y 1) refl
  where
    go : (t : Bool) → eqb y 1 ≡ t → (not (f y) && (t || f (y - 1))) ≡ (not (g y) && (t || g (y - 1)))
    go true p = rw (h y lo hi) refl
    go false p =
        let no : y ≡ 1 → ⊥ = eqb-false y 1 p in
        rw (h y lo hi, h (y - 1) (omega arith) (omega arith)) refl

pub runs_same : (f g : ℕ → Bool) (k : ℕ) → ((y : ℕ) → 1 ≤ y → y ≤ k → f y ≡ g y) → runs_to f k ≡ runs_to g k
runs_same f g k h = count_same (starts_run f) (starts_run g) k (starts-same f g k h)

-- one missing run lies above the highest number of a set
pub run-above : (f : ℕ → Bool) (top k : ℕ) → Highest f top → top < k → runs_to f k ≡ runs_to f top + 1
run-above f top k hi lt =
    count-above (starts_run f) (suc top) k lt later ∙ rw starts (omega arith)
  where
    later : (y : ℕ) → suc top < y → y ≤ k → starts_run f y ≡ false
    later y a b =
        rw (hi.none_above y (omega arith), ne_eqb y 1 (λ (q : y ≡ 1). omega arith), hi.none_above (y - 1) (omega arith)) refl

    after-top : (f top ≡ true) → starts_run f (suc top) ≡ true
    after-top p = let q : suc top - 1 ≡ top = omega arith in rw (hi.none_above (suc top) (omega arith), q, p) (go (eqb (suc top) 1))
      where
        go : (t : Bool) → (t || true) ≡ true
        go true = refl
        go false = refl

    at_one : top ≡ 0 → starts_run f (suc top) ≡ true
    at_one p = rw (hi.none_above (suc top) (omega arith), eq-eqb (suc top) 1 (omega arith)) refl

    starts : starts_run f (suc top) ≡ true
    starts = ⊎_elim at_one after-top hi.there

-- no settled stretch lies there
pub none-settled-above : (f : ℕ → Bool) (top k : ℕ) → Highest f top → top ≤ k → runs_to (λ (y : ℕ). not (f y)) k ≡ runs_to (λ (y : ℕ). not (f y)) top
none-settled-above f top k hi le = count-above (starts_run (λ (y : ℕ). not (f y))) top k le (λ (y : ℕ) (a : top < y) (b : y ≤ k). rw (hi.none_above y a) refl)

-- a set has one highest number
pub highest-once : (f : ℕ → Bool) (a b : ℕ) → Highest f a → Highest f b → a ≡ b
highest-once f a b ha hb = go (leb a b) refl (leb b a) refl
  where
    over : (a b : ℕ) → Highest f a → Highest f b → a < b → ⊥
    over a b ha hb lt = ⊎_elim (λ (q : b ≡ 0). omega arith) (λ (q : f b ≡ true). never (f b) q (ha.none_above b lt)) hb.there

    go : (s : Bool) → leb a b ≡ s → (t : Bool) → leb b a ≡ t → a ≡ b
    go true p true q = omega (arith, leb-true a b p, leb-true b a q)
    go true p false q = absurd (over a b ha hb (leb-false b a q))
    go false p t q = absurd (over b a hb ha (leb-false a b p))

-- sets that agree from 1 on have the same highest number and the same runs
module _ (f g : ℕ → Bool) (same : (y : ℕ) → 1 ≤ y → f y ≡ g y) where
  pub highest-same : (top : ℕ) → Highest f top → Highest g top
  highest-same top hi = record {
    there = go (leb 1 top) refl hi.there;
    none_above = λ (y : ℕ) (lt : top < y). sym (same y (omega arith)) ∙ hi.none_above y lt;
  }
    where
      go : (t : Bool) → leb 1 top ≡ t → (top ≡ 0) ⊎ (f top ≡ true) → (top ≡ 0) ⊎ (g top ≡ true)
      go true p h = ⊎_elim (λ (q : top ≡ 0). inl q) (λ (q : f top ≡ true). inr (sym (same top (leb-true 1 top p)) ∙ q)) h
      go false p h = inl (omega (arith, leb-false 1 top p))

  pub longest-same : (floor top first last : ℕ) → Longest f floor top first last → Longest g floor top first last
  longest-same floor top first last run = record {
    above_floor = run.above_floor;
    in_order = run.in_order;
    to-highest = run.to-highest;
    missing = λ (y : ℕ) (lo : first ≤ y) (hi : y ≤ last). sym (same y (omega (arith, run.above_floor))) ∙ run.missing y lo hi;
    none_below = go (leb 2 first) refl run.none_below;
    none-behind = ⊎_elim (λ (q : last ≡ top). inl q) (λ (q : f (last + 1) ≡ true). inr (sym (same (last + 1) (omega arith)) ∙ q)) run.none-behind;
  }
    where
      go : (t : Bool) → leb 2 first ≡ t → (first ≡ floor + 1) ⊎ (f (first - 1) ≡ true) → (first ≡ floor + 1) ⊎ (g (first - 1) ≡ true)
      go true p h = ⊎_elim (λ (q : first ≡ floor + 1). inl q) (λ (q : f (first - 1) ≡ true). inr (sym (same (first - 1) (omega (arith, leb-true 2 first p))) ∙ q)) h
      go false p h = inl (omega (arith, leb-false 2 first p, run.above_floor))

pub runs-of-same : (f g : ℕ → Bool) → ((y : ℕ) → 1 ≤ y → f y ≡ g y) → (floor top runs : ℕ) (first last : ℕ → ℕ)
    → RunsOf f floor top runs first last → RunsOf g floor top runs first last
runs-of-same f g same floor top runs first last r = record {
  each-longest = λ (k : ℕ) (lt : k < runs). longest-same f g same floor top (first k) (last k) (r.each-longest k lt);
  rising = r.rising;
  every-longest = λ (a b : ℕ) (run : Longest g floor top a b). r.every-longest a b (longest-same g f (λ (y : ℕ) (lo : 1 ≤ y). sym (same y lo)) floor top a b run);
}

-- a number put in: the highest is the larger one, and a number that is there already changes nothing
pub with-highest : (f : ℕ → Bool) (n top : ℕ) → 1 ≤ n → Highest f top → Highest (with n f) (max n top)
with-highest f n top one hi = record {
  there = inr (go (leb top n) refl);
  none_above = λ (y : ℕ) (lt : max n top < y). rw (ne_eqb y n (λ (q : y ≡ n). omega arith), hi.none_above y (omega arith)) refl;
}
  where
    or-true : (b : Bool) → (b || true) ≡ true
    or-true true = refl
    or-true false = refl

    go : (t : Bool) → leb top n ≡ t → with n f (max n top) ≡ true
    go true p =
        let q : max n top ≡ n = omega (arith, leb-true top n p) in
        rw (q, eq-eqb n n refl) refl
    go false p =
        let q : max n top ≡ top = omega (arith, leb-false top n p) in
        let is : f top ≡ true = ⊎_elim (λ (z : top ≡ 0). absurd (omega (arith, leb-false top n p))) (λ (z : f top ≡ true). z) hi.there in
        rw (q, is) (or-true (eqb top n))

pub with-there : (f : ℕ → Bool) (n y : ℕ) → f n ≡ true → with n f y ≡ f y
with-there f n y is = go (eqb y n) refl
  where
    go : (t : Bool) → eqb y n ≡ t → (t || f y) ≡ f y
    go true p = let q : y ≡ n = eqb-true y n p in rw q (sym is)
    go false p = refl
