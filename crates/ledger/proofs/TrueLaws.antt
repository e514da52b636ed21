-- What falling ends say is true of the set of numbers that they hold.
use Prim.Native.Nat.{ℕ, zero, suc, ◌+◌, ◌-◌, ◌*◌, ◌/◌, ◌%◌, ◌≤◌, ◌<◌}
use native.Mathlib.Omega.{arith}
use mathlib.Core.Path.{◌≡◌, refl, ap, ◌∙◌}
use mathlib.Core.Bool.{Bool, true, false, not, not-not}
use mathlib.Core.List.{List, [], ◌∷◌}
use mathlib.Core.Logic.{◌⊎◌, inl, inr, ⊎_elim}
use lib.ListN.{get_or}
use lib.Dec.{leb}
use borrow.Author.Tests.{leb-true, leb-false, le-leb}
use Rattle.ledger.specs.Sets.{count_to, runs_to, Highest, Longest, RunsOf}
use Rattle.ledger.specs.Ends.{falling, ends_from, settled_at, highest_in, settled_in, runs_in, first_of, last_of}
use Rattle.ledger.proofs.EndLaws.{falls-tail, falls-bound, falls-next, falls-far, from-none, from-below, from-above, from-between, odd-settled, even-missing, missing-even, settled-under}
use Rattle.ledger.proofs.SetLaws.{never, count-above, count-both, runs_same, run-above, none-settled-above}

-- the first end is the highest number
pub ends-highest : (b : ℕ) (es : List ℕ) → falling b es ≡ true → Highest (settled_at es) (highest_in es)
ends-highest b es h = record {
  there = go (leb 1 (highest_in es)) refl;
  none_above = above;
}
  where
    go : (t : Bool) → leb 1 (highest_in es) ≡ t → (highest_in es ≡ 0) ⊎ (settled_at es (highest_in es) ≡ true)
    go true p =
        let one : 1 ≤ highest_in es = leb-true 1 (highest_in es) p in
        let count : ends_from (highest_in es) es ≡ 1 = from-between b (highest_in es) es 0 h (omega arith) (omega (arith, falls-next b es 0 h)) in
        inr (odd-settled es (highest_in es) (omega arith))
    go false p = inl (omega (arith, leb-false 1 (highest_in es) p))

    above : (y : ℕ) → highest_in es < y → settled_at es y ≡ false
    above y lt = even-missing es y (omega (arith, from-none (highest_in es + 1) y es (under es h) (omega arith) (omega arith)))
      where
        under : (es : List ℕ) → falling b es ≡ true → falling (highest_in es + 1) es ≡ true
        under [] h = refl
        under (e ∷ es) h = rw (le-leb e (e + 1 - 1) (omega arith)) (falls-tail b e es h)

-- the ends' differences count the numbers that are settled
pub ends-settled : (b : ℕ) (es : List ℕ) (k : ℕ) → falling b es ≡ true → highest_in es ≤ k → count_to (settled_at es) k ≡ settled_in es
ends-settled b [] k h le = count-above (settled_at []) 0 k (omega arith) (λ (y : ℕ) (lo : 0 < y) (hi : y ≤ k). refl)
ends-settled b (e ∷ es) k h le =
    let top = ends-highest b (e ∷ es) h in
    let t : falling e es ≡ true = falls-tail b e es h in
    let to-e : count_to (settled_at (e ∷ es)) k ≡ count_to (settled_at (e ∷ es)) e =
    count-above (settled_at (e ∷ es)) e k le (λ (y : ℕ) (lo : e < y) (hi : y ≤ k). top.none_above y lo) in
    let all : count_to (settled_at (e ∷ es)) e + count_to (settled_at es) e ≡ e =
    count-both (settled_at (e ∷ es)) (settled_at es) e (λ (y : ℕ) (lo : 1 ≤ y) (hi : y ≤ e). settled-under e y es hi) in
    let rest : count_to (settled_at es) e ≡ settled_in es = ends-settled e es e t (omega (arith, falls-bound e es 0 t)) in
    omega arith

-- half of the ends belong to missing runs, the other half and the odd one to settled stretches
pub ends-runs : (b : ℕ) (es : List ℕ) → falling b es ≡ true
    → (runs_to (settled_at es) (highest_in es) ≡ ends_from 1 es / 2) × (runs_to (λ (y : ℕ). not (settled_at es y)) (highest_in es) ≡ (ends_from 1 es + 1) / 2)
ends-runs b [] h = (refl, refl)
ends-runs b (zero ∷ es) h = let none : ends_from 1 es ≡ 0 = from-none 0 1 es (falls-tail b 0 es h) (omega arith) (omega arith) in (omega arith, omega arith)
ends-runs b (suc m ∷ es) h =
    let e = suc m in
    let t : falling e es ≡ true = falls-tail b e es h in
    let f = settled_at es in
    let g = settled_at (e ∷ es) in
    let top : Highest f (highest_in es) = ends-highest e es t in
    let low : highest_in es ≤ m = omega (arith, falls-bound e es 0 t) in
    let one : leb 1 e ≡ true = le-leb 1 e (omega arith) in
    let ih = ends-runs e es t in
    let r0 : runs_to g e ≡ runs_to (λ (y : ℕ). not (f y)) e = runs_same g (λ (y : ℕ). not (f y)) e (λ (y : ℕ) (lo : 1 ≤ y) (hi : y ≤ e). settled-under e y es hi) in
    let r1 : runs_to (λ (y : ℕ). not (f y)) e ≡ runs_to (λ (y : ℕ). not (f y)) (highest_in es) = none-settled-above f (highest_in es) e top (omega arith) in
    let s0 : runs_to (λ (y : ℕ). not (g y)) e ≡ runs_to f e = runs_same (λ (y : ℕ). not (g y)) f e (λ (y : ℕ) (lo : 1 ≤ y) (hi : y ≤ e). ap not (settled-under e y es hi) ∙ not-not (f y)) in
    let s1 : runs_to f e ≡ runs_to f (highest_in es) + 1 = run-above f (highest_in es) e top (omega arith) in
    let i0 : runs_to f (highest_in es) ≡ ends_from 1 es / 2 = ih.0 in
    let i1 : runs_to (λ (y : ℕ). not (f y)) (highest_in es) ≡ (ends_from 1 es + 1) / 2 = ih.1 in (
      rw one (r0 ∙ r1 ∙ i1 ∙ ap (λ (n : ℕ). n / 2) (omega arith)),
      rw one (s0 ∙ s1 ∙ omega (arith, i0)),
    )

-- the two ends of a missing run: its own, and that of the stretch below
pub ends-longest : (b : ℕ) (es : List ℕ) (r : ℕ) → falling b es ≡ true → 1 ≤ get_or es (suc (2 * r)) 0
    → Longest (settled_at es) 0 (highest_in es) (get_or es (suc (suc (2 * r))) 0 + 1) (get_or es (suc (2 * r)) 0)
ends-longest b es r h one =
    let x = get_or es (suc (suc (2 * r))) 0 in
    let z = get_or es (suc (2 * r)) 0 in
    let lower : x ≤ z - 1 = falls-next b es (suc (2 * r)) h in
    let upper : z ≤ get_or es (2 * r) 0 - 1 = falls-next b es (2 * r) h in
    record {
      above_floor = omega arith;
      in_order = omega arith;
      to-highest = falls-far b es 0 (suc (2 * r)) h (omega arith);
      missing = λ (y : ℕ) (lo : x + 1 ≤ y) (hi : y ≤ z). even-missing es y (omega (arith, from-between b y es (suc (2 * r)) h hi (omega arith)));
      none_below = go (leb 1 x) refl;
      none-behind = inr (odd-settled es (z + 1) (omega (arith, from-between b (z + 1) es (2 * r) h (omega arith) (omega arith))));
    }
  where
    go : (t : Bool) → leb 1 (get_or es (suc (suc (2 * r))) 0) ≡ t
        → (get_or es (suc (suc (2 * r))) 0 + 1 ≡ 0 + 1) ⊎ (settled_at es (get_or es (suc (suc (2 * r))) 0 + 1 - 1) ≡ true)
    go true p =
        let x = get_or es (suc (suc (2 * r))) 0 in
        let lo : 1 ≤ x = leb-true 1 x p in
        let q : x + 1 - 1 ≡ x = omega arith in
        inr (rw q (odd-settled es x (omega (arith, from-between b x es (suc (suc (2 * r))) h (omega arith) (omega (arith, falls-next b es (suc (suc (2 * r))) h))))))
    go false p = inl (omega (arith, leb-false 1 (get_or es (suc (suc (2 * r))) 0) p))

-- every longest missing run stands at some pair of ends
pub longest-found : (b : ℕ) (es : List ℕ) (first last : ℕ) → falling b es ≡ true → Longest (settled_at es) 0 (highest_in es) first last
    → (r : ℕ) × (1 ≤ get_or es (suc (2 * r)) 0) × (get_or es (suc (suc (2 * r))) 0 + 1 ≡ first) × (get_or es (suc (2 * r)) 0 ≡ last)
longest-found b es first last h run =
    let i = ends_from first es in
    let r = i / 2 - 1 in
    let even : i % 2 ≡ 0 = missing-even es first (run.missing first (omega arith) run.in_order) in
    let some : 0 < i = from-above b first es 0 h run.above_floor (omega (arith, run.in_order, run.to-highest)) in
    let place : i ≡ suc (suc (2 * r)) = omega arith in
    let z = get_or es (suc (2 * r)) 0 in
    let x = get_or es (suc (suc (2 * r))) 0 in
    let up : first ≤ z = from-below b first es (suc (2 * r)) h run.above_floor (omega arith) in
    let one : 1 ≤ z = omega (arith, run.above_floor) in
    let whole = ends-longest b es r h one in
    let down : x < first = lower r place in
    let is-first : x + 1 ≡ first = ⊎_elim (λ (q : first ≡ 0 + 1). omega arith) (λ (q : settled_at es (first - 1) ≡ true). starts r up down q) run.none_below in
    let not-over : last ≤ z = not_behind r one up in
    let not-under : z ≤ last = ⊎_elim (λ (q : last ≡ highest_in es). omega (arith, whole.to-highest)) (λ (q : settled_at es (last + 1) ≡ true). reaches r one down q) run.none-behind in
    (r, one, is-first, omega arith)
  where
    lower : (r : ℕ) → ends_from first es ≡ suc (suc (2 * r)) → get_or es (suc (suc (2 * r))) 0 < first
    lower r q = go (leb first (get_or es (suc (suc (2 * r))) 0)) refl
      where
        go : (t : Bool) → leb first (get_or es (suc (suc (2 * r))) 0) ≡ t → get_or es (suc (suc (2 * r))) 0 < first
        go true p = absurd (omega (arith, from-above b first es (suc (suc (2 * r))) h run.above_floor (leb-true first (get_or es (suc (suc (2 * r))) 0) p)))
        go false p = leb-false first (get_or es (suc (suc (2 * r))) 0) p

    starts : (r : ℕ) → first ≤ get_or es (suc (2 * r)) 0 → get_or es (suc (suc (2 * r))) 0 < first → settled_at es (first - 1) ≡ true → get_or es (suc (suc (2 * r))) 0 + 1 ≡ first
    starts r up down q = go (leb first (get_or es (suc (suc (2 * r))) 0 + 1)) refl
      where
        go : (t : Bool) → leb first (get_or es (suc (suc (2 * r))) 0 + 1) ≡ t → get_or es (suc (suc (2 * r))) 0 + 1 ≡ first
        go true p = omega (arith, leb-true first (get_or es (suc (suc (2 * r))) 0 + 1) p)
        go false p =
            let far : get_or es (suc (suc (2 * r))) 0 + 1 < first = leb-false first (get_or es (suc (suc (2 * r))) 0 + 1) p in
            never (settled_at es (first - 1)) q
            (even-missing es (first - 1) (omega (arith, from-between b (first - 1) es (suc (2 * r)) h (omega arith) (omega arith))))

    not_behind : (r : ℕ) → 1 ≤ get_or es (suc (2 * r)) 0 → first ≤ get_or es (suc (2 * r)) 0 → last ≤ get_or es (suc (2 * r)) 0
    not_behind r one up = go (leb last (get_or es (suc (2 * r)) 0)) refl
      where
        go : (t : Bool) → leb last (get_or es (suc (2 * r)) 0) ≡ t → last ≤ get_or es (suc (2 * r)) 0
        go true p = leb-true last (get_or es (suc (2 * r)) 0) p
        go false p =
            let z = get_or es (suc (2 * r)) 0 in
            let over : z < last = leb-false last z p in
            ⊎_elim (λ (q : z ≡ highest_in es). absurd (omega (arith, run.to-highest)))
            (λ (q : settled_at es (z + 1) ≡ true). never (settled_at es (z + 1)) q (run.missing (z + 1) (omega arith) (omega arith)))
            (ends-longest b es r h one).none-behind

    reaches : (r : ℕ) → 1 ≤ get_or es (suc (2 * r)) 0 → get_or es (suc (suc (2 * r))) 0 < first → settled_at es (last + 1) ≡ true → get_or es (suc (2 * r)) 0 ≤ last
    reaches r one down q = go (leb (get_or es (suc (2 * r)) 0) last) refl
      where
        go : (t : Bool) → leb (get_or es (suc (2 * r)) 0) last ≡ t → get_or es (suc (2 * r)) 0 ≤ last
        go true p = leb-true (get_or es (suc (2 * r)) 0) last p
        go false p =
            let short : last < get_or es (suc (2 * r)) 0 = leb-false (get_or es (suc (2 * r)) 0) last p in
            never (settled_at es (last + 1)) q ((ends-longest b es r h one).missing (last + 1) (omega (arith, run.in_order)) (omega arith))

-- all of them, rising
pub ends-are-runs : (b : ℕ) (es : List ℕ) → falling b es ≡ true → RunsOf (settled_at es) 0 (highest_in es) (runs_in es) (first_of es) (last_of es)
ends-are-runs b es h = record { each-longest = each; rising = rise; every-longest = every }
  where
    each : (k : ℕ) → k < runs_in es → Longest (settled_at es) 0 (highest_in es) (first_of es k) (last_of es k)
    each k lt =
        let r = runs_in es - k - 1 in
        let q : 2 * (runs_in es - k) ≡ suc (suc (2 * r)) = omega arith in
        let q1 : suc (suc (2 * r)) - 1 ≡ suc (2 * r) = omega arith in
        rw (q, q1) (ends-longest b es r h (from-below b 1 es (suc (2 * r)) h (omega arith) (omega arith)))

    rise : (j k : ℕ) → j < k → k < runs_in es → last_of es j < first_of es k
    rise j k lt hi = omega (arith, falls-far b es (2 * (runs_in es - k)) (2 * (runs_in es - j) - 1) h (omega arith))

    every : (a c : ℕ) → Longest (settled_at es) 0 (highest_in es) a c → (k : ℕ) × (k < runs_in es) × (first_of es k ≡ a) × (last_of es k ≡ c)
    every a c run =
        let found = longest-found b es a c h run in
        let r = found.0 in
        let k = runs_in es - 1 - r in
        let there : suc (2 * r) < ends_from 1 es = from-above b 1 es (suc (2 * r)) h (omega arith) found.1 in
        let q : 2 * (runs_in es - k) ≡ suc (suc (2 * r)) = omega arith in
        let q1 : suc (suc (2 * r)) - 1 ≡ suc (2 * r) = omega arith in
        (k, omega arith, rw q found.2, rw (q, q1) found.3)
