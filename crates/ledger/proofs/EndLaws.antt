-- Falling lists of ends: how many are a number or above it tells where the number stands.
use Prim.Native.Nat.{ℕ, zero, suc, ◌+◌, ◌-◌, ◌%◌, ◌≤◌, ◌<◌}
use native.Mathlib.Omega.{arith}
use mathlib.Core.Path.{◌≡◌, refl}
use mathlib.Core.Bool.{Bool, true, false, cond, not, ◌&&◌, false≢true}
use mathlib.Core.List.{List, [], ◌∷◌}
use lib.ListN.{length, get_or}
use lib.Dec.{leb, eqb}
use borrow.Author.Tests.{leb-true, leb-false, le-leb, lt-leb, eqb-true, eqb-false, eq-eqb, ne_eqb}
use Rattle.ledger.specs.Ends.{falling, ends_from, settled_at, highest_in, settled_in}

pub both_left : (p q : Bool) → (p && q) ≡ true → p ≡ true
both_left true q h = refl
both_left false q h = h

pub both_right : (p q : Bool) → (p && q) ≡ true → q ≡ true
both_right true q h = h
both_right false q h = absurd (false≢true h)

-- the first end of a falling list, and the others
pub falls-head : (b e : ℕ) (es : List ℕ) → falling b (e ∷ es) ≡ true → e ≤ b - 1
falls-head b e es h = leb-true e (b - 1) (both_left (leb e (b - 1)) (falling e es) h)

pub falls-tail : (b e : ℕ) (es : List ℕ) → falling b (e ∷ es) ≡ true → falling e es ≡ true
falls-tail b e es h = both_right (leb e (b - 1)) (falling e es) h

pub falls-cons : (b e : ℕ) (es : List ℕ) → e ≤ b - 1 → falling e es ≡ true → falling b (e ∷ es) ≡ true
falls-cons b e es h t = rw (le-leb e (b - 1) h) t

-- what falls from a bound falls from a larger one
pub falls-under : (a b : ℕ) (es : List ℕ) → a ≤ b → falling a es ≡ true → falling b es ≡ true
falls-under a b [] le h = refl
falls-under a b (e ∷ es) le h = falls-cons b e es (omega (arith, falls-head a e es h)) (falls-tail a e es h)

-- every end lies below the bound, and below those before it
pub falls-bound : (b : ℕ) (es : List ℕ) (i : ℕ) → falling b es ≡ true → get_or es i 0 ≤ b - 1
falls-bound b [] i h = omega arith
falls-bound b (e ∷ es) zero h = falls-head b e es h
falls-bound b (e ∷ es) (suc i) h = omega (arith, falls-head b e es h, falls-bound e es i (falls-tail b e es h))

pub falls-next : (b : ℕ) (es : List ℕ) (i : ℕ) → falling b es ≡ true → get_or es (suc i) 0 ≤ get_or es i 0 - 1
falls-next b [] i h = omega arith
falls-next b (e ∷ es) zero h = falls-bound e es 0 (falls-tail b e es h)
falls-next b (e ∷ es) (suc i) h = falls-next e es i (falls-tail b e es h)

pub falls-far : (b : ℕ) (es : List ℕ) (i j : ℕ) → falling b es ≡ true → i ≤ j → get_or es j 0 ≤ get_or es i 0
falls-far b [] i j h le = omega arith
falls-far b (e ∷ es) zero zero h le = omega arith
falls-far b (e ∷ es) zero (suc j) h le = omega (arith, falls-bound e es j (falls-tail b e es h))
falls-far b (e ∷ es) (suc i) zero h le = absurd (omega arith)
falls-far b (e ∷ es) (suc i) (suc j) h le = falls-far e es i j (falls-tail b e es h) (omega arith)

pub falls-strictly : (b : ℕ) (es : List ℕ) (i j : ℕ) → falling b es ≡ true → i < j → 1 ≤ get_or es j 0 → get_or es j 0 < get_or es i 0
falls-strictly b [] i j h lt one = absurd (omega arith)
falls-strictly b (e ∷ es) i zero h lt one = absurd (omega arith)
falls-strictly b (e ∷ es) zero (suc j) h lt one = omega (arith, falls-bound e es j (falls-tail b e es h))
falls-strictly b (e ∷ es) (suc i) (suc j) h lt one = falls-strictly e es i j (falls-tail b e es h) (omega arith) one

-- at a bound or above it there are no ends
pub from-none : (b y : ℕ) (es : List ℕ) → falling b es ≡ true → b ≤ y → 1 ≤ y → ends_from y es ≡ 0
from-none b y [] h le lo = refl
from-none b y (e ∷ es) h le lo =
    let below : e ≤ b - 1 = falls-head b e es h in
    rw (lt-leb y e (omega arith)) (omega (arith, from-none e y es (falls-tail b e es h) (omega arith) lo))

pub from-length : (y : ℕ) (es : List ℕ) → ends_from y es ≤ length es
from-length y [] = omega arith
from-length y (e ∷ es) = go (leb y e) (from-length y es)
  where
    go : (t : Bool) → ends_from y es ≤ length es → cond t 1 0 + ends_from y es ≤ suc (length es)
    go true ih = omega arith
    go false ih = omega arith

-- the ends that are a number or above it are the first ones
pub from-below : (b y : ℕ) (es : List ℕ) (i : ℕ) → falling b es ≡ true → 1 ≤ y → i < ends_from y es → y ≤ get_or es i 0
from-below b y [] i h lo lt = absurd (omega arith)
from-below b y (e ∷ es) zero h lo lt = go (leb y e) refl lt
  where
    go : (t : Bool) → leb y e ≡ t → 0 < cond t 1 0 + ends_from y es → y ≤ e
    go true p lt = leb-true y e p
    go false p lt = absurd (omega (arith, leb-false y e p, from-none e y es (falls-tail b e es h) (omega (arith, leb-false y e p)) lo))
from-below b y (e ∷ es) (suc i) h lo lt = go (leb y e) lt (from-below e y es i (falls-tail b e es h) lo)
  where
    go : (t : Bool) → suc i < cond t 1 0 + ends_from y es → (i < ends_from y es → y ≤ get_or es i 0) → y ≤ get_or es i 0
    go true lt ih = ih (omega arith)
    go false lt ih = ih (omega arith)

pub from-above : (b y : ℕ) (es : List ℕ) (i : ℕ) → falling b es ≡ true → 1 ≤ y → y ≤ get_or es i 0 → i < ends_from y es
from-above b y [] i h lo le = absurd (omega arith)
from-above b y (e ∷ es) zero h lo le = rw (le-leb y e le) (omega arith)
from-above b y (e ∷ es) (suc i) h lo le =
    let t : falling e es ≡ true = falls-tail b e es h in
    rw (le-leb y e (omega (arith, falls-bound e es i t))) (omega (arith, from-above e y es i t lo le))

-- between two neighbours the count is the place of the lower one
pub from-between : (b y : ℕ) (es : List ℕ) (i : ℕ) → falling b es ≡ true → y ≤ get_or es i 0 → get_or es (suc i) 0 < y → ends_from y es ≡ suc i
from-between b y es i h le lt = go (leb (ends_from y es) (suc i)) refl
  where
    go : (t : Bool) → leb (ends_from y es) (suc i) ≡ t → ends_from y es ≡ suc i
    go true p = omega (arith, leb-true (ends_from y es) (suc i) p, from-above b y es i h (omega arith) le)
    go false p = absurd (omega (arith, from-below b y es (suc i) h (omega arith) (leb-false (ends_from y es) (suc i) p)))

-- settled by an odd count, missing by an even one
pub odd-settled : (es : List ℕ) (y : ℕ) → ends_from y es % 2 ≡ 1 → settled_at es y ≡ true
odd-settled es y h = eq-eqb (ends_from y es % 2) 1 h

pub even-missing : (es : List ℕ) (y : ℕ) → ends_from y es % 2 ≡ 0 → settled_at es y ≡ false
even-missing es y h = ne_eqb (ends_from y es % 2) 1 (λ (e : ends_from y es % 2 ≡ 1). omega arith)

pub settled-odd : (es : List ℕ) (y : ℕ) → settled_at es y ≡ true → ends_from y es % 2 ≡ 1
settled-odd es y h = eqb-true (ends_from y es % 2) 1 h

pub missing-even : (es : List ℕ) (y : ℕ) → settled_at es y ≡ false → ends_from y es % 2 ≡ 0
missing-even es y h =
    let odd : ends_from y es % 2 ≡ 1 → ⊥ = eqb-false (ends_from y es % 2) 1 h in
    omega arith

-- up to an end in front every number changes sides
pub settled-under : (e y : ℕ) (es : List ℕ) → y ≤ e → settled_at (e ∷ es) y ≡ not (settled_at es y)
settled-under e y es le = rw (le-leb y e le) (go (settled_at es y) refl)
  where
    go : (t : Bool) → settled_at es y ≡ t → eqb ((1 + ends_from y es) % 2) 1 ≡ not t
    go true p = ne_eqb ((1 + ends_from y es) % 2) 1 (λ (q : (1 + ends_from y es) % 2 ≡ 1). omega (arith, settled-odd es y p))
    go false p = eq-eqb ((1 + ends_from y es) % 2) 1 (omega (arith, missing-even es y p))

pub settled-under-highest : (es : List ℕ) → settled_in es ≤ highest_in es
settled-under-highest [] = omega arith
settled-under-highest (e ∷ es) = omega arith
