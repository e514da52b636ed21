-- Ends turned: which numbers change sides, and that the list goes on falling.
use Prim.Native.Nat.{ℕ, zero, suc, ◌+◌, ◌-◌, ◌%◌, ◌≤◌, ◌<◌, min}
use native.Mathlib.Omega.{arith}
use mathlib.Core.Path.{◌≡◌, refl, sym, ap, ◌∙◌}
use mathlib.Core.Bool.{Bool, true, false, cond, ◌||◌}
use mathlib.Core.List.{List, [], ◌∷◌, ◌++◌}
use lib.ListN.{length, take, replicate, length-append, length-replicate}
use lib.Seq.{length-take-le, take_at}
use lib.Dec.{leb, ltb, eqb}
use borrow.Author.Tests.{leb-true, leb-false, le-leb, lt-leb, ltb-true, ltb-false, le-ltb, eqb-true, eqb-false, eq-eqb, ne_eqb}
use Rattle.ledger.specs.Sets.{with}
use Rattle.ledger.specs.Ends.{places, falling, ends_from, settled_at, turned, with_number, fitted}
use Rattle.ledger.proofs.EndLaws.{falls-head, falls-tail, falls-cons, falls-under, from-none, missing-even}

-- an end turned at x: one more or one less for each number up to x
pub turn-count : (x y : ℕ) (es : List ℕ) → ends_from y (turned x es) % 2 ≡ (ends_from y es + cond (leb y x) 1 0) % 2
turn-count x y [] = ap (λ (n : ℕ). n % 2) (omega arith)
turn-count x y (e ∷ es) = go (ltb x e) (eqb x e) refl (turn-count x y es)
  where
    go : (s t : Bool) → eqb x e ≡ t → ends_from y (turned x es) % 2 ≡ (ends_from y es + cond (leb y x) 1 0) % 2
        → ends_from y (cond s (e ∷ turned x es) (cond t es (x ∷ e ∷ es))) % 2 ≡ (cond (leb y e) 1 0 + ends_from y es + cond (leb y x) 1 0) % 2
    go true t q ih = omega arith
    go false true q ih = let same : x ≡ e = eqb-true x e q in rw same (omega arith)
    go false false q ih = ap (λ (n : ℕ). n % 2) (omega arith)

pub turn-falls : (b x : ℕ) (es : List ℕ) → x ≤ b - 1 → falling b es ≡ true → falling b (turned x es) ≡ true
turn-falls b x [] le h = falls-cons b x [] le refl
turn-falls b x (e ∷ es) le h = go (ltb x e) refl (eqb x e) refl (λ (lt : x ≤ e - 1). turn-falls e x es lt (falls-tail b e es h))
  where
    go : (s : Bool) → ltb x e ≡ s → (t : Bool) → eqb x e ≡ t → (x ≤ e - 1 → falling e (turned x es) ≡ true)
        → falling b (cond s (e ∷ turned x es) (cond t es (x ∷ e ∷ es))) ≡ true
    go true p t q ih = falls-cons b e (turned x es) (falls-head b e es h) (ih (omega (arith, ltb-true x e p)))
    go false p true q ih = falls-under e b es (omega (arith, falls-head b e es h)) (falls-tail b e es h)
    go false p false q ih =
        let ne : x ≡ e → ⊥ = eqb-false x e q in
        falls-cons b x (e ∷ es) le (falls-cons x e es (omega (arith, ltb-false x e p)) (falls-tail b e es h))

-- an end that is there goes, one above all others comes in front
pub turn-out : (x : ℕ) (es : List ℕ) → turned x (x ∷ es) ≡ es
turn-out x es = rw (le-ltb x x (omega arith), eq-eqb x x refl) refl

pub turn_in : (x e : ℕ) (es : List ℕ) → e < x → turned x (e ∷ es) ≡ x ∷ e ∷ es
turn_in x e es lt = rw (le-ltb x e (omega arith), ne_eqb x e (λ (q : x ≡ e). omega arith)) refl

-- a number put in that was missing, and no other changes sides
pub number-count : (n y : ℕ) (es : List ℕ) → ends_from y (with_number n es) % 2 ≡ (ends_from y es + cond (leb y n) 1 0 + cond (leb y (n - 1)) 1 0) % 2
number-count n y es =
    let inner : ends_from y (turned n es) % 2 ≡ (ends_from y es + cond (leb y n) 1 0) % 2 = turn-count n y es in
    turn-count (n - 1) y (turned n es) ∙ omega arith

pub number-settled : (n y : ℕ) (es : List ℕ) → 1 ≤ n → 1 ≤ y → settled_at es n ≡ false → settled_at (with_number n es) y ≡ with n (settled_at es) y
number-settled n y es one lo miss = go (eqb y n) refl
  where
    count : ends_from y (with_number n es) % 2 ≡ (ends_from y es + cond (leb y n) 1 0 + cond (leb y (n - 1)) 1 0) % 2
    count = number-count n y es

    away : (y ≡ n → ⊥) → (t : Bool) → leb y n ≡ t → ends_from y (with_number n es) % 2 ≡ ends_from y es % 2
    away ne true p =
        let under : y ≤ n = leb-true y n p in
        let u : leb y (n - 1) ≡ true = le-leb y (n - 1) (omega arith) in
        count ∙ rw (p, u) (omega arith)
    away ne false p =
        let over : n < y = leb-false y n p in
        let u : leb y (n - 1) ≡ false = lt-leb y (n - 1) (omega arith) in
        count ∙ rw (p, u) (omega arith)

    go : (t : Bool) → eqb y n ≡ t → settled_at (with_number n es) y ≡ (t || settled_at es y)
    go true q =
        let same : y ≡ n = eqb-true y n q in
        let even : ends_from y es % 2 ≡ 0 = rw same (missing-even es n miss) in
        let u : leb y n ≡ true = le-leb y n (omega arith) in
        let v : leb y (n - 1) ≡ false = lt-leb y (n - 1) (omega arith) in
        eq-eqb (ends_from y (with_number n es) % 2) 1 (count ∙ rw (u, v) (omega arith))
    go false q = ap (λ (m : ℕ). eqb m 1) (away (eqb-false y n q) (leb y n) refl)

-- zeros behind the ends, and places cut off that hold none
pub zeros-fall : (b k : ℕ) (es : List ℕ) → falling b es ≡ true → falling b (es ++ replicate k 0) ≡ true
zeros-fall b zero [] h = refl
zeros-fall b (suc k) [] h = falls-cons b 0 (replicate k 0) (omega arith) (zeros-fall 0 k [] refl)
zeros-fall b k (e ∷ es) h = falls-cons b e (es ++ replicate k 0) (falls-head b e es h) (zeros-fall e k es (falls-tail b e es h))

pub take-falls : (b k : ℕ) (es : List ℕ) → falling b es ≡ true → falling b (take k es) ≡ true
take-falls b zero es h = refl
take-falls b (suc k) [] h = refl
take-falls b (suc k) (e ∷ es) h = falls-cons b e (take k es) (falls-head b e es h) (take-falls e k es (falls-tail b e es h))

pub from-append : (y : ℕ) (p q : List ℕ) → ends_from y (p ++ q) ≡ ends_from y p + ends_from y q
from-append y [] q = omega arith
from-append y (e ∷ p) q = omega (arith, from-append y p q)

pub from-zeros : (y k : ℕ) → 1 ≤ y → ends_from y (replicate k 0) ≡ 0
from-zeros y zero lo = refl
from-zeros y (suc k) lo = rw (lt-leb y 0 (omega arith)) (omega (arith, from-zeros y k lo))

pub from-fewer : (x y : ℕ) (es : List ℕ) → x ≤ y → ends_from y es ≤ ends_from x es
from-fewer x y [] le = omega arith
from-fewer x y (e ∷ es) le = go (leb x e) refl (leb y e) refl (from-fewer x y es le)
  where
    go : (s : Bool) → leb x e ≡ s → (t : Bool) → leb y e ≡ t → ends_from y es ≤ ends_from x es → cond t 1 0 + ends_from y es ≤ cond s 1 0 + ends_from x es
    go true p t q ih = least t
      where
        least : (t : Bool) → cond t 1 0 + ends_from y es ≤ 1 + ends_from x es
        least true = omega arith
        least false = omega arith
    go false p true q ih = absurd (omega (arith, leb-false x e p, leb-true y e q))
    go false p false q ih = omega arith

-- of the first k ends as many are a number or above it as of all, but no more than k
pub from_first : (b y k : ℕ) (es : List ℕ) → falling b es ≡ true → 1 ≤ y → ends_from y (take k es) ≡ min k (ends_from y es)
from_first b y zero es h lo = omega arith
from_first b y (suc k) [] h lo = omega arith
from_first b y (suc k) (e ∷ es) h lo = go (leb y e) refl (from_first e y k es (falls-tail b e es h) lo)
  where
    go : (t : Bool) → leb y e ≡ t → ends_from y (take k es) ≡ min k (ends_from y es) → cond t 1 0 + ends_from y (take k es) ≡ min (suc k) (cond t 1 0 + ends_from y es)
    go true p ih = omega arith
    go false p ih = omega (arith, leb-false y e p, from-none e y es (falls-tail b e es h) (omega (arith, leb-false y e p)) lo)

pub from-take : (b y k : ℕ) (es : List ℕ) → falling b es ≡ true → 1 ≤ y → ends_from 1 es ≤ k → ends_from y (take k es) ≡ ends_from y es
from-take b y k es h lo le = omega (arith, from_first b y k es h lo, from-fewer 1 y es lo)

-- an end turned at a number or above it leaves those below the number as they are
pub turn-above : (m x : ℕ) (es : List ℕ) → 1 ≤ m → m ≤ x → ends_from 1 (turned x es) + ends_from m es ≡ ends_from m (turned x es) + ends_from 1 es
turn-above m x [] one le = rw (le-leb 1 x (omega arith), le-leb m x le) refl
turn-above m x (e ∷ es) one le = go (ltb x e) (eqb x e) refl (turn-above m x es one le)
  where
    both : (leb 1 x ≡ true) × (leb m x ≡ true)
    both = (le-leb 1 x (omega arith), le-leb m x le)

    go : (s t : Bool) → eqb x e ≡ t → ends_from 1 (turned x es) + ends_from m es ≡ ends_from m (turned x es) + ends_from 1 es
        → ends_from 1 (cond s (e ∷ turned x es) (cond t es (x ∷ e ∷ es))) + ends_from m (e ∷ es) ≡ ends_from m (cond s (e ∷ turned x es) (cond t es (x ∷ e ∷ es))) + ends_from 1 (e ∷ es)
    go true t q ih = omega arith
    go false true q ih = let same : x ≡ e = eqb-true x e q in rw (sym same, both.0, both.1) (omega arith)
    go false false q ih = rw (both.0, both.1) (omega arith)

-- the ends fitted to a record's places
pub fitted-falls : (b : ℕ) (es : List ℕ) → falling b es ≡ true → falling b (fitted es) ≡ true
fitted-falls b es h = take-falls b places (es ++ replicate places 0) (zeros-fall b places es h)

pub fitted-whole : (es : List ℕ) → length (fitted es) ≡ places
fitted-whole es = length-take-le places (es ++ replicate places 0) (rw (length-append es (replicate places 0), length-replicate) (omega arith))

pub fitted-from : (b y : ℕ) (es : List ℕ) → falling b es ≡ true → 1 ≤ y → ends_from 1 es ≤ places → ends_from y (fitted es) ≡ ends_from y es
fitted-from b y es h lo le =
    let one : ends_from 1 (es ++ replicate places 0) ≤ places = omega (arith, from-append 1 es (replicate places 0), from-zeros 1 places (omega arith)) in
    from-take b y places (es ++ replicate places 0) (zeros-fall b places es h) lo one ∙ omega (arith, from-append y es (replicate places 0), from-zeros y places lo)

pub fitted-same : (more : List ℕ) → length more ≡ places → fitted more ≡ more
fitted-same more h = take_at more (replicate places 0) places h
