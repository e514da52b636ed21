-- A floor that fits: what it says of the ends.
use Prim.Native.Nat.{ℕ, ◌+◌, ◌%◌, ◌≤◌, ◌<◌}
use native.Mathlib.Omega.{arith}
use mathlib.Core.Path.{◌≡◌, refl}
use mathlib.Core.Bool.{Bool, true, false, cond, ◌&&◌}
use mathlib.Core.List.{List}
use lib.Dec.{leb, eqb}
use borrow.Author.Tests.{leb-true, le-leb, eqb-true, eq-eqb, ne_eqb}
use Rattle.ledger.specs.Ends.{falling, ends_from, settled_at, highest_in, floor_fits}
use Rattle.ledger.proofs.EndLaws.{both_left, both_right, from-below, odd-settled, settled-odd}

-- a floor above 0: some numbers up to it are given up, the next one is settled, and no end lies below that
pub record Floor (floor given : ℕ) (es : List ℕ) : Type 0 where
  pub some : 1 ≤ given
  pub most : given ≤ floor
  pub odd : ends_from (floor + 1) es % 2 ≡ 1
  pub none-under : ends_from 1 es ≡ ends_from (floor + 1) es

pub data Fits (floor given : ℕ) (es : List ℕ) : Type 0 where
  no-floor : floor ≡ 0 → given ≡ 0 → Fits floor given es
  a-floor : Floor floor given es → Fits floor given es

pub fits-is : (floor given : ℕ) (es : List ℕ) → floor_fits floor given es ≡ true → Fits floor given es
unfolding floor_fits
fits-is floor given es = go (eqb floor 0) refl
  where
    go : (t : Bool) → eqb floor 0 ≡ t
        → cond t (eqb given 0) (leb 1 given && (leb given floor && (settled_at es (floor + 1) && eqb (ends_from 1 es) (ends_from (floor + 1) es)))) ≡ true
        → Fits floor given es
    go true p h = no-floor (eqb-true floor 0 p) (eqb-true given 0 h)
    go false p h =
        let some = leb 1 given in
        let most = leb given floor in
        let next = settled_at es (floor + 1) in
        let none = eqb (ends_from 1 es) (ends_from (floor + 1) es) in
        let h1 : (most && (next && none)) ≡ true = both_right some (most && (next && none)) h in
        let h2 : (next && none) ≡ true = both_right most (next && none) h1 in
        a-floor (record {
          some = leb-true 1 given (both_left some (most && (next && none)) h);
          most = leb-true given floor (both_left most (next && none) h1);
          odd = settled-odd es (floor + 1) (both_left next none h2);
          none-under = eqb-true (ends_from 1 es) (ends_from (floor + 1) es) (both_right next none h2);
        })

pub is-fits : (floor given : ℕ) (es : List ℕ) → Fits floor given es → floor_fits floor given es ≡ true
unfolding floor_fits
is-fits floor given es (no-floor p q) = rw (p, q) refl
is-fits floor given es (a-floor f) =
    rw (ne_eqb floor 0 (λ (z : floor ≡ 0). omega (arith, f.some, f.most)), le-leb 1 given f.some, le-leb given floor f.most, odd-settled es (floor + 1) f.odd)
    (eq-eqb (ends_from 1 es) (ends_from (floor + 1) es) f.none-under)

-- it is 0 or lies below the highest
pub fits_below : (b floor given : ℕ) (es : List ℕ) → falling b es ≡ true → Fits floor given es → floor ≤ highest_in es
fits_below b floor given es h (no-floor p q) = omega arith
fits_below b floor given es h (a-floor f) = omega (arith, from-below b (floor + 1) es 0 h (omega arith) (omega (arith, f.odd)))

pub fits-apart : (b floor given : ℕ) (es : List ℕ) → falling b es ≡ true → Fits floor given es → 1 ≤ floor → floor < highest_in es
fits-apart b floor given es h (no-floor p q) one = absurd (omega arith)
fits-apart b floor given es h (a-floor f) one = omega (arith, from-below b (floor + 1) es 0 h (omega arith) (omega (arith, f.odd)))
