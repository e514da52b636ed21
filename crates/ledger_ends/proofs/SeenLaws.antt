-- What a look over a record tells of it.
use Prim.Native.Nat.{ℕ, ◌+◌, ◌-◌, ◌%◌, ◌≤◌, ◌<◌}
use native.Mathlib.Omega.{arith}
use mathlib.Core.Path.{◌≡◌, refl, sym, ap, ◌∙◌}
use mathlib.Core.Bool.{Bool, true, false, cond}
use mathlib.Core.List.{List}
use lib.ListN.{length, get_or, take, drop}
use lib.Dec.{ltb, eqb}
use borrow.Author.Tests.{ltb-true, ltb-false, eqb-true, eqb-false, eq-eqb}
use Rattle.std.specs.Prelude.{Result, Ok, Err}
use Rattle.ledger.specs.Ends.{places, falling, ends_from, floor_fits}
use Rattle.ledger.specs.Calls.{most_number, valid}
use Rattle.ledger.specs.declared.Ledger.{Ledger}
use Rattle.ledger.specs.declared.LedgerError.{LedgerError}
use Rattle.ledger.proofs.EndLaws.{both_left, from-below, from-above}
use Rattle.ledger.proofs.TurnLaws.{from-fewer}
use Rattle.ledger.proofs.FloorLaws.{Floor, Fits, no-floor, a-floor, fits-is, is-fits}
use Rattle.ledger.proofs.ArriveLaws.{valid-is}
use Rattle.ledger_ends.specs.Looking.{Reach, InOrder, found_in, seen_of}
use Rattle.ledger_ends.specs.declared.Damage.{Damage}
use Rattle.ledger_ends.proofs.UsedLaws.{counts-take}

-- a floor fits the ends before a place where it fits all, those from it on being 0
fits-take : (floor given k : ℕ) (es : List ℕ) → ends_from 1 (drop k es) ≡ 0 → floor_fits floor given (take k es) ≡ floor_fits floor given es
unfolding floor_fits
fits-take floor given k es h = rw (counts-take 1 k es (omega arith) h, counts-take (floor + 1) k es (omega arith) h) refl

-- none given up: the floor is 0
pub none-given : (floor given : ℕ) (es : List ℕ) → given ≡ 0 → eqb floor 0 ≡ floor_fits floor given es
unfolding floor_fits
none-given floor given es q = rw q (go (eqb floor 0))
  where
    go : (t : Bool) → t ≡ cond t true false
    go true = refl
    go false = refl

-- some given up: at most as many as the floor, and the last end above 0 ends a settled stretch above it
module _ (floor given : ℕ) (es : List ℕ) (some : 1 ≤ given) where
  refused : (Floor floor given es → ⊥) → false ≡ floor_fits floor given es
  refused none = go (floor_fits floor given es) refl
    where
      why : Fits floor given es → ⊥
      why (no-floor p q) = omega arith
      why (a-floor f) = none f

      go : (t : Bool) → floor_fits floor given es ≡ t → false ≡ t
      go true p = absurd (why (fits-is floor given es p))
      go false p = refl

  pub too-many-given : floor < given → false ≡ floor_fits floor given es
  too-many-given lt = refused (λ (f : Floor floor given es). omega (arith, f.most))

  module _ (w : InOrder es) (count : ℕ) (is : count ≡ ends_from 1 es) where
    pub lowest-missing : count % 2 ≡ 0 → false ≡ floor_fits floor given es
    lowest-missing even = refused (λ (f : Floor floor given es). omega (arith, f.odd, f.none-under))

    pub lowest-end : given ≤ floor → count % 2 ≡ 1 → ltb floor (get_or es (count - 1) 0) ≡ floor_fits floor given es
    lowest-end most odd = go (ltb floor (get_or es (count - 1) 0)) refl
      where
        go : (t : Bool) → ltb floor (get_or es (count - 1) 0) ≡ t → t ≡ floor_fits floor given es
        go true p =
            let above : count - 1 < ends_from (floor + 1) es = from-above (most_number + 1) (floor + 1) es (count - 1) w.falls (omega arith) (omega (arith, ltb-true floor (get_or es (count - 1) 0) p)) in
            let same : ends_from 1 es ≡ ends_from (floor + 1) es = omega (arith, from-fewer 1 (floor + 1) es (omega arith)) in
            sym (is-fits floor given es (a-floor (record { some = some; most = most; odd = omega arith; none-under = same })))
        go false p =
            refused (λ (f : Floor floor given es). omega (
              arith,
              f.none-under,
              ltb-false floor (get_or es (count - 1) 0) p,
              from-below (most_number + 1) (floor + 1) es (count - 1) w.falls (omega arith) (omega (arith, f.none-under)),
            ))

-- so many ends, in order or not
abbrev found_by : ℕ → Bool → Result ℕ Damage
found_by from t = cond t (Ok from) (Err (record { from = from }))

-- what is found of ends is Ok: they fall
found-falls : (n from : ℕ) (es : List ℕ) → Ok from ≡ found_in n es → (falling (most_number + 1) es ≡ true) × (from ≡ ends_from n es)
found-falls n from es is = go (falling (most_number + 1) es) refl is
  where
    go : (t : Bool) → falling (most_number + 1) es ≡ t → Ok from ≡ found_by (ends_from n es) t
        → (falling (most_number + 1) es ≡ true) × (from ≡ ends_from n es)
    go true p found = (p, cc)
    go false p found = let z : ◌≡◌ {A = ℕ} 0 1 = cc in absurd (omega arith)

-- what is seen of a list with a record's places, by what is found of its ends within reach
module _ (n : ℕ) (es : List ℕ) (floor given : ℕ) (whole : length es ≡ places) (to : ℕ) (reach : Reach to n es) where
  -- they fall: the floor decides
  pub seen-order : (from : ℕ) → Ok from ≡ found_in n (take to es) → (t : Bool) → t ≡ floor_fits floor given (take to es)
      → found_by from t ≡ seen_of n es floor given
  seen-order from found t is =
      let order = found-falls n from es (found ∙ reach.found) in
      rw (eq-eqb (length es) places whole, order.0, is ∙ fits-take floor given to es reach.zeros, order.1) refl

-- a record with a record's places that is in order: it is valid, its ends fall, and so many are a number or above it
pub record Found (n : ℕ) (l : Ledger) (from : ℕ) : Type 0 where
  pub whole : length l.ends ≡ places
  pub ok : valid l ≡ true
  pub falls : falling (most_number + 1) l.ends ≡ true
  pub count : from ≡ ends_from n l.ends

-- any other: the list has not those places, or the record is not valid
pub record Refused (l : Ledger) (e : LedgerError) : Type 0 where
  pub number : e ≡ LedgerError.Damaged
  pub invalid : length l.ends ≡ places → valid l ≡ false

module _ (n : ℕ) (l : Ledger) where
  abbrev seen_by : Bool → Bool → Result ℕ Damage
  seen_by s t = cond s (found_by (ends_from n l.ends) t) (Err (record { from = 0 }))

  seen-by : seen_of n l.ends l.floor l.given ≡ seen_by (eqb (length l.ends) places) (valid l)
  seen-by = ap (λ t. seen_by (eqb (length l.ends) places) t) (valid-is l)

  pub seen-found : (from : ℕ) → Ok from ≡ seen_of n l.ends l.floor l.given → Found n l from
  seen-found from is = go (eqb (length l.ends) places) refl (valid l) refl (is ∙ seen-by)
    where
      go : (s : Bool) → eqb (length l.ends) places ≡ s → (t : Bool) → valid l ≡ t → Ok from ≡ seen_by s t → Found n l from
      go true p true q found =
          record {
            whole = eqb-true (length l.ends) places p;
            ok = q;
            falls = both_left (falling (most_number + 1) l.ends) (floor_fits l.floor l.given l.ends) (valid-is l ∙ q);
            count = cc;
          }
      go true p false q found = let z : ◌≡◌ {A = ℕ} 0 1 = cc in absurd (omega arith)
      go false p t q found = let z : ◌≡◌ {A = ℕ} 0 1 = cc in absurd (omega arith)

  -- damage, whatever it counts, becomes a refusal by 20
  pub seen-refused : (d : Damage) → Err d ≡ seen_of n l.ends l.floor l.given → (e : LedgerError) → e ≡ LedgerError.Damaged → Refused l e
  seen-refused d is e number = go (eqb (length l.ends) places) refl (valid l) refl (is ∙ seen-by)
    where
      go : (s : Bool) → eqb (length l.ends) places ≡ s → (t : Bool) → valid l ≡ t → Err d ≡ seen_by s t → Refused l e
      go true p true q found = let z : ◌≡◌ {A = ℕ} 0 1 = cc in absurd (omega arith)
      go true p false q found = record { number = number; invalid = λ whole. q }
      go false p t q found = record { number = number; invalid = λ whole. absurd (eqb-false (length l.ends) places p whole) }
