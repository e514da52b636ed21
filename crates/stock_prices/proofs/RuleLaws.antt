-- The rules on one slot.
use Prim.Native.Nat.{ℕ, ◌+◌, ◌-◌}
use mathlib.Core.Path.{◌≡◌, refl, sym, ap, ap₂, ◌∙◌, subst}
use mathlib.Core.Bool.{Bool, true, false, cond, ◌&&◌}
use mathlib.Core.List.{List, [], ◌∷◌}
use native.Mathlib.Omega.{arith}
use lib.ListN.{length, get_or, take, drop}
use lib.Seq.{take_at, drop_at, get_or-append-add}
use lib.Dec.{eqb, leb, ltb}
use borrow.Author.Tests.{le-leb, lt-leb, eqb-true, eqb-false, leb-true, ltb-true, ltb-false}
use Rattle.std.specs.List.{list_all}
use Rattle.codes_times.specs.Times.{every, code_right}
use Rattle.codes_times.proofs.EveryLaws.{all_every}
use Rattle.stock_prices.specs.declared.Slot.{Slot}
use Rattle.stock_prices.specs.Prices.{slot_code, slot_time, time_right, slot_timed, slot_ruled, slot_values}

-- ---- a code
-- a byte between two is in the test of both bounds
abbrev pub between : ℕ → ℕ → ℕ → Bool
between low high b = leb low b && leb b high

between-one : (a b : ℕ) → eqb a b ≡ between a a b
between-one a b = go (eqb a b) refl
  where
    go : (t : Bool) → eqb a b ≡ t → t ≡ between a a b
    go true e = sym (ap₂ ◌&&◌ (le-leb a b (omega (arith, eqb-true a b e))) (le-leb b a (omega (arith, eqb-true a b e))))
    go false e = sym (low (leb a b) refl)
      where
        low : (u : Bool) → leb a b ≡ u → (u && leb b a) ≡ false
        low false q = refl
        low true q = lt-leb b a (omega (arith, eqb-false a b e, leb-true a b q))

every_one : (a : ℕ) (bs : List ℕ) → every (eqb a) bs ≡ list_all (between a a) bs
every_one a [] = refl
every_one a (b ∷ bs) = ap₂ ◌&&◌ (between-one a b) (every_one a bs)

-- ---- one slot
module _ (s : Slot) (l : length s.code ≡ 6) where
  abbrev amounts : List ℕ
  amounts = s.opening.0 ∷ s.highest.0 ∷ s.lowest.0 ∷ s.last.0 ∷ s.total.0 ∷ s.time ∷ []

  code_is : slot_code (slot_values s) ≡ s.code
  code_is = take_at s.code amounts 6 l

  time-is : slot_time (slot_values s) ≡ s.time
  time-is = subst (λ (n : ℕ). get_or (slot_values s) (n + 5) 0 ≡ s.time) l (get_or-append-add s.code amounts 5 0)

  amounts-are : take 6 (drop 6 (slot_values s)) ≡ amounts
  amounts-are = ap (take 6) (drop_at s.code amounts 6 l)

  pub timed-is : (counted : Bool) → slot_timed counted (slot_values s) ≡ time_right counted s.time
  timed-is counted = ap (time_right counted) time-is

  -- what is asked of its fields, counted or not
  pub ruled_is : (counted : Bool) → slot_ruled counted (slot_values s) ≡ cond counted (list_all (between 32 126) s.code) (list_all (between 32 32) s.code && list_all (eqb 0) amounts)
  ruled_is true = ap code_right code_is ∙ sym (all_every (between 32 126) s.code)
  ruled_is false = ap₂ (λ (c a : List ℕ). every (eqb 32) c && every (eqb 0) a) code_is amounts-are ∙ ap₂ ◌&&◌ (every_one 32 s.code) (sym (all_every (eqb 0) amounts))

-- slot i is counted where it is among the first n
pub counted-at : (i n : ℕ) → leb 1 (n - i) ≡ ltb i n
counted-at i n = go (ltb i n) refl
  where
    go : (t : Bool) → ltb i n ≡ t → leb 1 (n - i) ≡ t
    go true e = le-leb 1 (n - i) (omega (arith, ltb-true i n e))
    go false e = lt-leb 1 (n - i) (omega (arith, ltb-false i n e))
