-- A test of every slot, one slot at a time.
use Prim.Native.Nat.{ℕ, zero, suc, ◌+◌, ◌-◌, ◌/◌, ◌≤◌, ◌<◌}
use mathlib.Core.Path.{◌≡◌, sym, ap, ap₂, ◌∙◌}
use mathlib.Core.Bool.{Bool, true, false, ◌&&◌, ◌||◌, and-false}
use mathlib.Core.List.{List, [], ◌∷◌}
use native.Mathlib.Omega.{arith}
use native.Mathlib.Numerals.{add-one}
use lib.ListN.{length, get_or, drop}
use lib.Seq.{take_at, drop_at, drop-cons}
use lib.Dec.{leb, ltb}
use borrow.Author.Tests.{ne_eqb}
use Rattle.codes_times.specs.Times.{nines}
use Rattle.codes_times.proofs.RuleLaws.{time-width, hours-over}
use Rattle.stock_prices.specs.declared.Slot.{Slot}
use Rattle.stock_prices.specs.Prices.{time_right, slots_pass, slot_values, slots_values, codes_long}
use Rattle.stock_prices.proofs.PriceLaws.{length-slot_values}
use Rattle.stock_prices.proofs.RuleLaws.{counted-at}

-- a time of more than twelve digits is none
pub time-long : (counted : Bool) (t : ℕ) → 1000000000000 ≤ t → false ≡ time_right counted t
time-long counted t h =
    sym (ap₂ (λ (u v : Bool). u || (counted && v)) (time-width 6 t ∙ sym (hours-over (t / 1000000) (omega arith))) (ne_eqb t (nines 6) (λ e. omega (arith, e)))
    ∙ and-false counted)

-- ---- all slots
pub codes_at : (ss : List Slot) (i : ℕ) (d : Slot) → codes_long ss → i < length ss → length (get_or ss i d).code ≡ 6
codes_at [] i d c h = absurd (omega arith)
codes_at (s ∷ ss) zero d c h = c.0
codes_at (s ∷ ss) (suc i) d c h = codes_at ss i d c.1 (omega arith)

module _ (p : Bool → List ℕ → Bool) (ss : List Slot) (l : length ss ≡ 10) (c : codes_long ss) (n : ℕ) where
  -- the test that goes on from slot i
  abbrev pub pass_from : ℕ → Bool
  pass_from i = slots_pass p (10 - i) (n - i) (slots_values (drop i ss))

  abbrev pub pass_all : Bool
  pass_all = slots_pass p 10 n (slots_values ss)

  pub pass-start : pass_from 0 ≡ pass_all
  pass-start = let z : n - 0 ≡ n = omega arith in ap (λ (m : ℕ). slots_pass p 10 m (slots_values ss)) z

  pass-first : (k m : ℕ) (s : Slot) (more : List Slot) → length s.code ≡ 6
      → slots_pass p (suc k) m (slots_values (s ∷ more)) ≡ (p (leb 1 m) (slot_values s) && slots_pass p k (m - 1) (slots_values more))
  pass-first k m s more h =
      ap₂ (λ (a b : List ℕ). p (leb 1 m) a && slots_pass p k (m - 1) b)
      (take_at (slot_values s) (slots_values more) 12 (length-slot_values s h))
      (drop_at (slot_values s) (slots_values more) 12 (length-slot_values s h))

  module _ (d : Slot) (i : ℕ) (h : i < 10) (inv : pass_from i ≡ pass_all) where
    abbrev this : Bool
    this = p (ltb i n) (slot_values (get_or ss i d))

    pass-turn : pass_from i ≡ (this && pass_from (i + 1))
    pass-turn =
        let k : 10 - i ≡ suc (10 - (i + 1)) = omega arith in
        let m : n - i - 1 ≡ n - (i + 1) = omega arith in
        let e : drop i ss ≡ get_or ss i d ∷ drop (i + 1) ss = drop-cons ss i d (omega arith) ∙ ap (λ (j : ℕ). get_or ss i d ∷ drop j ss) (sym (add-one i)) in
        ap₂ (λ (j : ℕ) (r : List Slot). slots_pass p j (n - i) (slots_values r)) k e
        ∙ pass-first (10 - (i + 1)) (n - i) (get_or ss i d) (drop (i + 1) ss) (codes_at ss i d c (omega arith))
        ∙ ap₂ (λ (t : Bool) (j : ℕ). p t (slot_values (get_or ss i d)) && slots_pass p (10 - (i + 1)) j (slots_values (drop (i + 1) ss))) (counted-at i n) m

    pub pass-fails : this ≡ false → pass_all ≡ false
    pass-fails e = sym inv ∙ pass-turn ∙ ap (λ (t : Bool). t && pass_from (i + 1)) e

    pub pass-again : this ≡ true → pass_from (i + 1) ≡ pass_all
    pass-again e = sym (sym inv ∙ pass-turn ∙ ap (λ (t : Bool). t && pass_from (i + 1)) e)

  pub pass-done : (i : ℕ) → i ≤ 10 → 10 ≤ i → pass_from i ≡ pass_all → pass_all ≡ true
  pass-done i h g inv =
      let k : 10 - i ≡ 0 = omega arith in
      sym inv ∙ ap (λ (j : ℕ). slots_pass p j (n - i) (slots_values (drop i ss))) k
