-- What slots tell, put into a list slot by slot.
use Prim.Native.Nat.{ℕ, zero, suc, ◌+◌, ◌*◌, ◌≤◌, ◌<◌}
use mathlib.Core.Path.{◌≡◌, refl, sym, ap, ◌∙◌}
use mathlib.Core.List.{List, [], ◌∷◌, ◌++◌, append-nil}
use native.Mathlib.Omega.{arith}
use native.Mathlib.Numerals.{add-one}
use lib.ListN.{length, get_or, drop, replicate, set, length-append, length-replicate, drop_of_length-le}
use lib.Seq.{sets, sets-eq, drop-cons}
use Rattle.layout.proofs.PutLaws.{sets_behind}
use Rattle.stock_prices.specs.Prices.{codes_long}
use Rattle.stock_prices.specs.declared.Slot.{Slot}
use Rattle.c_prices.specs.Slots.{spread, code_in, amounts_in}

-- five entries put one after the other
pub put_five : (l : List ℕ) (at a b c d e : ℕ)
    → set (set (set (set (set l at a) (at + 1) b) (at + 2) c) (at + 3) d) (at + 4) e
    ≡ sets l at (a ∷ b ∷ c ∷ d ∷ e ∷ [])
put_five l at a b c d e =
    let e1 : at + 1 ≡ suc at = omega arith in
    let e2 : at + 2 ≡ suc (suc at) = omega arith in
    let e3 : at + 3 ≡ suc (suc (suc at)) = omega arith in
    let e4 : at + 4 ≡ suc (suc (suc (suc at))) = omega arith in
    rw (e1, e2, e3, e4) refl

-- what slots tell, put into a list from its start on, slot by slot
module _ (f : Slot → List ℕ) (w : ℕ) (ss : List Slot) (d : Slot) where
  -- one more slot is put
  pub spread-turn : (i : ℕ) (l t : List ℕ) → i < length ss → length (f (get_or ss i d)) ≡ w → t ≡ sets l (w * i) (f (get_or ss i d))
      → sets t (w * (i + 1)) (spread f (drop (i + 1) ss)) ≡ sets l (w * i) (spread f (drop i ss))
  spread-turn i l t h wide e =
      let g = f (get_or ss i d) in
      let r = spread f (drop (i + 1) ss) in
      let one : drop i ss ≡ get_or ss i d ∷ drop (i + 1) ss = rw add-one (drop-cons ss i d h) in
      let step : w * i + length g ≡ w * (i + 1) = ap (λ (k : ℕ). w * i + k) wide ∙ omega arith in
      ap (λ (x : List ℕ). sets x (w * (i + 1)) r) e
      ∙ sets_behind g r l (w * i) (w * (i + 1)) step
      ∙ sym (ap (λ (x : List Slot). sets l (w * i) (spread f x)) one)

  -- all are put
  pub spread-done : (i : ℕ) (l : List ℕ) → length ss ≤ i → sets l (w * i) (spread f (drop i ss)) ≡ l
  spread-done i l h = ap (λ (x : List Slot). sets l (w * i) (spread f x)) (drop_of_length-le ss h)

-- and they fill a list of their length
pub sets-all : (n : ℕ) (vs : List ℕ) → length vs ≡ n → sets (replicate n 0) 0 vs ≡ vs
sets-all n vs e =
    let z : List ℕ = replicate n 0 in
    let long : length z ≡ n = length-replicate n 0 in
    sets-eq vs z 0 (omega (arith, long, e))
    ∙ ap (λ (x : List ℕ). vs ++ x) (drop_of_length-le z {i = 0 + length vs} (omega (arith, long, e)))
    ∙ append-nil vs

-- the codes of slots have six bytes each, the amounts are five each
pub codes_all : (ss : List Slot) → codes_long ss → length (spread code_in ss) ≡ 6 * length ss
codes_all [] h = refl
codes_all (s ∷ ss) h =
    let e : length (spread code_in ss) ≡ 6 * length ss = codes_all ss h.1 in
    length-append s.code (spread code_in ss) ∙ omega (arith, e, h.0)

pub amounts-all : (ss : List Slot) → length (spread amounts_in ss) ≡ 5 * length ss
amounts-all [] = refl
amounts-all (s ∷ ss) = let e : length (spread amounts_in ss) ≡ 5 * length ss = amounts-all ss in omega (arith, e)

-- the code at a place
pub code-wide : (ss : List Slot) (d : Slot) (i : ℕ) → codes_long ss → i < length ss → length (get_or ss i d).code ≡ 6
code-wide [] d i h l = elim l [ ]
code-wide (s ∷ ss) d zero h l = h.0
code-wide (s ∷ ss) d (suc i) h l = code-wide ss d i h.1 (omega (arith, l))
