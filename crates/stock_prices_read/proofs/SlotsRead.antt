-- All slots read out of a body and judged, one after the other.
use Prim.Native.Nat.{ℕ, suc, ◌+◌, ◌-◌, ◌≤◌, ◌<◌}
use mathlib.Core.Path.{◌≡◌, refl, sym, ap, ap₂, ◌∙◌}
use mathlib.Core.Bool.{Bool, true, false, ◌&&◌, and_assoc, and-true}
use mathlib.Core.List.{List, [], ◌∷◌, ◌++◌, append-nil, append_assoc}
use native.Mathlib.Omega.{arith}
use native.Mathlib.Numerals.{add-one}
use lib.ListN.{length, take, drop, set}
use lib.Seq.{take_at, drop_at, drop-drop, take-suc-set, take-length}
use lib.Dec.{leb, ltb}
use Rattle.layout.specs.Cells.{good_cells, decode}
use Rattle.layout.proofs.CellLaws.{good_cells-append, decode-append, length-decode}
use Rattle.stock_prices.specs.declared.Slot.{Slot}
use Rattle.stock_prices.specs.Prices.{slot_cells, slots_cells, slots_pass, slot_of, slots_of}
use Rattle.stock_prices.proofs.AndLaws.{none}
use Rattle.stock_prices.proofs.RuleLaws.{counted-at}

module _ (b : List ℕ) where
  -- the numbers of k slots from a place on, whether their digits are good, the slots, and a test that goes over them
  abbrev values_from : ℕ → ℕ → List ℕ
  values_from k at = decode (slots_cells k) (drop at b)

  abbrev pub good_from : ℕ → ℕ → Bool
  good_from k at = good_cells (slots_cells k) (drop at b)

  abbrev pub slots_from : ℕ → ℕ → List Slot
  slots_from k at = slots_of k (values_from k at)

  abbrev pub pass_from : (Bool → List ℕ → Bool) → ℕ → ℕ → ℕ → Bool
  pass_from p k n at = slots_pass p k n (values_from k at)

  -- the numbers of one slot
  abbrev values_at : ℕ → List ℕ
  values_at at = decode slot_cells (drop at b)

  length-slot : (at : ℕ) → length (values_at at) ≡ 12
  length-slot at = length-decode slot_cells (drop at b)

  good-next : (k at : ℕ) → good_from (suc k) at ≡ (good_cells slot_cells (drop at b) && good_from k (at + 36))
  unfolding slots_cells
  good-next k at =
      good_cells-append slot_cells (slots_cells k) (drop at b)
      ∙ ap (λ (l : List ℕ). good_cells slot_cells (drop at b) && good_cells (slots_cells k) l) (drop-drop 36 at b)

  -- what is made of the numbers of the first slot and of the others
  split-next : {A : Type 0} (f : List ℕ → List ℕ → A) (k at : ℕ)
      → f (take 12 (values_from (suc k) at)) (drop 12 (values_from (suc k) at)) ≡ f (values_at at) (values_from k (at + 36))
  unfolding slots_cells
  split-next f k at =
      let more = decode (slots_cells k) (drop 36 (drop at b)) in
      ap (λ (v : List ℕ). f (take 12 v) (drop 12 v)) (decode-append slot_cells (slots_cells k) (drop at b))
      ∙ ap₂ f (take_at (values_at at) more 12 (length-slot at)) (drop_at (values_at at) more 12 (length-slot at))
      ∙ ap (λ (r : List ℕ). f (values_at at) (decode (slots_cells k) r)) (drop-drop 36 at b)

  slots_next : (k at : ℕ) → slots_from (suc k) at ≡ slot_of (values_at at) ∷ slots_from k (at + 36)
  slots_next k = split-next (λ (v w : List ℕ). slot_of v ∷ slots_of k w) k

  pass-next : (p : Bool → List ℕ → Bool) (k n at : ℕ) → pass_from p (suc k) n at ≡ (p (leb 1 n) (values_at at) && pass_from p k (n - 1) (at + 36))
  pass-next p k n = split-next (λ (v w : List ℕ). p (leb 1 n) v && slots_pass p k (n - 1) w) k

  good_none : (at : ℕ) → good_from 0 at ≡ true
  unfolding slots_cells
  good_none at = refl

  -- one turn of the loop that fills the slots
  module _ (ss : List Slot) (i at : ℕ) (h : i < 10) (l : length ss ≡ 10)
      (g : good_from (10 - i) at ≡ good_from 10 1) (f : take i ss ++ slots_from (10 - i) at ≡ slots_from 10 1) where
    k : 10 - i ≡ suc (10 - (i + 1))
    k = omega arith

    this-good : good_from 10 1 ≡ (good_cells slot_cells (drop at b) && good_from (10 - (i + 1)) (at + 36))
    this-good = sym g ∙ ap (λ (n : ℕ). good_from n at) k ∙ good-next (10 - (i + 1)) at

    pub turn-bad : good_cells slot_cells (drop at b) ≡ false → good_from 10 1 ≡ false
    turn-bad e = this-good ∙ none (good_from (10 - (i + 1)) (at + 36)) e

    pub turn-good : good_cells slot_cells (drop at b) ≡ true → good_from (10 - (i + 1)) (at + 36) ≡ good_from 10 1
    turn-good e = sym (this-good ∙ ap (λ (t : Bool). t && good_from (10 - (i + 1)) (at + 36)) e)

    pub turn-slots : (s : Slot) → s ≡ slot_of (decode slot_cells (drop at b))
        → take (i + 1) (set ss i s) ++ slots_from (10 - (i + 1)) (at + 36) ≡ slots_from 10 1
    turn-slots s e =
        let more = slots_from (10 - (i + 1)) (at + 36) in
        ap (λ (n : ℕ). take n (set ss i s) ++ more) (add-one i)
        ∙ ap (λ (r : List Slot). r ++ more) (take-suc-set ss i s (omega arith))
        ∙ append_assoc (take i ss) (s ∷ []) more
        ∙ ap (λ (r : Slot). take i ss ++ (r ∷ more)) e
        ∙ ap (λ (r : List Slot). take i ss ++ r) (sym (ap (λ (n : ℕ). slots_from n at) k ∙ slots_next (10 - (i + 1)) at))
        ∙ f

    -- one turn of a test: so far it gave t, of this slot it gives u
    pub turn-pass : (p : Bool → List ℕ → Bool) (n : ℕ) (t : Bool) → (t && pass_from p (10 - i) (n - i) at) ≡ pass_from p 10 n 1
        → {u v : Bool} → u ≡ p (ltb i n) (values_at at) → v ≡ (t && u)
        → (v && pass_from p (10 - (i + 1)) (n - (i + 1)) (at + 36)) ≡ pass_from p 10 n 1
    turn-pass p n t inv {u} {v} e1 e2 =
        let more = pass_from p (10 - (i + 1)) (n - (i + 1)) (at + 36) in
        let m : n - (i + 1) ≡ n - i - 1 = omega arith in
        ap (λ (x : Bool). x && more) (e2 ∙ ap (λ (x : Bool). t && x) e1)
        ∙ and_assoc t (p (ltb i n) (values_at at)) more
        ∙ ap₂ (λ (x : Bool) (y : ℕ). t && (p x (values_at at) && pass_from p (10 - (i + 1)) y (at + 36))) (sym (counted-at i n)) m
        ∙ ap (λ (x : Bool). t && x) (sym (ap (λ (j : ℕ). pass_from p j (n - i) at) k ∙ pass-next p (10 - (i + 1)) (n - i) at))
        ∙ inv

  -- behind the last turn
  module _ (ss : List Slot) (i at : ℕ) (h : 10 ≤ i) (u : i ≤ 10) (l : length ss ≡ 10) where
    all : i ≡ 10
    all = omega arith

    pub done-good : good_from (10 - i) at ≡ good_from 10 1 → true ≡ good_from 10 1
    done-good g = sym (good_none at) ∙ ap (λ (n : ℕ). good_from (10 - n) at) (sym all) ∙ g

    pub done-slots : take i ss ++ slots_from (10 - i) at ≡ slots_from 10 1 → ss ≡ slots_from 10 1
    done-slots f =
        let e : length ss ≡ i = omega arith in
        sym (append-nil ss) ∙ ap (λ (r : List Slot). r ++ []) (sym (take-length ss) ∙ ap (λ (n : ℕ). take n ss) e)
        ∙ ap (λ (n : ℕ). take i ss ++ slots_from (10 - n) at) (sym all) ∙ f

    pub done-pass : (p : Bool → List ℕ → Bool) (n : ℕ) (t : Bool) → (t && pass_from p (10 - i) (n - i) at) ≡ pass_from p 10 n 1 → t ≡ pass_from p 10 n 1
    done-pass p n t inv = sym (and-true t) ∙ ap (λ (j : ℕ). t && pass_from p (10 - j) (n - i) at) (sym all) ∙ inv
