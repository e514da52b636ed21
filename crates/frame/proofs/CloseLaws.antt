-- Closing a frame around a body that stands at its place: a header behind 27, then the check byte and the end. Over any header's bytes.
use Prim.Native.Nat.{ℕ, suc, ◌+◌, ◌-◌, ◌≤◌}
use mathlib.Core.Path.{◌≡◌, refl, sym, ap, ap₂, ◌∙◌}
use mathlib.Core.List.{List, [], ◌∷◌, ◌++◌, append_assoc}
use native.Mathlib.Omega.{arith}
use lib.ListN.{length, take, drop, set, length-append, length-drop, take-append-drop}
use lib.Seq.{sets, sets-eq, length-sets, length-take-le, take_at, drop-drop, take-append-add, drop-append-add}
use Rattle.words.specs.Xor.{xor_of}
use Rattle.frame.specs.Writing.{sealed}

-- the last three bytes are one run of stores
end-stores : (t : List ℕ) (n x : ℕ) → 3 ≤ n → set (set (set t (n - 3) x) (n - 2) 13) (n - 1) 10 ≡ sets t (n - 3) (x ∷ 13 ∷ 10 ∷ [])
end-stores t n x h =
    let p : n - 2 ≡ suc (n - 3) = omega arith in
    let q : n - 1 ≡ suc (suc (n - 3)) = omega arith in
    ap₂ (λ (i j : ℕ). set (set (set t (n - 3) x) i 13) j 10) p q

-- ---- a header h of a bytes behind 27, then the check byte and the end
module _ (buf h : List ℕ) (a n : ℕ) (lh : length h ≡ a) (low : 4 + a ≤ n) (fit : n ≤ length buf) where
  abbrev pub placed : List ℕ
  placed = take (n - (4 + a)) (drop (1 + a) buf)

  headed : sets buf 0 (27 ∷ h) ≡ 27 ∷ (h ++ drop (1 + a) buf)
  headed =
      let e : 0 + length (27 ∷ h) ≡ 1 + a = omega arith in
      sets-eq (27 ∷ h) buf 0 (omega arith) ∙ ap (λ (k : ℕ). 27 ∷ (h ++ drop k buf)) e

  -- what the check byte covers
  pub covered : take (n - 3 - 1) (drop 1 (sets buf 0 (27 ∷ h))) ≡ h ++ placed
  covered =
      let e : n - 3 - 1 ≡ length h + (n - (4 + a)) = omega arith in
      ap₂ (λ (k : ℕ) (l : List ℕ). take k (drop 1 l)) e headed ∙ take-append-add h (drop (1 + a) buf) (n - (4 + a))

  pub length-placed : length placed ≡ n - (4 + a)
  length-placed = length-take-le (n - (4 + a)) (drop (1 + a) buf) (rw length-drop (omega arith))

  front : take (n - 3) (sets buf 0 (27 ∷ h)) ≡ 27 ∷ (h ++ placed)
  front =
      let rest = drop (n - (4 + a)) (drop (1 + a) buf) in
      let e : 27 ∷ (h ++ drop (1 + a) buf) ≡ (27 ∷ (h ++ placed)) ++ rest =
      ap (λ (l : List ℕ). 27 ∷ l) (ap (λ (l : List ℕ). h ++ l) (sym (take-append-drop (n - (4 + a)) (drop (1 + a) buf))) ∙ sym (append_assoc h placed rest)) in
      ap (take (n - 3)) (headed ∙ e) ∙ take_at (27 ∷ (h ++ placed)) rest (n - 3) (omega (arith, length-append h placed, length-placed))

  far : (k : ℕ) → k ≡ 3 → n - 3 + k ≡ length (27 ∷ h) + (n - (1 + a))
  far k three = omega arith

  again : 1 + a + (n - (1 + a)) ≡ n
  again = omega arith

  behind : (k : ℕ) → k ≡ 3 → drop (n - 3 + k) (sets buf 0 (27 ∷ h)) ≡ drop n buf
  behind k three =
      ap₂ (λ (i : ℕ) (l : List ℕ). drop i l) (far k three) headed
      ∙ drop-append-add (27 ∷ h) (drop (1 + a) buf) (n - (1 + a))
      ∙ drop-drop (n - (1 + a)) (1 + a) buf
      ∙ ap (λ (i : ℕ). drop i buf) again

  -- the last three bytes stored
  pub ended-stores : (x : ℕ) → x ≡ xor_of (h ++ placed)
      → set (set (set (sets buf 0 (27 ∷ h)) (n - 3) x) (n - 2) 13) (n - 1) 10 ≡ sealed (h ++ placed) ++ drop n buf
  ended-stores x e =
      end-stores (sets buf 0 (27 ∷ h)) n x (omega arith)
      ∙ sets-eq (x ∷ 13 ∷ 10 ∷ []) (sets buf 0 (27 ∷ h)) (n - 3) (rw length-sets (omega arith))
      ∙ ap₂ (λ (l m : List ℕ). (l ++ (x ∷ 13 ∷ 10 ∷ [])) ++ m) front (behind (length (x ∷ 13 ∷ 10 ∷ [])) refl)
      ∙ ap (λ (y : ℕ). (27 ∷ ((h ++ placed) ++ (y ∷ 13 ∷ 10 ∷ []))) ++ drop n buf) e
