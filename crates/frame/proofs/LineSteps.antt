-- A frame at a place on a line: its first byte, the bytes of its length, and the length as one number. Over any header.
use Rattle.std.specs.Prelude.{None, Option, Some}
use Prim.Native.Nat.{ℕ, suc, ◌+◌, ◌<◌}
use mathlib.Core.Path.{◌≡◌, refl, sym, ap, ◌∙◌}
use mathlib.Core.Bool.{Bool, true, false, cond}
use mathlib.Core.List.{List, [], ◌∷◌}
use native.Mathlib.Omega.{arith}
use lib.Dec.{eqb}
use lib.ListN.{length, get_or, take, drop}
use lib.Seq.{drop-cons, drop-drop, get_or-drop}
use Rattle.words.specs.Xor.{xor_of}
use Rattle.layout.specs.Checks.{must, first_fail}
use Rattle.frame.specs.Header.{Header, length_at, length_bytes, length_of, own, inner, head_good, head_bad, check_byte, ended, length_right, last_checks, outline_place}

-- two bytes side by side
pub two_bytes : (l : List ℕ) (i j : ℕ) → j ≡ suc i → j < length l → take 2 (drop i l) ≡ get_or l i 0 ∷ get_or l j 0 ∷ []
two_bytes l i j e h =
    ap (take 2) (drop-cons l i 0 (omega arith))
    ∙ ap (λ (k : ℕ). get_or l i 0 ∷ take 1 (drop k l)) (sym e)
    ∙ ap (λ (m : List ℕ). get_or l i 0 ∷ take 1 m) (drop-cons l j 0 h)

pub first-at : (line : List ℕ) (at : ℕ) → get_or (drop at line) 0 0 ≡ get_or line at 0
first-at line at = let e : at + 0 ≡ at = omega arith in get_or-drop at line 0 0 ∙ ap (λ (k : ℕ). get_or line k 0) e

-- the bytes of the length, by their places on the line
pub length-bytes-at : (H : Header) (line : List ℕ) (at i j : ℕ) → i ≡ at + length_at H → j ≡ suc i → j < length line
    → length_bytes H (drop at line) ≡ get_or line i 0 ∷ get_or line j 0 ∷ []
length-bytes-at H line at i j e f h =
    ap (take 2) (drop-drop (length_at H) at line ∙ ap (λ (k : ℕ). drop k line) (sym e)) ∙ two_bytes line i j f h

-- the length, where there is one
module _ (H : Header) (t : List ℕ) (r : Option ℕ) (is : r ≡ cond (length_right H t) (Some (length_of H t)) None) where
  pub length_none : r ≡ None → length_right H t ≡ false
  length_none z = go (length_right H t) (sym is ∙ z)
    where
      go : (b : Bool) → cond b (Some (length_of H t)) None ≡ None → b ≡ false
      go false e = refl
      go true e = cc

  pub length_some : (n : ℕ) → r ≡ Some n → (length_right H t ≡ true) × (n ≡ length_of H t)
  length_some n z = go (length_right H t) (sym z ∙ is)
    where
      go : (b : Bool) → Some n ≡ cond b (Some (length_of H t)) None → (b ≡ true) × (n ≡ length_of H t)
      go true e = (refl, cc)
      go false e = (cc, cc)

-- the last checks speak of no digit of the length
pub last-place : (H : Header) (t : List ℕ)
    → outline_place H (first_fail (last_checks H (own H t))) t ≡ cond (eqb (first_fail (last_checks H (own H t))) 6) (head_bad H (own H t)) None
last-place H t = go (ended (own H t)) (eqb (check_byte (own H t)) (xor_of (inner (own H t)))) (head_good H (own H t))
  where
    go : (a b c : Bool) → let n = first_fail (must 4 a ∷ must 5 b ∷ must 6 c ∷ []) in
        outline_place H n t ≡ cond (eqb n 6) (head_bad H (own H t)) None
    go false b c = refl
    go true false c = refl
    go true true false = refl
    go true true true = refl
