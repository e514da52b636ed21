-- Laws of the shared rules: a test of every byte taken byte by byte, and a time of day at any width.
use Prim.Native.Nat.{ℕ, suc, ◌+◌, ◌/◌, ◌%◌, ◌^◌, ◌≤◌, ◌<◌}
use mathlib.Core.Path.{◌≡◌, refl, sym, ap, ap₂, ◌∙◌}
use mathlib.Core.Bool.{Bool, true, false, cond, ◌&&◌, and-false}
use mathlib.Core.List.{List, [], ◌∷◌}
use native.Mathlib.Nat.{div-div-eq-div-mul}
use native.Mathlib.Numerals.{add-one}
use native.Mathlib.Omega.{arith}
use lib.ListN.{length, get_or, take, drop, replicate, length-drop, drop_of_length-le}
use lib.Seq.{drop-cons, length-take-le}
use lib.Pow.{pow-add}
use lib.Dec.{leb, ltb}
use borrow.Author.Tests.{lt-leb, le-leb, leb-true, lt-ltb, le-ltb}
use Rattle.codes_times.specs.Times.{time_of_day, every, code_at, code_byte}

-- the next byte and those after it
pub next-byte : (l : List ℕ) (i : ℕ) → i < length l → drop i l ≡ get_or l i 0 ∷ drop (i + 1) l
next-byte l i h = rw add-one (drop-cons l i 0 h)

-- ---- a code
-- one byte of a part, and the others
part-next : (n : ℕ) (s : List ℕ) (at k : ℕ) → at + k < length s → take (suc n) (drop (at + k) s) ≡ get_or s (at + k) 0 ∷ take n (drop (at + suc k) s)
part-next n s at k h =
    let e : suc (at + k) ≡ at + suc k = omega arith in
    ap (take (suc n)) (drop-cons s (at + k) 0 h) ∙ ap (λ (j : ℕ). get_or s (at + k) 0 ∷ take n (drop j s)) e

-- the six bytes one by one
pub six-bytes : (s : List ℕ) (at : ℕ) → at + 6 ≤ length s
    → get_or s at 0 ∷ get_or s (at + 1) 0 ∷ get_or s (at + 2) 0 ∷ get_or s (at + 3) 0 ∷ get_or s (at + 4) 0 ∷ get_or s (at + 5) 0 ∷ [] ≡ take 6 (drop at s)
six-bytes s at h =
    let z : at + 0 ≡ at = omega arith in
    sym (ap (λ (j : ℕ). take 6 (drop j s)) (sym z) ∙ part-next 5 s at 0 (omega arith) ∙ ap₂ (λ (j : ℕ) (l : List ℕ). get_or s j 0 ∷ l) z
    (part-next 4 s at 1 (omega arith) ∙ ap (λ (l : List ℕ). get_or s (at + 1) 0 ∷ l)
    (part-next 3 s at 2 (omega arith) ∙ ap (λ (l : List ℕ). get_or s (at + 2) 0 ∷ l)
    (part-next 2 s at 3 (omega arith) ∙ ap (λ (l : List ℕ). get_or s (at + 3) 0 ∷ l)
    (part-next 1 s at 4 (omega arith) ∙ ap (λ (l : List ℕ). get_or s (at + 4) 0 ∷ l)
    (part-next 0 s at 5 (omega arith)))))))

module _ (s : List ℕ) (at : ℕ) where
  pub code_in : at + 6 ≤ length s → code_at s at ≡ take 6 (drop at s)
  code_in h = ap (λ (t : Bool). cond t (take 6 (drop at s)) (replicate 6 0)) (le-leb (at + 6) (length s) h)

  pub code_out : length s < at + 6 → replicate 6 0 ≡ code_at s at
  code_out h = sym (ap (λ (t : Bool). cond t (take 6 (drop at s)) (replicate 6 0)) (lt-leb (at + 6) (length s) h))

  -- it has six bytes, there or not
  pub length-code : length (code_at s at) ≡ 6
  length-code = go (leb (at + 6) (length s)) refl
    where
      go : (t : Bool) → leb (at + 6) (length s) ≡ t → length (cond t (take 6 (drop at s)) (replicate 6 0)) ≡ 6
      go true e = length-take-le 6 (drop at s) (rw length-drop (omega (arith, leb-true (at + 6) (length s) e)))
      go false e = refl

-- ---- a test of every byte
module _ (p : ℕ → Bool) (l : List ℕ) (i : ℕ) where
  next : i < length l → every p (drop i l) ≡ p (get_or l i 0) && every p (drop (i + 1) l)
  next h = ap (every p) (next-byte l i h)

  -- a byte that fails the test decides
  pub every-fails : i < length l → every p (drop i l) ≡ every p l → p (get_or l i 0) ≡ false → false ≡ every p l
  every-fails h so e = sym (ap (λ (t : Bool). t && every p (drop (i + 1) l)) e) ∙ sym (next h) ∙ so

  -- a byte that passes it does not
  pub every-goes-on : i < length l → every p (drop i l) ≡ every p l → p (get_or l i 0) ≡ true → every p (drop (i + 1) l) ≡ every p l
  every-goes-on h so e = sym (ap (λ (t : Bool). t && every p (drop (i + 1) l)) e) ∙ sym (next h) ∙ so

  -- all passed
  pub every-ends : length l ≤ i → every p (drop i l) ≡ every p l → true ≡ every p l
  every-ends h so = sym (ap (every p) (drop_of_length-le l h)) ∙ so

pub code-low : (b : ℕ) → b < 32 → code_byte b ≡ false
code-low b h = ap (λ (t : Bool). t && leb b 126) (lt-leb 32 b h)

pub code-high : (b : ℕ) → 126 < b → code_byte b ≡ false
code-high b h = ap (λ (t : Bool). leb 32 b && t) (lt-leb b 126 h) ∙ and-false (leb 32 b)

pub code-between : (b : ℕ) → 32 ≤ b → b ≤ 126 → code_byte b ≡ true
code-between b h k = ap₂ ◌&&◌ (le-leb 32 b h) (le-leb b 126 k)

-- ---- times
-- a time's fraction says nothing: what holds of HHMMSS holds at every width
pub time-width : (k t : ℕ) → time_of_day k t ≡ time_of_day 0 (t / 10 ^ k)
time-width k t =
    let four : t / 10 ^ (k + 4) ≡ t / 10 ^ k / 10000 = ap (λ (x : ℕ). t / x) (pow-add 10 k 4) ∙ sym (div-div-eq-div-mul t (10 ^ k) 10000) in
    let two : t / 10 ^ (k + 2) ≡ t / 10 ^ k / 100 = ap (λ (x : ℕ). t / x) (pow-add 10 k 2) ∙ sym (div-div-eq-div-mul t (10 ^ k) 100) in
    let one : t / 10 ^ k / 1 ≡ t / 10 ^ k = omega arith in
    rw (four, two, one)

module _ (t : ℕ) where
  pub hours-over : 23 < t / 10000 → false ≡ time_of_day 0 t
  hours-over h = sym (ap (λ (x : Bool). x && (ltb (t / 100 % 100) 60 && ltb (t / 1 % 100) 60)) (le-ltb (t / 10000) 24 (omega arith)))

  pub minutes-over : t / 10000 ≤ 23 → 59 < t / 100 % 100 → false ≡ time_of_day 0 t
  minutes-over h m =
      sym (ap₂ (λ (x y : Bool). x && (y && ltb (t / 1 % 100) 60)) (lt-ltb (t / 10000) 24 (omega arith)) (le-ltb (t / 100 % 100) 60 (omega arith)))

  pub seconds-say : t / 10000 ≤ 23 → t / 100 % 100 ≤ 59 → ltb (t % 100) 60 ≡ time_of_day 0 t
  seconds-say h m =
      let e : t / 1 % 100 ≡ t % 100 = omega arith in
      sym (ap₂ (λ (x y : Bool). x && (y && ltb (t / 1 % 100) 60)) (lt-ltb (t / 10000) 24 (omega arith)) (lt-ltb (t / 100 % 100) 60 (omega arith))
      ∙ ap (λ (x : ℕ). ltb x 60) e)
