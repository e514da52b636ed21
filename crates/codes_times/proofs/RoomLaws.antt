-- Bytes in a room that is longer than they are: zeros stand behind them.
use Prim.Native.Nat.{ℕ, zero, suc, ◌-◌, ◌≤◌}
use mathlib.Core.Path.{◌≡◌, refl, sym, ap, ap₂, ◌∙◌}
use mathlib.Core.Bool.{Bool, true, false, ◌&&◌}
use mathlib.Core.List.{List, [], ◌∷◌, ◌++◌}
use native.Mathlib.Omega.{arith}
use lib.ListN.{length, take, drop, replicate, length-append, length-drop, length-replicate, take-append-drop}
use lib.Seq.{take_at, drop_at, length-take-le}
use lib.Dec.{eqb}
use borrow.Author.Tests.{eqb-true}
use Rattle.codes_times.specs.Times.{every}

-- ---- zeros
-- bytes that are all zero
pub every-zero : (l : List ℕ) → every (eqb 0) l ≡ true → l ≡ replicate (length l) 0
every-zero [] h = refl
every-zero (b ∷ l) h = go (eqb 0 b) refl h (every-zero l)
  where
    go : (t : Bool) → eqb 0 b ≡ t → (t && every (eqb 0) l) ≡ true → (every (eqb 0) l ≡ true → l ≡ replicate (length l) 0)
        → b ∷ l ≡ 0 ∷ replicate (length l) 0
    go true e q ih = ap₂ (λ (x : ℕ) (r : List ℕ). x ∷ r) (sym (eqb-true 0 b e)) (ih q)
    go false e q ih = let z : ◌≡◌ {A = ℕ} 0 1 = cc in absurd (omega arith)

-- zeros are all zero
pub zeros-every : (n : ℕ) → every (eqb 0) (replicate n 0) ≡ true
zeros-every zero = refl
zeros-every (suc n) = zeros-every n

-- ---- the room
-- the first n bytes of a text whose others are zero, filled up with zeros
pub filled : (n r : ℕ) (t : List ℕ) → length t ≡ r → n ≤ r → every (eqb 0) (drop n t) ≡ true
    → take n t ++ replicate (r - length (take n t)) 0 ≡ t
filled n r t l h z =
    let k : length (take n t) ≡ n = length-take-le n t (omega arith) in
    let e : r - length (take n t) ≡ length (drop n t) = rw length-drop (omega arith) in
    ap (λ (x : ℕ). take n t ++ replicate x 0) e
    ∙ ap (λ (x : List ℕ). take n t ++ x) (sym (every-zero (drop n t) z)) ∙ take-append-drop n t

-- what is filled up with zeros has its room
pub length-filled : (r : ℕ) (t : List ℕ) → length t ≤ r → length (t ++ replicate (r - length t) 0) ≡ r
length-filled r t h = rw (length-append, length-replicate) (omega arith)

-- and gives the text back
pub text-back : (t : List ℕ) (r : ℕ) → take (length t) (t ++ replicate (r - length t) 0) ≡ t
text-back t r = take_at t (replicate (r - length t) 0) (length t) refl

-- and zeros behind it
pub rest-tidy : (t : List ℕ) (r : ℕ) → every (eqb 0) (drop (length t) (t ++ replicate (r - length t) 0)) ≡ true
rest-tidy t r = ap (every (eqb 0)) (drop_at t (replicate (r - length t) 0) (length t) refl) ∙ zeros-every (r - length t)
