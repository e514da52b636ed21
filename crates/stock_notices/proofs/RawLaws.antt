-- Laws of n raw cells, by induction over n: they take n bytes, which are the numbers.
use Prim.Native.Nat.{ℕ, zero, suc, ◌≤◌}
use mathlib.Core.Path.{◌≡◌, refl, ap}
use mathlib.Core.Bool.{true}
use mathlib.Core.List.{List, [], ◌∷◌}
use native.Mathlib.Omega.{arith}
use lib.ListN.{length, take, drop, replicate}
use Rattle.layout.specs.Cells.{raw, size, good_cells, decode, fits, encode}

-- as many bytes as cells
pub size-raws : (n : ℕ) → size (replicate n raw) ≡ n
size-raws zero = refl
size-raws (suc n) = omega (arith, size-raws n)

-- no bad digit
pub good-raws : (n : ℕ) (bs : List ℕ) → good_cells (replicate n raw) bs ≡ true
good-raws zero bs = refl
good-raws (suc n) bs = good-raws n (drop 1 bs)

-- the numbers are the bytes
pub decode-raws : (n : ℕ) (bs : List ℕ) → n ≤ length bs → decode (replicate n raw) bs ≡ take n bs
decode-raws zero bs h = refl
decode-raws (suc n) [] h = absurd (omega arith)
decode-raws (suc n) (b ∷ bs) h = ap (λ (l : List ℕ). b ∷ l) (decode-raws n bs (omega arith))

-- the bytes are the numbers
pub encode-raws : (n : ℕ) (vs : List ℕ) → encode (replicate n raw) vs ≡ take n vs
encode-raws zero vs = refl
encode-raws (suc n) [] = refl
encode-raws (suc n) (v ∷ vs) = ap (λ (l : List ℕ). v ∷ l) (encode-raws n vs)

-- as many numbers as cells, whatever they are
pub fits-raws : (n : ℕ) (vs : List ℕ) → length vs ≡ n → fits (replicate n raw) vs ≡ true
fits-raws zero [] h = refl
fits-raws zero (v ∷ vs) h = absurd (omega arith)
fits-raws (suc n) [] h = absurd (omega arith)
fits-raws (suc n) (v ∷ vs) h = fits-raws n vs (omega arith)
