-- Layouts that begin with raw bytes: those bytes are handed on as they are.
use Prim.Native.Nat.{ℕ, zero, suc, ◌+◌, ◌≤◌}
use mathlib.Core.Path.{◌≡◌, refl, ap, ◌∙◌}
use mathlib.Core.List.{List, [], ◌∷◌, ◌++◌}
use native.Mathlib.Omega.{arith}
use lib.ListN.{length, take, drop, replicate}
use lib.Seq.{drop-drop}
use Rattle.layout.specs.Cells.{Cell, raw, good_cells, decode, fits, encode}

-- ---- read: n raw bytes and then other cells
pub decode-raws : (n : ℕ) (cs : List Cell) (bs : List ℕ) → n ≤ length bs → decode (replicate n raw ++ cs) bs ≡ take n bs ++ decode cs (drop n bs)
decode-raws zero cs bs h = refl
decode-raws (suc n) cs [] h = absurd (omega arith)
decode-raws (suc n) cs (b ∷ bs) h = ap (λ (l : List ℕ). b ∷ l) (decode-raws n cs bs (omega arith))

pub good-raws : (n : ℕ) (cs : List Cell) (bs : List ℕ) → good_cells (replicate n raw ++ cs) bs ≡ good_cells cs (drop n bs)
good-raws zero cs bs = refl
good-raws (suc n) cs bs =
    let e : 1 + n ≡ suc n = omega arith in
    good-raws n cs (drop 1 bs) ∙ ap (good_cells cs) (drop-drop n 1 bs ∙ ap (λ (k : ℕ). drop k bs) e)

-- ---- written: raw bytes and then other numbers
pub fits-raws : (bs : List ℕ) (cs : List Cell) (vs : List ℕ) → fits (replicate (length bs) raw ++ cs) (bs ++ vs) ≡ fits cs vs
fits-raws [] cs vs = refl
fits-raws (b ∷ bs) cs vs = fits-raws bs cs vs

pub encode-raws : (bs : List ℕ) (cs : List Cell) (vs : List ℕ) → encode (replicate (length bs) raw ++ cs) (bs ++ vs) ≡ bs ++ encode cs vs
encode-raws [] cs vs = refl
encode-raws (b ∷ bs) cs vs = ap (λ (l : List ℕ). b ∷ l) (encode-raws bs cs vs)
