-- A layout of fields that fill their bytes: its digits are good where every byte's are.
use Prim.Native.Nat.{ℕ, ◌+◌, ◌^◌, ◌≤◌, ◌<◌}
use mathlib.Core.Path.{◌≡◌, refl, sym, ap, ap₂, ◌∙◌, subst}
use mathlib.Core.Bool.{Bool, true, false, ◌&&◌, and_assoc}
use mathlib.Core.List.{List, [], ◌∷◌, ◌++◌}
use native.Mathlib.Omega.{arith}
use lib.ListN.{length, take, drop, length-drop}
use lib.Seq.{take-add, length-take-le}
use lib.Dec.{ltb}
use borrow.Author.Tests.{lt-ltb}
use Rattle.digits.specs.Packed.{width, good_byte, good, value, good_field}
use Rattle.digits.proofs.PackedLaws.{value-lt, hundred-pow}
use Rattle.layout.specs.Cells.{Cell, digits, good_cells}

-- good bytes and then others
pub good-append : (cs bs : List ℕ) → good (cs ++ bs) ≡ (good cs && good bs)
good-append [] bs = refl
good-append (c ∷ cs) bs = ap (λ (x : Bool). good_byte c && x) (good-append cs bs) ∙ sym (and_assoc (good_byte c) (good cs) (good bs))

-- a field 9(2k) in k bytes
pub good-whole : (k : ℕ) (bs : List ℕ) → length bs ≡ k → good_field (k + k) bs ≡ good bs
good-whole k bs l = go (good bs) refl
  where
    go : (g : Bool) → good bs ≡ g → (g && ltb (value bs) (10 ^ (k + k))) ≡ g
    go true e = lt-ltb (value bs) (10 ^ (k + k)) (subst (λ (x : ℕ). value bs < x) (ap (λ (i : ℕ). 100 ^ i) l ∙ hundred-pow k) (value-lt bs e))
    go false e = refl

-- fields 9(2k), one for each k
abbrev pub wholes : List ℕ → List Cell
wholes [] = []
wholes (k ∷ ks) = digits (k + k) ∷ wholes ks

abbrev pub total : List ℕ → ℕ
total [] = 0
total (k ∷ ks) = k + total ks

pub good-wholes : (ks bs : List ℕ) → total ks ≤ length bs → good_cells (wholes ks) bs ≡ good (take (total ks) bs)
good-wholes [] bs h = refl
good-wholes (k ∷ ks) bs h =
    let w : width (k + k) ≡ k = omega arith in
    let l : length (take k bs) ≡ k = length-take-le k bs (omega arith) in
    ap (λ (i : ℕ). good_field (k + k) (take i bs) && good_cells (wholes ks) (drop i bs)) w
    ∙ ap₂ ◌&&◌ (good-whole k (take k bs) l) (good-wholes ks (drop k bs) (rw length-drop (omega arith)))
    ∙ sym (good-append (take k bs) (take (total ks) (drop k bs)))
    ∙ ap good (sym (take-add k (total ks) bs))
