-- Looking for a bad half cell by cell: what is left to look at from a cell on, and what one cell more does.
use Rattle.std.specs.Prelude.{None, Option, Some}
use Prim.Native.Nat.{ℕ, zero, suc, ◌+◌, ◌*◌, ◌≤◌, ◌<◌}
use mathlib.Core.Path.{◌≡◌, refl, sym, ap, ap₂, ◌∙◌}
use mathlib.Core.List.{List, ◌∷◌}
use native.Mathlib.Numerals.{add-one}
use native.Mathlib.Omega.{arith}
use lib.ListN.{length, get_or, take, drop, drop_of_length-le}
use lib.Seq.{drop-cons, drop-drop}
use Rattle.digits.specs.Halves.{or_else, bad_in, looked, behind}
use Rattle.layout.specs.Cells.{Cell, cell_size}
use Rattle.layout.specs.Places.{cell_bad, first_bad, cell_of, cells_of}
use Rattle.layout.proofs.PlaceLaws.{first_bad-past, first_bad-behind, first_bad-inside, length-take-most}

-- a cell of the bytes at a place, as the digit layer looks at it
cell_at : (n at : ℕ) (s : List ℕ) → cell_bad (cell_of n) (2 * at) (take (cell_size (cell_of n)) (drop at s)) ≡ bad_in s at n
cell_at zero at s = refl
cell_at (suc n) at s = refl

-- looking from the cell i on, whose bytes begin at a place
abbrev pub left_bad : List ℕ → List ℕ → ℕ → ℕ → Option ℕ
left_bad cells s at i = first_bad (cells_of (drop i cells)) (2 * at) (drop at s)

pub left-past : (cells s : List ℕ) (at i : ℕ) → length s ≤ at → None ≡ left_bad cells s at i
left-past cells s at i h = sym (ap (first_bad (cells_of (drop i cells)) (2 * at)) (drop_of_length-le s h) ∙ first_bad-past (cells_of (drop i cells)) (2 * at))

module _ (cells s : List ℕ) (at i : ℕ) (more : i < length cells) (x : Option ℕ) (is : x ≡ bad_in s at (get_or cells i 0)) where
  begun : left_bad cells s at i ≡ or_else x (left_bad cells s (at + cell_size (cell_of (get_or cells i 0))) (i + 1))
  begun =
      let n = get_or cells i 0 in
      let k = cell_size (cell_of n) in
      let e : 2 * at + 2 * k ≡ 2 * (at + k) = omega arith in
      ap (λ (ns : List ℕ). first_bad (cells_of ns) (2 * at) (drop at s)) (drop-cons cells i 0 more ∙ ap (λ (j : ℕ). n ∷ drop j cells) (sym (add-one i)))
      ∙ ap₂ or_else (cell_at n at s ∙ sym is)
      (ap₂ (λ (p : ℕ) (l : List ℕ). first_bad (cells_of (drop (i + 1) cells)) p l) e (drop-drop k at s))

  pub left-bad : (p : ℕ) → x ≡ Some p → Some p ≡ left_bad cells s at i
  left-bad p e = sym (begun ∙ ap (λ (y : Option ℕ). or_else y (left_bad cells s (at + cell_size (cell_of (get_or cells i 0))) (i + 1))) e)

  pub left-turn : x ≡ None → (k : ℕ) → k ≡ cell_size (cell_of (get_or cells i 0)) → left_bad cells s (at + k) (i + 1) ≡ left_bad cells s at i
  left-turn e k w =
      ap (λ (m : ℕ). left_bad cells s (at + m) (i + 1)) w
      ∙ sym (begun ∙ ap (λ (y : Option ℕ). or_else y (left_bad cells s (at + cell_size (cell_of (get_or cells i 0))) (i + 1))) e)

-- what is found in bytes without halves before them, told with those that stand there
module _ (cs : List Cell) (s : List ℕ) (x : Option ℕ) (is : x ≡ first_bad cs 0 (looked s)) where
  shifted : (before : ℕ) → first_bad cs before (looked s) ≡ behind before x
  shifted before =
      let e : before + 0 ≡ before = omega arith in
      ap (λ (k : ℕ). first_bad cs k (looked s)) (sym e) ∙ first_bad-behind cs before 0 (looked s) ∙ ap (behind before) (sym is)

  pub from-half : (before p : ℕ) → x ≡ Some p → Some (before + p) ≡ first_bad cs before (looked s)
  from-half before p e = sym (shifted before ∙ ap (behind before) e)

  pub from-none : (before : ℕ) → x ≡ None → None ≡ first_bad cs before (looked s)
  from-none before e = sym (shifted before ∙ ap (behind before) e)

  pub half-small : (p : ℕ) → x ≡ Some p → p < 2 * 65535
  half-small p e = omega (arith, first_bad-inside cs 0 (looked s) p (sym is ∙ e), length-take-most 65535 s)
