-- Laws of the first bad half, over any layout: none is told exactly where the digits are good, it is the lowest, and where it lies.
use Rattle.std.specs.Prelude.{None, Option, Some}
use Prim.Native.Nat.{ℕ, zero, suc, ◌+◌, ◌-◌, ◌*◌, ◌≤◌, ◌<◌, min}
use mathlib.Core.Path.{◌≡◌, refl, sym, ap, ap₂, ◌∙◌}
use mathlib.Core.Bool.{Bool, true, false, cond, ◌&&◌, and-false}
use mathlib.Core.List.{List, [], ◌∷◌, ◌++◌}
use native.Mathlib.Omega.{arith}
use lib.Dec.{eqb, ltb}
use lib.ListN.{length, take, drop, replicate, length-drop, drop_of_length-le}
use lib.Seq.{drop-drop, length-take-le}
use borrow.Author.Tests.{ltb-true, ltb-false, lt-ltb, le-ltb}
use Rattle.digits.specs.Halves.{bad_field, is_none, behind, or_else, Lowest}
use Rattle.digits.proofs.Bools.{no_false}
use Rattle.digits.proofs.HalfLaws.{bad_field-none, bad_field-behind, bad_field-lowest, bad-inside, lowest-either}
use Rattle.layout.specs.Cells.{Cell, raw, digits, cell_size, cell_good, size, good_cells}
use Rattle.layout.specs.Places.{cell_bad, first_bad, bad_in_cell, bad_half}

-- ---- none is told exactly where the digits are good
pub else-none : (x y : Option ℕ) → is_none (or_else x y) ≡ (is_none x && is_none y)
else-none None y = refl
else-none (Some p) y = refl

cell-none : (c : Cell) (p : ℕ) (bs : List ℕ) → length bs ≡ cell_size c → is_none (cell_bad c p bs) ≡ cell_good c bs
cell-none raw p bs l = refl
cell-none (digits n) p bs l = bad_field-none n p bs l

pub first_bad-none : (cs : List Cell) (p : ℕ) (bs : List ℕ) → size cs ≤ length bs → is_none (first_bad cs p bs) ≡ good_cells cs bs
first_bad-none [] p bs h = refl
first_bad-none (c ∷ cs) p bs h =
    else-none (cell_bad c p (take (cell_size c) bs)) (first_bad cs (p + 2 * cell_size c) (drop (cell_size c) bs))
    ∙ ap₂ ◌&&◌ (cell-none c p (take (cell_size c) bs) (length-take-le (cell_size c) bs (omega arith)))
    (first_bad-none cs (p + 2 * cell_size c) (drop (cell_size c) bs) (rw length-drop (omega arith)))

-- ---- more halves before it
else-behind : (k : ℕ) (x y : Option ℕ) → or_else (behind k x) (behind k y) ≡ behind k (or_else x y)
else-behind k None y = refl
else-behind k (Some p) y = refl

cell-behind : (c : Cell) (k p : ℕ) (bs : List ℕ) → cell_bad c (k + p) bs ≡ behind k (cell_bad c p bs)
cell-behind raw k p bs = refl
cell-behind (digits n) k p bs = bad_field-behind n k p bs

pub first_bad-behind : (cs : List Cell) (k p : ℕ) (bs : List ℕ) → first_bad cs (k + p) bs ≡ behind k (first_bad cs p bs)
first_bad-behind [] k p bs = refl
first_bad-behind (c ∷ cs) k p bs =
    let e : k + p + 2 * cell_size c ≡ k + (p + 2 * cell_size c) = omega arith in
    ap₂ or_else (cell-behind c k p (take (cell_size c) bs))
    (ap (λ (x : ℕ). first_bad cs x (drop (cell_size c) bs)) e ∙ first_bad-behind cs k (p + 2 * cell_size c) (drop (cell_size c) bs))
    ∙ else-behind k (cell_bad c p (take (cell_size c) bs)) (first_bad cs (p + 2 * cell_size c) (drop (cell_size c) bs))

-- ---- it is the lowest
cell-lowest : (c : Cell) (p : ℕ) (bs : List ℕ) → Lowest (bad_in_cell c bs) p (cell_bad c p bs)
cell-lowest raw p bs = λ q. refl
cell-lowest (digits n) p bs = bad_field-lowest n p bs

pub length-take-most : (k : ℕ) (bs : List ℕ) → length (take k bs) ≤ k
length-take-most zero bs = omega arith
length-take-most (suc k) [] = omega arith
length-take-most (suc k) (b ∷ bs) = omega (arith, length-take-most k bs)

pub length-take-less : (k : ℕ) (bs : List ℕ) → length (take k bs) ≤ length bs
length-take-less zero bs = omega arith
length-take-less (suc k) [] = omega arith
length-take-less (suc k) (b ∷ bs) = omega (arith, length-take-less k bs)

cell-inside : (c : Cell) (bs : List ℕ) (q : ℕ) → bad_in_cell c bs q ≡ true → q < 2 * length bs
cell-inside raw bs q h = absurd (no_false h)
cell-inside (digits n) bs q h = bad-inside n bs q h

pub first_bad-lowest : (cs : List Cell) (p : ℕ) (bs : List ℕ) → Lowest (bad_half cs bs) p (first_bad cs p bs)
first_bad-lowest [] p bs = λ q. refl
first_bad-lowest (c ∷ cs) p bs =
    let k = cell_size c in
    lowest-either (bad_in_cell c (take k bs)) (bad_half cs (drop k bs)) (bad_half (c ∷ cs) bs) p (2 * k)
    (cell_bad c p (take k bs)) (first_bad cs (p + 2 * k) (drop k bs))
    (cell-lowest c p (take k bs)) (first_bad-lowest cs (p + 2 * k) (drop k bs))
    (λ q h. ap (λ (t : Bool). cond t (bad_in_cell c (take k bs) q) (bad_half cs (drop k bs) (q - 2 * k))) (lt-ltb q (2 * k) h))
    (λ q h. ap (λ (t : Bool). cond t (bad_in_cell c (take k bs) q) (bad_half cs (drop k bs) (q - 2 * k))) (le-ltb q (2 * k) h))
    (λ q h. omega (arith, cell-inside c (take k bs) q h, length-take-most k bs))

-- a bad half lies within the bytes, and within the cells
pub bad_half-inside : (cs : List Cell) (bs : List ℕ) (q : ℕ) → bad_half cs bs q ≡ true → q < 2 * length bs
bad_half-inside [] bs q h = absurd (no_false h)
bad_half-inside (c ∷ cs) bs q h = go (ltb q (2 * cell_size c)) refl h (bad_half-inside cs (drop (cell_size c) bs) (q - 2 * cell_size c))
  where
    go : (t : Bool) → ltb q (2 * cell_size c) ≡ t → cond t (bad_in_cell c (take (cell_size c) bs) q) (bad_half cs (drop (cell_size c) bs) (q - 2 * cell_size c)) ≡ true
        → (bad_half cs (drop (cell_size c) bs) (q - 2 * cell_size c) ≡ true → q - 2 * cell_size c < 2 * length (drop (cell_size c) bs)) → q < 2 * length bs
    go true e b ih = omega (arith, cell-inside c (take (cell_size c) bs) q b, length-take-less (cell_size c) bs)
    go false e b ih = omega (arith, ltb-false q (2 * cell_size c) e, ih b, length-drop (cell_size c) bs)

pub bad_half-size : (cs : List Cell) (bs : List ℕ) (q : ℕ) → bad_half cs bs q ≡ true → q < 2 * size cs
bad_half-size [] bs q h = absurd (no_false h)
bad_half-size (c ∷ cs) bs q h = go (ltb q (2 * cell_size c)) refl h (bad_half-size cs (drop (cell_size c) bs) (q - 2 * cell_size c))
  where
    go : (t : Bool) → ltb q (2 * cell_size c) ≡ t → cond t (bad_in_cell c (take (cell_size c) bs) q) (bad_half cs (drop (cell_size c) bs) (q - 2 * cell_size c)) ≡ true
        → (bad_half cs (drop (cell_size c) bs) (q - 2 * cell_size c) ≡ true → q - 2 * cell_size c < 2 * size cs) → q < 2 * (cell_size c + size cs)
    go true e b ih = omega (arith, ltb-true q (2 * cell_size c) e)
    go false e b ih = omega (arith, ltb-false q (2 * cell_size c) e, ih b)

module _ (cs : List Cell) (p : ℕ) (bs : List ℕ) (q : ℕ) (e : first_bad cs p bs ≡ Some q) where
  said : (p ≤ q) × (bad_half cs bs (q - p) ≡ true)
  said = go (first_bad cs p bs) e (first_bad-lowest cs p bs)
    where
      same : (k : ℕ) → Some k ≡ Some q → k ≡ q
      same k f = cc

      go : (x : Option ℕ) → x ≡ Some q → Lowest (bad_half cs bs) p x → (p ≤ q) × (bad_half cs bs (q - p) ≡ true)
      go None f l = let z : ◌≡◌ {A = ℕ} 0 1 = cc in absurd (omega arith)
      go (Some k) f l = (omega (arith, same k f, l.0), ap (λ (x : ℕ). bad_half cs bs (x - p)) (sym (same k f)) ∙ l.1)

  pub first_bad-from : p ≤ q
  first_bad-from = said.0

  pub first_bad-inside : q < p + 2 * length bs
  first_bad-inside = omega (arith, said.0, bad_half-inside cs bs (q - p) said.1)

  pub first_bad-size : q < p + 2 * size cs
  first_bad-size = omega (arith, said.0, bad_half-size cs bs (q - p) said.1)

-- ---- no bytes, a layout and then another
take_none : (k : ℕ) → take {A = ℕ} k [] ≡ []
take_none zero = refl
take_none (suc k) = refl

drop-none : (k : ℕ) → drop {A = ℕ} k [] ≡ []
drop-none zero = refl
drop-none (suc k) = refl

cell-past : (c : Cell) (p k : ℕ) → cell_bad c p (take k []) ≡ None
cell-past raw p k = refl
cell-past (digits n) p k = ap (bad_field n p) (take_none k) ∙ ap (λ (t : Bool). cond t (Some p) None) (and-false (eqb (Prim.Native.Nat.◌%◌ n 2) 1))

pub first_bad-past : (cs : List Cell) (p : ℕ) → first_bad cs p [] ≡ None
first_bad-past [] p = refl
first_bad-past (c ∷ cs) p =
    ap₂ or_else (cell-past c p (cell_size c)) (ap (first_bad cs (p + 2 * cell_size c)) (drop-none (cell_size c)) ∙ first_bad-past cs (p + 2 * cell_size c))

else-assoc : (x y z : Option ℕ) → or_else (or_else x y) z ≡ or_else x (or_else y z)
else-assoc None y z = refl
else-assoc (Some p) y z = refl

pub first_bad-append : (cs ds : List Cell) (p : ℕ) (bs : List ℕ)
    → first_bad (cs ++ ds) p bs ≡ or_else (first_bad cs p bs) (first_bad ds (p + 2 * size cs) (drop (size cs) bs))
first_bad-append [] ds p bs = let e : p + 2 * 0 ≡ p = omega arith in ap (λ (x : ℕ). first_bad ds x bs) (sym e)
first_bad-append (c ∷ cs) ds p bs =
    let k = cell_size c in
    let e : p + 2 * k + 2 * size cs ≡ p + 2 * (k + size cs) = omega arith in
    ap (or_else (cell_bad c p (take k bs)))
    (first_bad-append cs ds (p + 2 * k) (drop k bs)
    ∙ ap₂ (λ (x : ℕ) (l : List ℕ). or_else (first_bad cs (p + 2 * k) (drop k bs)) (first_bad ds x l)) e (drop-drop (size cs) k bs))
    ∙ sym (else-assoc (cell_bad c p (take k bs)) (first_bad cs (p + 2 * k) (drop k bs)) (first_bad ds (p + 2 * (k + size cs)) (drop (k + size cs) bs)))

pub else-right : (x : Option ℕ) → or_else x None ≡ x
else-right None = refl
else-right (Some p) = refl

-- cells behind the last byte add nothing
pub first_bad-enough : (cs ds : List Cell) (p : ℕ) (bs : List ℕ) → length bs ≤ size cs → first_bad (cs ++ ds) p bs ≡ first_bad cs p bs
first_bad-enough cs ds p bs h =
    first_bad-append cs ds p bs
    ∙ ap (λ (l : List ℕ). or_else (first_bad cs p bs) (first_bad ds (p + 2 * size cs) l)) (drop_of_length-le bs h)
    ∙ ap (or_else (first_bad cs p bs)) (first_bad-past ds (p + 2 * size cs))
    ∙ else-right (first_bad cs p bs)

-- bytes handed on as they are have no bad half
pub first_bad-raws : (n p : ℕ) (bs : List ℕ) → first_bad (replicate n raw) p bs ≡ None
first_bad-raws zero p bs = refl
first_bad-raws (suc n) p bs = first_bad-raws n (p + 2) (drop 1 bs)
