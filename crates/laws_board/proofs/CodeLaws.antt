-- Codes compared byte for byte: what is the same is equal; a code among others, and its place.
use Prim.Native.Nat.{ℕ, suc}
use mathlib.Core.Path.{◌≡◌, refl, sym, ap, ap₂, ◌∙◌}
use mathlib.Core.Bool.{Bool, true, false, cond, ◌&&◌, ◌||◌}
use mathlib.Core.List.{List, [], ◌∷◌, ◌++◌}
use lib.Dec.{eqb}
use borrow.Author.Tests.{eqb-true, eq-eqb}
use Rattle.digits.proofs.Bools.{and_left, and_right, no_false}
use Rattle.stock_board.specs.Rows.{free_code}
use Rattle.stock_board.specs.Board.{same_code}
use Rattle.stock_board.specs.declared.Row.{Row}
use Rattle.laws_board.specs.History.{Code, among}

-- ---- sameness is equality
pub same_refl : (c : Code) → same_code c c ≡ true
same_refl [] = refl
same_refl (a ∷ s) = ap₂ (λ (t u : Bool). t && u) (eq-eqb a a refl) (same_refl s)

pub same-eq : (c d : Code) → same_code c d ≡ true → c ≡ d
same-eq [] [] e = refl
same-eq [] (b ∷ t) e = absurd (no_false e)
same-eq (a ∷ s) [] e = absurd (no_false e)
same-eq (a ∷ s) (b ∷ t) e = ap₂ (λ (x : ℕ) (l : Code). x ∷ l) (eqb-true a b (and_left (eqb a b) (same_code s t) e)) (same-eq s t (and_right (eqb a b) (same_code s t) e))

pub same-sym : (c d : Code) (t : Bool) → same_code c d ≡ t → same_code d c ≡ t
same-sym c d true e = ap₂ same_code (sym (same-eq c d e)) (same-eq c d e) ∙ e
same-sym c d false e = go (same_code d c) refl
  where
    go : (u : Bool) → same_code d c ≡ u → u ≡ false
    go false p = refl
    go true p = absurd (no_false (sym e ∙ (ap₂ same_code (sym (same-eq d c p)) (same-eq d c p) ∙ p)))

-- ---- among others
pub among-end : (x : Code) (cs : List Code) → among x (cs ++ (x ∷ [])) ≡ true
among-end x [] = ap (λ (t : Bool). t || false) (same_refl x)
among-end x (c ∷ cs) = go (same_code x c) (among-end x cs)
  where
    go : (t : Bool) {u : Bool} → u ≡ true → (t || u) ≡ true
    go true e = refl
    go false e = e

-- neither part of a test that fails holds
pub or_left : (t u : Bool) → (t || u) ≡ false → t ≡ false
or_left true u e = e
or_left false u e = refl

pub or_right : (t u : Bool) → (t || u) ≡ false → u ≡ false
or_right true u e = absurd (no_false (sym e))
or_right false u e = e

-- the place of a code
abbrev pub place_in : Code → List Code → ℕ
place_in x [] = 0
place_in x (c ∷ cs) = cond (same_code x c) 0 (suc (place_in x cs))

-- ---- codes that are all different, codes of rows, codes that no free row has
abbrev pub Distinct : List Code → Type 0
Distinct [] = Unit {0}
Distinct (c ∷ cs) = (among c cs ≡ false) × Distinct cs

abbrev pub Coded : (Code → Row) → List Code → Type 0
Coded f [] = Unit {0}
Coded f (c ∷ cs) = ((f c).code ≡ c) × Coded f cs

abbrev pub Stocks : List Code → Type 0
Stocks [] = Unit {0}
Stocks (c ∷ cs) = (same_code free_code c ≡ false) × Stocks cs
