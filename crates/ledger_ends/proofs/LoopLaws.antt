-- What a turn of each loop keeps, and what the chain of settled numbers makes.
use Prim.Native.Nat.{ℕ, ◌+◌, ◌-◌, ◌≤◌, ◌<◌}
use native.Mathlib.Numerals.{add-one}
use native.Mathlib.Omega.{arith}
use mathlib.Core.Path.{◌≡◌, refl, sym, ap, ◌∙◌}
use mathlib.Core.Bool.{Bool, true, cond, ◌&&◌, and-true, and_assoc}
use mathlib.Core.List.{List, [], ◌∷◌}
use lib.ListN.{length, get_or, drop, drop_of_length-le}
use lib.Seq.{drop-cons}
use lib.Dec.{leb}
use Rattle.std.proofs.Common.{reverse}
use Rattle.std.specs.List.{fold}
use Rattle.std.proofs.lemmas.Grind.{reverse_onto}
use Rattle.std.proofs.lemmas.List.Sums.{fold-append}
use Rattle.ledger.specs.Ends.{falling, ends_from, settled_in, missing_in}

-- what is settled, from the lowest stretch up
pub folded : (es : List ℕ) → fold (λ settled e. e - settled) 0 (reverse es) ≡ settled_in es
folded [] = refl
folded (e ∷ es) =
    ap (λ xs. fold (λ settled e. e - settled) 0 xs) (reverse_onto es e [])
    ∙ fold-append (λ settled e. e - settled) 0 (reverse es) (e ∷ [])
    ∙ ap (λ settled. e - settled) (folded es)

pub at_drop : (l : List ℕ) (i : ℕ) → i < length l → drop i l ≡ get_or l i 0 ∷ drop (i + 1) l
at_drop l i h = rw add-one (drop-cons l i 0 h)

-- no end so far is out of order, and those left fall from the one before
pub falls-on : (falls : Bool) (above bound i : ℕ) (es : List ℕ) → i < length es → (falls && falling above (drop i es)) ≡ falling bound es
    → ((falls && leb (get_or es i 0) (above - 1)) && falling (get_or es i 0) (drop (i + 1) es)) ≡ falling bound es
falls-on falls above bound i es h inv =
    let b = leb (get_or es i 0) (above - 1) in
    let r = falling (get_or es i 0) (drop (i + 1) es) in
    let so : (falls && (b && r)) ≡ falling bound es = rw (at_drop es i h) at inv in
    and_assoc falls b r ∙ so

pub falls-ends : (falls : Bool) (above bound i : ℕ) (es : List ℕ) → length es ≤ i → (falls && falling above (drop i es)) ≡ falling bound es → falls ≡ falling bound es
falls-ends falls above bound i es h inv =
    let none : drop i es ≡ [] = drop_of_length-le es {i = i} h in
    let so : (falls && true) ≡ falling bound es = rw none at inv in
    sym (and-true falls) ∙ so

-- the ends counted so far and those left
pub counts-on : (from n i : ℕ) (es : List ℕ) → i < length es → from + ends_from n (drop i es) ≡ ends_from n es
    → (from + cond (leb n (get_or es i 0)) 1 0) + ends_from n (drop (i + 1) es) ≡ ends_from n es
counts-on from n i es h inv =
    let so : from + (cond (leb n (get_or es i 0)) 1 0 + ends_from n (drop (i + 1) es)) ≡ ends_from n es = rw (at_drop es i h) at inv in
    omega arith

pub counts-ends : (from n i : ℕ) (es : List ℕ) → length es ≤ i → from + ends_from n (drop i es) ≡ ends_from n es → from ≡ ends_from n es
counts-ends from n i es h inv =
    let none : drop i es ≡ [] = drop_of_length-le es {i = i} h in
    let so : from + 0 ≡ ends_from n es = rw none at inv in
    omega arith

-- of no ends none is missing
pub none-missing : (es : List ℕ) → length es ≡ 0 → 0 ≡ missing_in es
none-missing [] h = refl
none-missing (e ∷ es) h = absurd (omega arith)
