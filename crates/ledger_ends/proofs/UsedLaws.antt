-- Behind the ends that are used stand zeros: there is nothing to look at.
use Prim.Native.Nat.{ℕ, zero, suc, ◌+◌, ◌-◌, ◌≤◌}
use native.Mathlib.Omega.{arith}
use mathlib.Core.Path.{◌≡◌, refl, sym, ap, ◌∙◌}
use mathlib.Core.Bool.{Bool, true, false, cond, ◌&&◌}
use mathlib.Core.List.{List, [], ◌∷◌}
use lib.ListN.{length, take, drop, length-drop, take-append-drop}
use lib.Seq.{take_all}
use lib.Dec.{leb}
use borrow.Author.Tests.{leb-false}
use Rattle.ledger.specs.Ends.{falling, ends_from}
use Rattle.ledger.specs.Calls.{most_number}
use Rattle.ledger.proofs.EndLaws.{falls-cons}
use Rattle.ledger.proofs.TurnLaws.{from-append, from-fewer}
use Rattle.ledger_ends.specs.Looking.{found_in}

-- all ends from a place on are those up to the last
pub rest : (k : ℕ) (es : List ℕ) → take (length es - k) (drop k es) ≡ drop k es
rest k es = take_all (length es - k) (drop k es) (omega (arith, length-drop k es))

-- zeros fall from any bound
zeros-fall : (b : ℕ) (es : List ℕ) → ends_from 1 es ≡ 0 → falling b es ≡ true
zeros-fall b [] h = refl
zeros-fall b (e ∷ es) h = go (leb 1 e) refl h (zeros-fall 0 es)
  where
    go : (t : Bool) → leb 1 e ≡ t → cond t 1 0 + ends_from 1 es ≡ 0 → (ends_from 1 es ≡ 0 → falling 0 es ≡ true) → (leb e (b - 1) && falling e es) ≡ true
    go true p h rest = absurd (omega arith)
    go false p h rest =
        let none : e ≡ 0 = omega (arith, leb-false 1 e p) in
        falls-cons b e es (omega arith) (rw none (rest (omega arith)))

falls-take : (b k : ℕ) (es : List ℕ) → ends_from 1 (drop k es) ≡ 0 → falling b (take k es) ≡ falling b es
falls-take b zero es h = sym (zeros-fall b es h)
falls-take b (suc k) [] h = refl
falls-take b (suc k) (e ∷ es) h = ap (λ (t : Bool). leb e (b - 1) && t) (falls-take e k es h)

-- what is counted in the ends before a place is counted in all, where those from it on are 0
pub counts-take : (n k : ℕ) (es : List ℕ) → 1 ≤ n → ends_from 1 (drop k es) ≡ 0 → ends_from n (take k es) ≡ ends_from n es
counts-take n k es lo h =
    let all : ends_from n es ≡ ends_from n (take k es) + ends_from n (drop k es) =
    ap (λ (t : List ℕ). ends_from n t) (sym (take-append-drop k es)) ∙ from-append n (take k es) (drop k es) in
    omega (arith, from-fewer 1 n (drop k es) lo)

-- and what is found
pub found_take : (n k : ℕ) (es : List ℕ) → 1 ≤ n → ends_from 1 (drop k es) ≡ 0 → found_in n (take k es) ≡ found_in n es
found_take n k es lo h = rw (falls-take (most_number + 1) k es h, counts-take n k es lo h) refl
