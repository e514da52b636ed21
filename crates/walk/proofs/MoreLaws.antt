-- Bytes that follow take no move back: only what waits may turn into further moves.
use Prim.Native.Nat.{ℕ, ◌+◌, ◌-◌, ◌≤◌, ◌<◌}
use mathlib.Core.Path.{◌≡◌, refl, sym, ap, ◌∙◌}
use mathlib.Core.Bool.{Bool, true, false, not, ◌&&◌, ◌||◌}
use mathlib.Core.List.{List, ◌∷◌, ◌++◌}
use native.Mathlib.Omega.{arith}
use lib.ListN.{length, drop, length-drop}
use lib.Seq.{drop-append-le, drop-drop}
use lib.Dec.{eqb}
use borrow.Author.Tests.{eqb-true, eqb-false}
use Rattle.digits.proofs.Bools.{and_left, and_right}
use Rattle.walk.specs.Walk.{Reading, Move, taken, stops, walk_from, rest_of}
use Rattle.walk.specs.Sound.{Sound}
use Rattle.walk.specs.Pieces.{reach}
use Rattle.walk.proofs.WalkLaws.{front, step, behind, takes-within, behind-less, walk-stops, walk-moves, walk-induct}

module _ {A : Type 0} (R : Reading A) (longest : ℕ) (S : Sound R longest) where
  -- ---- what waits
  pub rest-within : (c : Bool) (t : List ℕ) → length (rest_of R c t) ≤ length t
  rest-within c t = walk-induct R longest S c (λ at l. length (rest_of R c l) ≤ length l) stopped moved 0 t
    where
      stopped : (at : ℕ) (l : List ℕ) → stops R c l ≡ true → length (rest_of R c l) ≤ length l
      stopped at l e = rw (walk-stops R longest S c at l e).1 (omega arith)

      moved : (at : ℕ) (l : List ℕ) → stops R c l ≡ false → length (rest_of R c (behind R l)) ≤ length (behind R l) → length (rest_of R c l) ≤ length l
      moved at l e ih = rw (walk-moves R longest S c at l e).1 (omega (arith, ih, behind-less R longest S l))

  -- what a walk that moves reaches
  pub reach-moves : (c : Bool) (t : List ℕ) → stops R c t ≡ false → reach R c t ≡ step R t + reach R c (behind R t)
  reach-moves c t e =
      let same = ap length (walk-moves R longest S c 0 t e).1 in
      let n : length (behind R t) ≡ length t - step R t = length-drop (step R t) t in
      omega (arith, same, n, rest-within c (behind R t), takes-within R longest S c t e)

  pub reach-stops : (c : Bool) (t : List ℕ) → stops R c t ≡ true → reach R c t ≡ 0
  reach-stops c t e = let same = ap length (walk-stops R longest S c 0 t e).1 in omega (arith, same)

  -- what waits is the end of the bytes
  pub rest-is-end : (c : Bool) (t : List ℕ) → rest_of R c t ≡ drop (reach R c t) t
  rest-is-end c t = walk-induct R longest S c (λ at l. rest_of R c l ≡ drop (reach R c l) l) stopped moved 0 t
    where
      stopped : (at : ℕ) (l : List ℕ) → stops R c l ≡ true → rest_of R c l ≡ drop (reach R c l) l
      stopped at l e = (walk-stops R longest S c at l e).1 ∙ sym (ap (λ (n : ℕ). drop n l) (reach-stops c l e))

      moved : (at : ℕ) (l : List ℕ) → stops R c l ≡ false → rest_of R c (behind R l) ≡ drop (reach R c (behind R l)) (behind R l) → rest_of R c l ≡ drop (reach R c l) l
      moved at l e ih =
          (walk-moves R longest S c at l e).1 ∙ ih ∙ drop-drop (reach R c (behind R l)) (step R l) l
          ∙ sym (ap (λ (n : ℕ). drop n l) (reach-moves c l e))

  -- a walk stops where its rest begins, not for want of turns
  pub rest-stops : (c : Bool) (t : List ℕ) → stops R c (rest_of R c t) ≡ true
  rest-stops c t = walk-induct R longest S c (λ at l. stops R c (rest_of R c l) ≡ true) stopped moved 0 t
    where
      stopped : (at : ℕ) (l : List ℕ) → stops R c l ≡ true → stops R c (rest_of R c l) ≡ true
      stopped at l e = ap (stops R c) (walk-stops R longest S c at l e).1 ∙ e

      moved : (at : ℕ) (l : List ℕ) → stops R c l ≡ false → stops R c (rest_of R c (behind R l)) ≡ true → stops R c (rest_of R c l) ≡ true
      moved at l e ih = ap (stops R c) (walk-moves R longest S c at l e).1 ∙ ih

  -- fewer bytes wait than the longest frame has
  pub rest-short : (t : List ℕ) → length (rest_of R false t) < longest
  rest-short t = S.short (rest_of R false t) (eqb-true (R.number (R.says (rest_of R false t))) 2 (and_left _ _ (rest-stops false t)))

  -- on a closed line nothing waits
  pub rest-closed : (t : List ℕ) → length (rest_of R true t) ≡ 0
  rest-closed t = eqb-true (length (rest_of R true t)) 0 (and_right (eqb (R.number (R.says (rest_of R true t))) 2) _ (rest-stops true t))

  -- ---- bytes that follow
  module _ (u : List ℕ) where
    -- a move is the same
    pub settled_says : (c : Bool) (t : List ℕ) → stops R false t ≡ false → (R.says (t ++ u) ≡ R.says t) × (stops R c (t ++ u) ≡ false)
    settled_says c t e =
        let two : eqb (R.number (R.says t)) 2 ≡ false = go (eqb (R.number (R.says t)) 2) e in
        let same = S.settled t u (eqb-false (R.number (R.says t)) 2 two) in
        (same, ap (λ (a : A). eqb (R.number a) 2 && (not c || eqb (length (t ++ u)) 0)) same ∙ ap (λ (b : Bool). b && (not c || eqb (length (t ++ u)) 0)) two)
      where
        go : (b : Bool) → (b && true) ≡ false → b ≡ false
        go true p = p
        go false p = refl

    -- every move stays, and the walk goes on from what waits
    abbrev pub GoesOn : Bool → ℕ → List ℕ → Type 0
    GoesOn c at t =
        (walk_from R c at (t ++ u) ≡ walk_from R false at t ++ walk_from R c (at + reach R false t) (rest_of R false t ++ u))
        × (rest_of R c (t ++ u) ≡ rest_of R c (rest_of R false t ++ u))

    -- bytes that follow an open line keep every move, and go on from what waits
    pub walk_more : (c : Bool) (at : ℕ) (t : List ℕ) → GoesOn c at t
    walk_more c = walk-induct R longest S false (GoesOn c) stopped moved
      where
        stopped : (at : ℕ) (t : List ℕ) → stops R false t ≡ true → GoesOn c at t
        stopped at t e =
            let s = walk-stops R longest S false at t e in
            let far : at + reach R false t ≡ at = omega (arith, reach-stops false t e) in (
              sym (λ i. s.0 i ++ walk_from R c (far i) (s.1 i ++ u)),
              sym (ap (λ (l : List ℕ). rest_of R c (l ++ u)) s.1),
            )

        moved : (at : ℕ) (t : List ℕ) → stops R false t ≡ false → GoesOn c (at + step R t) (behind R t) → GoesOn c at t
        moved at t e ih =
            let s = settled_says c t e in
            let n : step R (t ++ u) ≡ step R t = ap (taken R) s.0 in
            let b : behind R (t ++ u) ≡ behind R t ++ u = ap (λ (k : ℕ). drop k (t ++ u)) n ∙ drop-append-le (step R t) t u (takes-within R longest S false t e) in
            let m = walk-moves R longest S c at (t ++ u) s.1 in
            let o = walk-moves R longest S false at t e in
            let far : (at + step R t) + reach R false (behind R t) ≡ at + reach R false t = omega (arith, reach-moves false t e) in (
              m.0
                  ∙ (λ i. record { at = at; said = s.0 i; bytes = n i } ∷ walk_from R c (at + n i) (b i))
                  ∙ ap (λ (l : List (Move A)). front R at t ∷ l) ih.0
                  ∙ (λ i. sym o.0 i ++ walk_from R c (far i) (sym o.1 i ++ u)),
              m.1 ∙ ap (rest_of R c) b ∙ ih.1 ∙ sym (ap (λ (l : List ℕ). rest_of R c (l ++ u)) o.1),
            )
