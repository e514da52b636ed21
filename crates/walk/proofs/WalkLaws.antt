-- A walk by its moves: it stops, or it takes one move and goes on behind it.
use Prim.Native.Nat.{ℕ, zero, suc, ◌+◌, ◌-◌, ◌≤◌}
use mathlib.Core.Path.{◌≡◌, refl, sym, ap, ◌∙◌}
use mathlib.Core.Bool.{Bool, true, false, cond, not, ◌||◌}
use mathlib.Core.List.{List, [], ◌∷◌}
use native.Mathlib.Omega.{arith}
use lib.ListN.{length, drop, length-drop}
use Rattle.digits.proofs.Bools.{no_false}
use Rattle.walk.specs.Walk.{Reading, Move, is_whole, taken, stops, moves, left, walk_from, rest_of}
use Rattle.walk.specs.Sound.{Sound}

-- the move at the front of some bytes, the bytes that it takes, and the bytes behind it
abbrev pub front : {A : Type 0} → Reading A → ℕ → List ℕ → Move A
front R at t = record { at = at; said = R.says t; bytes = taken R (R.says t) }

abbrev pub step : {A : Type 0} → Reading A → List ℕ → ℕ
step R t = taken R (R.says t)

abbrev pub behind : {A : Type 0} → Reading A → List ℕ → List ℕ
behind R t = drop (taken R (R.says t)) t

module _ {A : Type 0} (R : Reading A) (longest : ℕ) (S : Sound R longest) where
  pub stops-at-end : (c : Bool) (t : List ℕ) → length t ≡ 0 → stops R c t ≡ true
  stops-at-end c [] h = rw S.nothing (go c)
    where
      go : (b : Bool) → (not b || true) ≡ true
      go true = refl
      go false = refl
  stops-at-end c (b ∷ bs) h = absurd (omega arith)

  pub moves-before-end : (c : Bool) (t : List ℕ) → stops R c t ≡ false → 1 ≤ length t
  moves-before-end c [] h = absurd (no_false (sym h ∙ stops-at-end c [] refl))
  moves-before-end c (b ∷ bs) h = omega arith

  pub takes-some : (t : List ℕ) → 1 ≤ step R t
  takes-some t = go (is_whole (R.number (R.says t))) refl
    where
      go : (w : Bool) → is_whole (R.number (R.says t)) ≡ w → 1 ≤ cond w (R.size (R.says t)) 1
      go true e = S.some t e
      go false e = omega arith

  pub takes-within : (c : Bool) (t : List ℕ) → stops R c t ≡ false → step R t ≤ length t
  takes-within c t h = go (is_whole (R.number (R.says t))) refl
    where
      go : (w : Bool) → is_whole (R.number (R.says t)) ≡ w → cond w (R.size (R.says t)) 1 ≤ length t
      go true e = S.inside t e
      go false e = moves-before-end c t h

  pub behind-less : (t : List ℕ) → length (behind R t) ≤ length t - 1
  behind-less t = rw length-drop (omega (arith, takes-some t))

  -- k turns are enough as soon as there are no more bytes than k
  enough : (c : Bool) (j k at : ℕ) (t : List ℕ) → length t ≤ j → length t ≤ k
      → (moves R c j at t ≡ moves R c k at t) × (left R c j t ≡ left R c k t)
  enough c zero zero at t hj hk = (refl, refl)
  enough c zero (suc k) at t hj hk = rw (stops-at-end c t (omega arith)) ((refl, refl))
  enough c (suc j) zero at t hj hk = rw (stops-at-end c t (omega arith)) ((refl, refl))
  enough c (suc j) (suc k) at t hj hk = go (stops R c t) refl (λ x y. enough c j k (at + step R t) (behind R t) x y)
    where
      go : (b : Bool) → stops R c t ≡ b
          → (length (behind R t) ≤ j → length (behind R t) ≤ k
          → (moves R c j (at + step R t) (behind R t) ≡ moves R c k (at + step R t) (behind R t)) × (left R c j (behind R t) ≡ left R c k (behind R t)))
          → (cond b [] (front R at t ∷ moves R c j (at + step R t) (behind R t)) ≡ cond b [] (front R at t ∷ moves R c k (at + step R t) (behind R t)))
          × (cond b t (left R c j (behind R t)) ≡ cond b t (left R c k (behind R t)))
      go true e ih = (refl, refl)
      go false e ih =
          let less = behind-less t in
          let some = moves-before-end c t e in
          let h = ih (omega (arith, less, some)) (omega (arith, less, some)) in
          (ap (λ (ms : List (Move A)). front R at t ∷ ms) h.0, h.1)

  -- a walk that stops
  pub walk-stops : (c : Bool) (at : ℕ) (t : List ℕ) → stops R c t ≡ true → (walk_from R c at t ≡ []) × (rest_of R c t ≡ t)
  walk-stops c at [] e = (refl, refl)
  walk-stops c at (b ∷ bs) e = rw e ((refl, refl))

  -- a walk that moves
  pub walk-moves : (c : Bool) (at : ℕ) (t : List ℕ) → stops R c t ≡ false
      → (walk_from R c at t ≡ front R at t ∷ walk_from R c (at + step R t) (behind R t)) × (rest_of R c t ≡ rest_of R c (behind R t))
  walk-moves c at [] e = absurd (no_false (sym e ∙ stops-at-end c [] refl))
  walk-moves c at (b ∷ bs) e =
      let t = b ∷ bs in
      let ih = enough c (length bs) (length (behind R t)) (at + step R t) (behind R t) (omega (arith, behind-less t)) (omega arith) in
      rw e ((ap (λ (ms : List (Move A)). front R at t ∷ ms) ih.0, ih.1))

  -- ---- induction over a walk
  module _ (c : Bool) (P : ℕ → List ℕ → Type 0)
      (stopped : (at : ℕ) (t : List ℕ) → stops R c t ≡ true → P at t)
      (moved : (at : ℕ) (t : List ℕ) → stops R c t ≡ false → P (at + step R t) (behind R t) → P at t) where
    within : (k at : ℕ) (t : List ℕ) → length t ≤ k → P at t
    within zero at t h = stopped at t (stops-at-end c t (omega arith))
    within (suc k) at t h = go (stops R c t) refl (λ x. within k (at + step R t) (behind R t) x)
      where
        go : (b : Bool) → stops R c t ≡ b → (length (behind R t) ≤ k → P (at + step R t) (behind R t)) → P at t
        go true e ih = stopped at t e
        go false e ih = moved at t e (ih (omega (arith, behind-less t)))

    -- what holds where a walk stops, and of bytes if of those behind their first move, holds of all bytes
    pub walk-induct : (at : ℕ) (t : List ℕ) → P at t
    walk-induct at t = within (length t) at t (omega arith)
