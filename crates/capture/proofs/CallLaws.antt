-- What each call answers, return by return.
use Prim.Native.Nat.{ℕ, ◌+◌, ◌-◌, ◌*◌, ◌≤◌, ◌<◌}
use mathlib.Core.Path.{◌≡◌, refl, sym, ap, ◌∙◌}
use mathlib.Core.Bool.{Bool, true, false, not, cond, ◌&&◌}
use mathlib.Core.Logic.{◌⊎◌, inl, inr}
use mathlib.Core.List.{List}
use native.Mathlib.Omega.{arith}
use borrow.Author.Tests.{eq-eqb, ne_eqb, le-leb, lt-leb, lt-ltb, le-ltb, eqb-true, eqb-false, ltb-true, ltb-false, leb-true}
use lib.ListN.{length, replicate}
use Rattle.std.specs.Prelude.{Option, Some, None, Result, Ok, Err}
use lib.Dec.{eqb, leb, ltb}
use Rattle.capture.specs.Blocks.{used}
use Rattle.capture.specs.Captures.{whole, places, start_of, block_at, numbered, first_bad, found}
use Rattle.capture.specs.Searches.{sound_first, numbered_behind, place_in, part_in}
use Rattle.capture.specs.Calls.{cleared_of, cleared_bytes, other_size, held_of, is_finished, part_from, part_of}
use Rattle.capture.specs.declared.Unsound.{Unsound}
use Rattle.capture.specs.declared.Part.{Part}
use Rattle.capture.proofs.JudgeLaws.{judged-bad, judged-long, found-most, found_at}

module _ (m : List ℕ) where
  -- lent memory of another size
  module _ (other : length m ≡ 65536 → ⊥) where
    not-whole : whole m ≡ false
    not-whole = ne_eqb (length m) 65536 other

    pub clear-refused : (Err other_size ≡ cleared_of m) × (m ≡ cleared_bytes m)
    clear-refused = rw not-whole (refl, refl)

    pub held-refused : Err Unsound.WrongSize ≡ held_of m
    unfolding held_of
    held-refused = rw not-whole refl

  module _ (long : length m ≡ 65536) where
    is_whole : whole m ≡ true
    is_whole = eq-eqb (length m) 65536 long

    pub clear-done : (after : List ℕ) → after ≡ replicate (length m) 0 → (Ok tt ≡ cleared_of m) × (after ≡ cleared_bytes m)
    clear-done after is = rw is_whole (refl, is ∙ ap (λ (n : ℕ). replicate n 0) long)

    -- a numbered block behind the sound ones, and none
    module _ (n : ℕ) (first : n ≡ sound_first m) (o : Option ℕ) (behind : o ≡ place_in (numbered_behind m n)) where
      place-bad : o ≡ place_in (first_bad m)
      place-bad = behind ∙ ap (λ (j : ℕ). place_in (numbered_behind m j)) first ∙ ap place_in (judged-bad m)

      pub held-bad : (p : ℕ) → o ≡ Some p → Err (Unsound.BadBlock p) ≡ held_of m
      unfolding held_of
      held-bad p is = go (eqb (first_bad m) 0) refl (sym is ∙ place-bad)
        where
          go : (t : Bool) → eqb (first_bad m) 0 ≡ t → Some p ≡ cond t None (Some (first_bad m))
              → Err (Unsound.BadBlock p) ≡ cond (not (whole m)) (Err Unsound.WrongSize) (cond (not (eqb (first_bad m) 0)) (Err (Unsound.BadBlock (first_bad m))) (Ok (length (found m))))
          go true z e = let y : ◌≡◌ {A = ℕ} 0 1 = cc in absurd (omega (arith, y))
          go false z e = let same : p ≡ first_bad m = cc in rw (is_whole, z) (ap (λ (j : ℕ). Err (Unsound.BadBlock j)) same)

      pub held-blocks : o ≡ None → Ok n ≡ held_of m
      unfolding held_of
      held-blocks is = go (eqb (first_bad m) 0) refl (sym is ∙ place-bad)
        where
          go : (t : Bool) → eqb (first_bad m) 0 ≡ t → None ≡ cond t None (Some (first_bad m))
              → Ok n ≡ cond (not (whole m)) (Err Unsound.WrongSize) (cond (not (eqb (first_bad m) 0)) (Err (Unsound.BadBlock (first_bad m))) (Ok (length (found m))))
          go true z e = rw (is_whole, z) (ap Ok (first ∙ sym (judged-long m (eqb-true (first_bad m) 0 z))))
          go false z e = let y : ◌≡◌ {A = ℕ} 0 1 = cc in absurd (omega (arith, y))

-- What is said of the finished blocks decides the other answers.
abbrev pub part_by : Result ℕ Unsound → List ℕ → ℕ → Result Part Unsound
part_by (Ok n) m p = Ok (part_in m n p)
part_by (Err e) m p = Err e

module _ (m : List ℕ) where
  -- the tests of a capture, one after the other
  pub data Judged : Result ℕ Unsound → Type 0 where
    small : {h : Result ℕ Unsound} → whole m ≡ false → h ≡ Err Unsound.WrongSize → Judged h
    damaged : {h : Result ℕ Unsound} → whole m ≡ true → eqb (first_bad m) 0 ≡ false → h ≡ Err (Unsound.BadBlock (first_bad m)) → Judged h
    good : {h : Result ℕ Unsound} → whole m ≡ true → first_bad m ≡ 0 → h ≡ Ok (length (found m)) → Judged h

  pub judged : Judged (held_of m)
  unfolding held_of
  judged = go (whole m) (eqb (first_bad m) 0) refl refl
    where
      go : (t u : Bool) → whole m ≡ t → eqb (first_bad m) 0 ≡ u
          → Judged (cond (not t) (Err Unsound.WrongSize) (cond (not u) (Err (Unsound.BadBlock (first_bad m))) (Ok (length (found m)))))
      go false u w b = small w refl
      go true false w b = damaged w b refl
      go true true w b = good w (eqb-true (first_bad m) 0 b) refl

  -- what each answer says of the capture
  pub blocks-say : (n : ℕ) → Ok n ≡ held_of m → (length m ≡ 65536) × (first_bad m ≡ 0) × (n ≡ length (found m))
  blocks-say n is = go (held_of m) judged is
    where
      go : (h : Result ℕ Unsound) → Judged h → Ok n ≡ h → (length m ≡ 65536) × (first_bad m ≡ 0) × (n ≡ length (found m))
      go h (small w e) is = let z : Ok n ≡ Err Unsound.WrongSize = is ∙ e in let y : ◌≡◌ {A = ℕ} 0 1 = cc in absurd (omega (arith, y))
      go h (damaged w b e) is = let z : Ok n ≡ Err (Unsound.BadBlock (first_bad m)) = is ∙ e in let y : ◌≡◌ {A = ℕ} 0 1 = cc in absurd (omega (arith, y))
      go h (good w b e) is = let z : Ok n ≡ Ok (length (found m)) = is ∙ e in let same : n ≡ length (found m) = cc in (eqb-true (length m) 65536 w, b, same)

  -- a refusal is that of memory of another size, or of the first bad block
  pub refused-says : (u : Unsound) → Err u ≡ held_of m
      → ((whole m ≡ false) × (u ≡ Unsound.WrongSize)) ⊎ ((eqb (first_bad m) 0 ≡ false) × (u ≡ Unsound.BadBlock (first_bad m)))
  refused-says u is = go (held_of m) judged is
    where
      go : (h : Result ℕ Unsound) → Judged h → Err u ≡ h
          → ((whole m ≡ false) × (u ≡ Unsound.WrongSize)) ⊎ ((eqb (first_bad m) 0 ≡ false) × (u ≡ Unsound.BadBlock (first_bad m)))
      go h (small w e) is = let z : Err u ≡ Err Unsound.WrongSize = is ∙ e in let same : u ≡ Unsound.WrongSize = cc in inl (w, same)
      go h (damaged w b e) is = let z : Err u ≡ Err (Unsound.BadBlock (first_bad m)) = is ∙ e in let same : u ≡ Unsound.BadBlock (first_bad m) = cc in inr (b, same)
      go h (good w b e) is = let z : Err u ≡ Ok (length (found m)) = is ∙ e in let y : ◌≡◌ {A = ℕ} 0 1 = cc in absurd (omega (arith, y))

  module _ (p : ℕ) where
    -- the part at a place of a good capture
    finished-place : first_bad m ≡ 0 → cond (is_finished m p) (part_from (start_of p + 6) (used (block_at m p))) (part_from 0 0) ≡ part_in m (length (found m)) p
    unfolding is_finished part_in
    finished-place fine = go (eqb p 0) (ltb (length (found m)) p) refl refl
      where
        go : (z o : Bool) → eqb p 0 ≡ z → ltb (length (found m)) p ≡ o
            → cond (leb 1 p && (leb p places && numbered m p)) (part_from (start_of p + 6) (used (block_at m p))) (part_from 0 0)
            ≡ cond z (part_from 0 0) (cond o (part_from 0 0) (part_from (start_of p + 6) (used (block_at m p))))
        go true o z l = rw (lt-leb 1 p (omega (arith, eqb-true p 0 z))) refl
        go false true z l = rw (le-leb 1 p (omega (arith, eqb-false p 0 z))) (past (leb p places) refl)
          where
            past : (t : Bool) → leb p places ≡ t → cond (t && numbered m p) (part_from (start_of p + 6) (used (block_at m p))) (part_from 0 0) ≡ part_from 0 0
            past true h =
                rw (found_at m fine p (omega (arith, eqb-false p 0 z)) (leb-true p places h), lt-leb p (length (found m)) (omega (arith, ltb-true (length (found m)) p l))) refl
            past false h = refl
        go false false z l =
            let to : p ≤ length (found m) = omega (arith, ltb-false (length (found m)) p l) in
            let fits : p ≤ 128 = omega (arith, to, found-most m fine) in
            let from : 1 ≤ p = omega (arith, eqb-false p 0 z) in
            rw (le-leb 1 p from, le-leb p 128 fits, found_at m fine p from fits, le-leb p (length (found m)) to) refl

    pub part_by_lem : part_by (held_of m) m p ≡ part_of m p
    unfolding part_of
    part_by_lem = go (held_of m) judged
      where
        go : (h : Result ℕ Unsound) → Judged h → part_by h m p
            ≡ cond (not (whole m)) (Err Unsound.WrongSize) (cond (not (eqb (first_bad m) 0)) (Err (Unsound.BadBlock (first_bad m)))
            (Ok (cond (is_finished m p) (part_from (start_of p + 6) (used (block_at m p))) (part_from 0 0))))
        go h (small w e) = rw (w, e) refl
        go h (damaged w b e) = rw (w, b, e) refl
        go h (good w b e) = rw (w, b, e) (ap Ok (sym (finished-place b)))

  -- a part of so many finished blocks
  module _ (n p : ℕ) where
    pub no_place : p ≡ 0 → part_from 0 0 ≡ part_in m n p
    unfolding part_in
    no_place e = rw (eq-eqb p 0 e) refl

    pub past-places : (p ≡ 0 → ⊥) → n < p → part_from 0 0 ≡ part_in m n p
    unfolding part_in
    past-places ne h = rw (ne_eqb p 0 ne, lt-ltb n p h) refl

    pub a-place : (p ≡ 0 → ⊥) → p ≤ n → (k : ℕ) → k ≡ used (block_at m (p - 1 + 1)) → part_from (512 * (p - 1) + 6) k ≡ part_in m n p
    unfolding part_in
    a-place ne h k is =
        let e : p - 1 + 1 ≡ p = omega arith in
        rw (ne_eqb p 0 ne, le-ltb n p h) (ap (part_from (512 * (p - 1) + 6)) (is ∙ ap (λ (j : ℕ). used (block_at m j)) e))
