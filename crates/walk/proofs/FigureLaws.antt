-- The figures of a walk add up to the line's length, and each move says what the reading says at its place.
use Prim.Native.Nat.{ℕ, ◌+◌, ◌-◌, ◌≤◌}
use mathlib.Core.Path.{◌≡◌, refl, sym, ap, ◌∙◌}
use mathlib.Core.Bool.{Bool, true, false, cond, not, ◌||◌}
use mathlib.Core.List.{List, [], ◌∷◌}
use native.Mathlib.Omega.{arith}
use lib.ListN.{length, drop, length-drop}
use lib.Seq.{drop-drop}
use lib.Dec.{eqb, leb}
use borrow.Author.Tests.{eqb-true, leb-true}
use Rattle.walk.specs.Walk.{Reading, Move, taken, stops, walk_from, walk, rest_of, Each}
use Rattle.walk.specs.Sound.{Sound}
use Rattle.walk.specs.Tally.{is_accepted, is_refused, is_skipped, bytes_of, tally_of}
use Rattle.walk.proofs.WalkLaws.{front, step, behind, takes-within, walk-stops, walk-moves, walk-induct}

-- ---- sums
-- a number is of one kind
pub one-kind : (n b : ℕ) → cond (is_accepted n) b 0 + cond (is_refused n) b 0 + cond (is_skipped n) b 0 ≡ b
one-kind n b = go (eqb n 0) (leb 6 n) refl refl
  where
    go : (x y : Bool) → eqb n 0 ≡ x → leb 6 n ≡ y → cond x b 0 + cond y b 0 + cond (not (x || y)) b 0 ≡ b
    go true true p q = absurd (omega (arith, eqb-true n 0 p, leb-true 6 n q))
    go true false p q = omega arith
    go false true p q = omega arith
    go false false p q = omega arith

module _ {A : Type 0} (R : Reading A) (longest : ℕ) (S : Sound R longest) where
  abbrev total : List (Move A) → ℕ
  total ms = bytes_of R is_accepted ms + bytes_of R is_refused ms + bytes_of R is_skipped ms

  total-cons : (m : Move A) (ms : List (Move A)) → total (m ∷ ms) ≡ m.bytes + total ms
  total-cons m ms = let one = one-kind (R.number m.said) m.bytes in omega (arith, one)

  -- the bytes of the moves and those that wait are all the bytes
  pub adds-up : (c : Bool) (at : ℕ) (t : List ℕ) → total (walk_from R c at t) + length (rest_of R c t) ≡ length t
  adds-up c = walk-induct R longest S c (λ at t. total (walk_from R c at t) + length (rest_of R c t) ≡ length t) stopped moved
    where
      stopped : (at : ℕ) (t : List ℕ) → stops R c t ≡ true → total (walk_from R c at t) + length (rest_of R c t) ≡ length t
      stopped at t e = let s = walk-stops R longest S c at t e in (λ i. total (s.0 i) + length (s.1 i)) ∙ omega arith

      moved : (at : ℕ) (t : List ℕ) → stops R c t ≡ false → total (walk_from R c (at + step R t) (behind R t)) + length (rest_of R c (behind R t)) ≡ length (behind R t)
          → total (walk_from R c at t) + length (rest_of R c t) ≡ length t
      moved at t e ih =
          let m = walk-moves R longest S c at t e in
          let n : length (behind R t) ≡ length t - step R t = length-drop (step R t) t in
          let one = total-cons (front R at t) (walk_from R c (at + step R t) (behind R t)) in
          (λ i. total (m.0 i) + length (m.1 i)) ∙ omega (arith, one, ih, n, takes-within R longest S c t e)

  -- the four figures of a walk over a line add up to its length
  pub figures-add-up : (c : Bool) (line : List ℕ)
      → let t = tally_of R c line in t.accepted + t.refused + t.skipped + t.waiting ≡ length line
  unfolding tally_of
  figures-add-up c line = adds-up c 0 line

  -- ---- each move
  each_map : (P Q : Move A → Type 0) → ((m : Move A) → P m → Q m) → (ms : List (Move A)) → Each P ms → Each Q ms
  each_map P Q f [] h = tt
  each_map P Q f (m ∷ ms) h = (f m h.0, each_map P Q f ms h.1)

  -- a move over some bytes from a place on: it says what the reading says at its own place, and takes what that takes
  abbrev pub MoveOf : ℕ → List ℕ → Move A → Type 0
  MoveOf at t m = (at ≤ m.at) × (m.said ≡ R.says (drop (m.at - at) t)) × (m.bytes ≡ taken R m.said)

  pub each-says : (c : Bool) (at : ℕ) (t : List ℕ) → Each (MoveOf at t) (walk_from R c at t)
  each-says c = walk-induct R longest S c (λ at t. Each (MoveOf at t) (walk_from R c at t)) stopped moved
    where
      stopped : (at : ℕ) (t : List ℕ) → stops R c t ≡ true → Each (MoveOf at t) (walk_from R c at t)
      stopped at t e = rw (walk-stops R longest S c at t e).0 tt

      later : (at : ℕ) (t : List ℕ) (m : Move A) → MoveOf (at + step R t) (behind R t) m → MoveOf at t m
      later at t m h =
          let far : step R t + (m.at - (at + step R t)) ≡ m.at - at = omega (arith, h.0) in
          (omega (arith, h.0), h.1 ∙ ap R.says (drop-drop (m.at - (at + step R t)) (step R t) t) ∙ ap (λ (k : ℕ). R.says (drop k t)) far, h.2)

      moved : (at : ℕ) (t : List ℕ) → stops R c t ≡ false → Each (MoveOf (at + step R t) (behind R t)) (walk_from R c (at + step R t) (behind R t))
          → Each (MoveOf at t) (walk_from R c at t)
      moved at t e ih =
          let zero-far : at - at ≡ 0 = omega arith in
          rw (walk-moves R longest S c at t e).0
          (((omega arith, sym (ap (λ (k : ℕ). R.says (drop k t)) zero-far), refl), each_map (MoveOf (at + step R t) (behind R t)) (MoveOf at t) (later at t) (walk_from R c (at + step R t) (behind R t)) ih))

  -- on a line each move says what the reading says from its place on
  pub walk-says : (c : Bool) (line : List ℕ) → Each (λ m. m.said ≡ R.says (drop m.at line)) (walk R c line)
  walk-says c line =
      each_map (MoveOf 0 line) (λ m. m.said ≡ R.says (drop m.at line))
      (λ m h. let far : m.at - 0 ≡ m.at = omega arith in h.1 ∙ ap (λ (k : ℕ). R.says (drop k line)) far) (walk R c line) (each-says c 0 line)
