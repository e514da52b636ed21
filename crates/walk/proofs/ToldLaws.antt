-- One move more gives the rows that the moves give, and keeps what they keep.
use Rattle.std.specs.Prelude.{Ok, Err, Result}
use Prim.Native.Nat.{ℕ, ◌+◌, ◌≤◌}
use mathlib.Core.Path.{◌≡◌, refl, sym, ap, ◌∙◌}
use mathlib.Core.Bool.{Bool, true, false, cond, not, ◌&&◌}
use mathlib.Core.List.{List, [], ◌∷◌, ◌++◌}
use native.Mathlib.Omega.{arith}
use lib.Dec.{eqb, leb}
use borrow.Author.Tests.{ne_eqb, eqb-true, le-leb, leb-true}
use Rattle.digits.proofs.Bools.{and_left, and_right, and_both, no_false}
use Rattle.answers.specs.Answers.{answer_number}
use Rattle.answers.specs.declared.Answer.{Answer}
use Rattle.walk.specs.Walk.{Reading, Move, is_whole}
use Rattle.walk.specs.Answers.{answering}
use Rattle.walk.specs.Tally.{is_skipped, largest}
use Rattle.walk.specs.Pieces.{grown, given}
use Rattle.walk.specs.Told.{move_of, no_row, joined_row, holds, told_of}
use Rattle.walk.specs.declared.rows.Row.{Row}
use Rattle.walk.specs.declared.rows.Kept.{Kept}
use Rattle.walk.specs.declared.rows.Told.{Told}
use Rattle.walk.specs.declared.rows.Told.TheVariants.{Nothing, One, Two}
use Rattle.walk.specs.declared.rows.RowsError.TheVariants.{Full}
use Rattle.walk.specs.declared.rows.RowsError.{RowsError}

-- the kept skipped bytes as rows: none, or one
abbrev pub run_of : Row → List (Move Answer)
run_of s = cond (eqb s.bytes 0) [] (move_of s ∷ [])

-- joining is growing, as long as the new bytes are some
run-joined : (s r : Row) → 1 ≤ r.bytes → run_of (joined_row s r) ≡ grown (run_of s) (move_of r)
run-joined s r h = go (eqb s.bytes 0) refl
  where
    go : (b : Bool) → eqb s.bytes 0 ≡ b
        → run_of (cond b r (record { at = s.at; bytes = s.bytes + r.bytes; answer = s.answer })) ≡ grown (cond b [] (move_of s ∷ [])) (move_of r)
    go true e = rw (ne_eqb r.bytes 0 (λ q. omega (arith, q)))
    go false e = rw (ne_eqb (s.bytes + r.bytes) 0 (λ q. omega (arith, q)))

-- the rows that a call tells, and what it keeps
abbrev pub told_rows : Result Told RowsError → List (Move Answer)
told_rows (Ok (Nothing k)) = []
told_rows (Ok (One r k)) = move_of r ∷ []
told_rows (Ok (Two s r k)) = move_of s ∷ move_of r ∷ []
told_rows (Err Full) = []

abbrev pub kept_by : Kept → Result Told RowsError → Kept
kept_by k (Ok (Nothing j)) = j
kept_by k (Ok (One r j)) = j
kept_by k (Ok (Two s r j)) = j
kept_by k (Err Full) = k

module _ (says : List ℕ → Answer) (k : Kept) (a : Answer) (n : ℕ) (h : holds k n ≡ true) (some : 1 ≤ n) where
  abbrev R : Reading Answer
  R = answering says

  abbrev row : Row
  row = record { at = k.at; bytes = n; answer = a }

  abbrev later : Kept
  later = kept_by k (told_of k a n)

  -- what one call tells comes first among the rows that the moves give, and the rest follows from what it keeps
  pub told-gives : (c : Bool) (ms : List (Move Answer))
      → (given R c (run_of k.skipped) (move_of row ∷ ms) ≡ told_rows (told_of k a n) ++ given R c (run_of later.skipped) ms)
      × (later.at ≡ k.at + n)
      × (later.skipped.bytes ≤ k.skipped.bytes + n)
  unfolding told_of
  told-gives c ms = rw h (go (is_whole (answer_number a)) (eqb k.skipped.bytes 0) refl)
    where
      T : Bool → Bool → Result Told RowsError
      T w z = cond (not w) (Ok (Nothing (record { at = k.at + n; skipped = joined_row k.skipped row })))
          (Ok (cond z (One row (record { at = k.at + n; skipped = no_row })) (Two k.skipped row (record { at = k.at + n; skipped = no_row }))))

      joined_bytes : (b : Bool) → (cond b row (record { at = k.skipped.at; bytes = k.skipped.bytes + n; answer = k.skipped.answer })).bytes ≤ k.skipped.bytes + n
      joined_bytes true = omega arith
      joined_bytes false = omega arith

      go : (w z : Bool) → eqb k.skipped.bytes 0 ≡ z
          → (cond (not w) (given R c (grown (run_of k.skipped) (move_of row)) ms) (run_of k.skipped ++ (move_of row ∷ given R c [] ms))
          ≡ told_rows (T w z) ++ given R c (run_of (kept_by k (T w z)).skipped) ms)
          × ((kept_by k (T w z)).at ≡ k.at + n)
          × ((kept_by k (T w z)).skipped.bytes ≤ k.skipped.bytes + n)
      go false z e =
          let g = sym (run-joined k.skipped row some) in
          (ap (λ (l : List (Move Answer)). given R c l ms) g, refl, joined_bytes (eqb k.skipped.bytes 0))
      go true true e = rw e ((refl, refl, omega arith))
      go true false e = rw e ((refl, refl, omega arith))

-- ---- skipped bytes at once
-- as many skipped bytes at once give what they give one after the other
module _ (k : Kept) (a : Answer) (skip : is_skipped (answer_number a) ≡ true) (n m : ℕ) (some : 1 ≤ n) where
  abbrev first : Row
  first = record { at = k.at; bytes = n; answer = a }

  -- what is kept of the first ones
  abbrev pub half : Kept
  half = record { at = k.at + n; skipped = joined_row k.skipped first }

  joined-twice : joined_row (joined_row k.skipped first) (record { at = k.at + n; bytes = m; answer = a }) ≡ joined_row k.skipped (record { at = k.at; bytes = n + m; answer = a })
  joined-twice = go (eqb k.skipped.bytes 0) refl
    where
      sum : k.skipped.bytes + n + m ≡ k.skipped.bytes + (n + m)
      sum = omega arith

      go : (b : Bool) → eqb k.skipped.bytes 0 ≡ b
          → joined_row (cond b first (record { at = k.skipped.at; bytes = k.skipped.bytes + n; answer = k.skipped.answer })) (record { at = k.at + n; bytes = m; answer = a })
          ≡ cond b (record { at = k.at; bytes = n + m; answer = a }) (record { at = k.skipped.at; bytes = k.skipped.bytes + (n + m); answer = k.skipped.answer })
      go true e = rw (ne_eqb n 0 (λ q. omega (arith, q, some)))
      go false e = rw (ne_eqb (k.skipped.bytes + n) 0 (λ q. omega (arith, q, some))) (λ i. record { at = k.skipped.at; bytes = sum i; answer = k.skipped.answer })

  same_bytes : (joined_row k.skipped first).bytes + m ≡ k.skipped.bytes + (n + m)
  same_bytes = go (eqb k.skipped.bytes 0) refl
    where
      go : (b : Bool) → eqb k.skipped.bytes 0 ≡ b
          → (cond b first (record { at = k.skipped.at; bytes = k.skipped.bytes + n; answer = k.skipped.answer })).bytes + m ≡ k.skipped.bytes + (n + m)
      go true e = omega (arith, eqb-true k.skipped.bytes 0 e)
      go false e = omega arith

  same_place : k.at + n + m ≡ k.at + (n + m)
  same_place = omega arith

  pub told-half : holds k n ≡ true → told_of k a n ≡ Ok (Nothing half)
  unfolding told_of
  told-half h = rw (h, skip)

  pub told-twice : told_of half a m ≡ told_of k a (n + m)
  unfolding told_of
  told-twice =
      rw skip
      (λ i. cond (leb (same_place i) largest && leb (same_bytes i) largest) (Ok (Nothing (record { at = same_place i; skipped = joined-twice i }))) (Err Full))

  -- room for all is room for the first ones
  no_more : holds k n ≡ false → holds k (n + m) ≡ false
  no_more h = go (holds k (n + m)) refl
    where
      go : (b : Bool) → holds k (n + m) ≡ b → b ≡ false
      go false e = refl
      go true e =
          let x = leb-true (k.at + (n + m)) largest (and_left _ _ e) in
          let y = leb-true (k.skipped.bytes + (n + m)) largest (and_right (leb (k.at + (n + m)) largest) _ e) in
          absurd (no_false (sym h ∙ and_both (le-leb (k.at + n) largest (omega (arith, x))) (le-leb (k.skipped.bytes + n) largest (omega (arith, y)))))

  pub told-full : holds k n ≡ false → (told_of k a n ≡ Err Full) × (told_of k a (n + m) ≡ Err Full)
  unfolding told_of
  told-full h = (rw h, rw (no_more h))
