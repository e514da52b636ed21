-- The next rows of a line from a place on: one call gives the first of the rows that the moves give, and keeps what they keep.
use Rattle.std.specs.Prelude.{Ok, Err, Result}
use Prim.Native.Nat.{ℕ, ◌+◌, ◌≤◌, ◌<◌}
use mathlib.Core.Path.{◌≡◌, sym, ap}
use mathlib.Core.Bool.{Bool, true, false, cond}
use mathlib.Core.List.{List}
use native.Mathlib.Omega.{arith}
use lib.ListN.{length, drop}
use lib.Dec.{eqb}
use Rattle.answers.specs.Answers.{answer_number}
use Rattle.answers.specs.declared.Answer.{Answer}
use Rattle.walk.specs.Walk.{Reading, Move, walk_from}
use Rattle.walk.specs.Sound.{Sound}
use Rattle.walk.specs.Answers.{answering, past_of}
use Rattle.walk.specs.Tally.{is_skipped}
use Rattle.walk.specs.Told.{no_row, joined_row, holds, told_of, on_told, next_of}
use Rattle.walk.specs.declared.rows.Kept.{Kept}
use Rattle.walk.specs.declared.rows.Told.TheVariants.{Nothing, One, Two}
use Rattle.walk.specs.declared.rows.Next.{Next}
use Rattle.walk.specs.declared.rows.Next.TheVariants.{Stopped}
use Rattle.walk.proofs.AnswerLaws.{past-stops, some_left, none_left, walk_turn, walk-stop}
use Rattle.walk.specs.declared.rows.RowsError.TheVariants.{Full}
use Rattle.walk.specs.declared.rows.RowsError.{RowsError}

-- what is kept stands behind the move
pub kept-behind : (k : Kept) (a : Answer) (n : ℕ) (j : Kept) → told_of k a n ≡ Ok (Nothing j) → j.at ≡ k.at + n
unfolding told_of
kept-behind k a n j e = go (holds k n) (is_skipped (answer_number a)) (eqb k.skipped.bytes 0) e
  where
    go : (x y z : Bool)
        → cond x
        (cond y (Ok (Nothing (record { at = k.at + n; skipped = joined_row k.skipped (record { at = k.at; bytes = n; answer = a }) })))
        (Ok (cond z (One (record { at = k.at; bytes = n; answer = a }) (record { at = k.at + n; skipped = no_row }))
        (Two k.skipped (record { at = k.at; bytes = n; answer = a }) (record { at = k.at + n; skipped = no_row })))))
        (Err Full)
        ≡ Ok (Nothing j)
        → j.at ≡ k.at + n
    go true true z p = let q : (record { at = k.at + n; skipped = joined_row k.skipped (record { at = k.at; bytes = n; answer = a }) }) ≡ j = cc in sym (ap (λ (x : Kept). x.at) q)
    go true false true p = let q : ◌≡◌ {A = ℕ} 0 1 = cc in absurd (omega arith)
    go true false false p = let q : ◌≡◌ {A = ℕ} 0 1 = cc in absurd (omega arith)
    go false y z p = let q : ◌≡◌ {A = ℕ} 0 1 = cc in absurd (omega arith)

module _ (says : List ℕ → Answer) (longest : ℕ) (S : Sound (answering says) longest) where
  abbrev R : Reading Answer
  R = answering says

  -- ---- the turns of a call
  module _ (c : Bool) (line : List ℕ) where
    -- what is still to give from a place on
    abbrev pub ahead : Kept → ℕ → Result Next RowsError
    ahead k at = next_of (walk_from R c k.at (drop at line)) k at

    pub next-ends : (k : Kept) (at : ℕ) → length line ≤ at → Ok (Stopped k at) ≡ ahead k at
    next-ends k at h = sym (ap (λ (ms : List (Move Answer)). next_of ms k at) (walk-stop says longest S c line k.at at (none_left says longest S c line at h)).0)

    module _ (k : Kept) (at : ℕ) (h : at < length line) where
      pub next-stops : past_of c (says (drop at line)) ≡ 0 → Ok (Stopped k at) ≡ ahead k at
      next-stops e =
          sym (ap (λ (ms : List (Move Answer)). next_of ms k at)
          (walk-stop says longest S c line k.at at (past-stops says longest S c (drop at line) (some_left says longest S c line at h) e)).0)

      -- one move more
      pub next-told : (e : past_of c (says (drop at line)) ≡ 0 → ⊥)
          → let n = past_of c (says (drop at line)) in
          ahead k at ≡ on_told (told_of k (says (drop at line)) n) (at + n) (next_of (walk_from R c (k.at + n) (drop (at + n) line)))
      next-told e = ap (λ (ms : List (Move Answer)). next_of ms k at) (walk_turn says longest S c line k.at at h e).0
