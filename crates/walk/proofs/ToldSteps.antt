-- Where one move more gives 16, and where some moves do.
use Rattle.std.specs.Prelude.{Ok, Err, Result}
use Prim.Native.Nat.{ℕ, ◌+◌}
use mathlib.Core.Path.{◌≡◌, refl, sym}
use mathlib.Core.Bool.{Bool, true, false, cond, ◌&&◌}
use mathlib.Core.List.{List, [], ◌∷◌}
use mathlib.Core.Logic.{◌↔◌}
use native.Mathlib.Omega.{arith}
use lib.Dec.{eqb}
use Rattle.digits.proofs.Bools.{no_false}
use Rattle.answers.specs.Answers.{answer_number}
use Rattle.answers.specs.declared.Answer.{Answer}
use Rattle.walk.specs.Walk.{Move}
use Rattle.walk.specs.Tally.{is_skipped}
use Rattle.walk.specs.Told.{no_row, joined_row, holds, told_of, on_told, next_of, passes, told_number, next_number}
use Rattle.walk.specs.declared.rows.Row.{Row}
use Rattle.walk.specs.declared.rows.Kept.{Kept}
use Rattle.walk.specs.declared.rows.Told.{Told}
use Rattle.walk.specs.declared.rows.Told.TheVariants.{Nothing, One, Two}
use Rattle.walk.specs.declared.rows.RowsError.TheVariants.{Full}
use Rattle.walk.specs.declared.rows.RowsError.{RowsError}

-- 16 is given exactly where the place or the kept bytes cannot hold the move
pub sixteen-exactly : (k : Kept) (a : Answer) (n : ℕ) → (told_number (told_of k a n) ≡ 16) ↔ (holds k n ≡ false)
unfolding told_of
sixteen-exactly k a n = go (holds k n) (is_skipped (answer_number a)) (eqb k.skipped.bytes 0)
  where
    T : Bool → Bool → Bool → Result Told RowsError
    T h s z =
        cond h
        (cond s (Ok (Nothing (record { at = k.at + n; skipped = joined_row k.skipped (record { at = k.at; bytes = n; answer = a }) })))
        (Ok (cond z (One (record { at = k.at; bytes = n; answer = a }) (record { at = k.at + n; skipped = no_row }))
        (Two k.skipped (record { at = k.at; bytes = n; answer = a }) (record { at = k.at + n; skipped = no_row })))))
        (Err Full)

    none : ◌≡◌ {A = ℕ} 0 16 → true ≡ false
    none q = absurd (omega arith)

    go : (h s z : Bool) → (told_number (T h s z) ≡ 16) ↔ (h ≡ false)
    go true true z = (none, λ e. absurd (no_false (sym e)))
    go true false true = (none, λ e. absurd (no_false (sym e)))
    go true false false = (none, λ e. absurd (no_false (sym e)))
    go false s z = (λ e. refl, λ e. refl)

-- and of some moves exactly where one of them up to the next row cannot be held
pub next-sixteen-exactly : (ms : List (Move Answer)) (k : Kept) (at : ℕ) → (next_number (next_of ms k at) ≡ 16) ↔ (passes ms k ≡ true)
unfolding told_of
next-sixteen-exactly [] k at = (λ (e : ◌≡◌ {A = ℕ} 0 16). absurd (omega arith), λ e. absurd (no_false e))
next-sixteen-exactly (m ∷ ms) k at =
    go (holds k m.bytes) (is_skipped (answer_number m.said)) (eqb k.skipped.bytes 0) (next-sixteen-exactly ms later (at + m.bytes))
  where
    row : Row
    row = record { at = k.at; bytes = m.bytes; answer = m.said }

    later : Kept
    later = record { at = k.at + m.bytes; skipped = joined_row k.skipped row }

    T : Bool → Bool → Bool → Result Told RowsError
    T h s z =
        let alone : Kept = record { at = k.at + m.bytes; skipped = no_row } in
        cond h (cond s (Ok (Nothing later)) (Ok (cond z (One row alone) (Two k.skipped row alone)))) (Err Full)

    none : ◌≡◌ {A = ℕ} 0 16 → false ≡ true
    none q = absurd (omega arith)

    go : (h s z : Bool) → ((next_number (next_of ms later (at + m.bytes)) ≡ 16) ↔ (passes ms later ≡ true))
        → (next_number (on_told (T h s z) (at + m.bytes) (next_of ms)) ≡ 16) ↔ (cond h (s && passes ms later) true ≡ true)
    go true true z ih = ih
    go true false true ih = (none, λ e. absurd (no_false e))
    go true false false ih = (none, λ e. absurd (no_false e))
    go false s z ih = (λ e. refl, λ e. refl)
