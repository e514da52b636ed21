-- What each call on a capture returns, by its tests.
use Rattle.std.specs.Prelude.{Result, Ok, Err}
use Prim.Native.Nat.{ℕ, ◌+◌}
use mathlib.Core.Path.{◌≡◌, refl}
use mathlib.Core.Bool.{Bool, true, false, not, cond}
use mathlib.Core.List.{List, [], ◌∷◌}
use lib.ListN.{length}
use lib.Dec.{eqb}
use Rattle.capture.specs.Blocks.{used}
use Rattle.capture.specs.Captures.{whole, start_of, block_at, first_bad, first_unfinished, found}
use Rattle.capture.specs.Calls.{cleared_number, cleared_of, cleared_bytes, fresh, held_number, held_values, held_of, is_finished, part_from, other_size, part_number, part_values, part_of}
use Rattle.capture.specs.declared.Unsound.{Unsound}
use Rattle.capture.specs.declared.Part.{Part}
use Rattle.capture_append.specs.Appending.{misfit, taken_number, taken_values, taken_of, bytes_at, taken_bytes}
use Rattle.capture_append.specs.declared.AppendError.{AppendError}
use Rattle.laws_capture.specs.Values.{beside, Returns}

module _ (m : List ℕ) where
  held-returns : held_values (held_of m) ≡ beside m (held_number (held_of m)) (length (found m) ∷ [])
  unfolding held_of
  held-returns = go (whole m) (eqb (first_bad m) 0)
    where
      told : Bool → Bool → Result ℕ Unsound
      told w g = cond (not w) (Err Unsound.WrongSize) (cond (not g) (Err (Unsound.BadBlock (first_bad m))) (Ok (length (found m))))

      go : (w g : Bool) → held_values (told w g) ≡ beside m (held_number (told w g)) (length (found m) ∷ [])
      go true true = refl
      go true false = refl
      go false g = refl

  part-returns : (p : ℕ) → part_values (part_of m p)
      ≡ beside m (part_number (part_of m p)) (cond (is_finished m p) ((start_of p + 6) ∷ used (block_at m p) ∷ []) (0 ∷ 0 ∷ []))
  unfolding part_of
  part-returns p = go (whole m) (eqb (first_bad m) 0) (is_finished m p)
    where
      told : Bool → Bool → Bool → Result Part Unsound
      told w g f =
          cond (not w) (Err Unsound.WrongSize) (cond (not g) (Err (Unsound.BadBlock (first_bad m))) (Ok (cond f (part_from (start_of p + 6) (used (block_at m p))) (part_from 0 0))))

      go : (w g f : Bool) → part_values (told w g f) ≡ beside m (part_number (told w g f)) (cond f ((start_of p + 6) ∷ used (block_at m p) ∷ []) (0 ∷ 0 ∷ []))
      go true true true = refl
      go true true false = refl
      go true false f = refl
      go false g f = refl

  module _ (x : List ℕ) where
    taken-returns : taken_values (taken_of m x) ≡ beside m (taken_number (taken_of m x)) (first_unfinished m ∷ [])
    unfolding taken_of
    taken-returns = go (whole m) (misfit x) (eqb (first_bad m) 0) (eqb (first_unfinished m) 0)
      where
        told : Bool → Bool → Bool → Bool → Result ℕ AppendError
        told w s g f =
            cond (not w) (Err (AppendError.Unsound Unsound.WrongSize)) (cond s (Err AppendError.PayloadLength) (cond (not g) (Err (AppendError.Unsound (Unsound.BadBlock (first_bad m)))) (cond f (Err AppendError.Full) (Ok (first_unfinished m)))))

        go : (w s g f : Bool) → taken_values (told w s g f) ≡ beside m (taken_number (told w s g f)) (first_unfinished m ∷ [])
        go true true g f = refl
        go true false true true = refl
        go true false true false = refl
        go true false false f = refl
        go false s g f = refl

    taken-keeps : (k : ℕ) → (taken_number (taken_of m x) ≡ 0 → ⊥) → taken_bytes m x k ≡ m
    unfolding taken_bytes
    taken-keeps k refused = go (taken_of m x) refused
      where
        go : (t : Result ℕ AppendError) → (taken_number t ≡ 0 → ⊥) → bytes_at t m x k ≡ m
        go (Ok p) r = absurd (r refl)
        go (Err e) r = refl

  cleared-keeps : (cleared_number (cleared_of m) ≡ 0 → ⊥) → cleared_bytes m ≡ m
  cleared-keeps refused = go (whole m) refused
    where
      go : (w : Bool) → (cleared_number (cond w (Ok tt) (Err other_size)) ≡ 0 → ⊥) → cond w fresh m ≡ m
      go true r = absurd (r refl)
      go false r = refl

  pub returns-values : Returns m
  returns-values = record { held = held-returns; part = part-returns; taken = taken-returns; append-keeps = taken-keeps; clear-keeps = cleared-keeps }
