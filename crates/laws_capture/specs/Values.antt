-- What each call on a capture returns beside its answer's number: 33 the first bad block's place, the other refusals nothing; and a refused
-- call leaves memory as it came.
use Rattle.std.specs.Prelude.{ℕ, ◌+◌, ◌≡◌, cond, List, [], ◌∷◌, length, eqb}
use Rattle.capture.specs.Blocks.{used}
use Rattle.capture.specs.Captures.{start_of, block_at, first_bad, first_unfinished, found}
use Rattle.capture.specs.Calls.{cleared_number, cleared_of, cleared_bytes, held_number, held_values, held_of, is_finished, part_number, part_values, part_of}
use Rattle.capture_append.specs.Appending.{taken_number, taken_values, taken_of, taken_bytes}

-- beside 0 these values, beside 33 the first bad block's place, beside any other number nothing
abbrev pub beside : List ℕ → ℕ → List ℕ → List ℕ
beside m n vs = cond (eqb n 0) vs (cond (eqb n 33) (first_bad m ∷ []) [])

pub record Returns (m : List ℕ) : Type 0 where
  pub held : held_values (held_of m) ≡ beside m (held_number (held_of m)) (length (found m) ∷ [])
  pub part : (p : ℕ) → part_values (part_of m p)
      ≡ beside m (part_number (part_of m p)) (cond (is_finished m p) ((start_of p + 6) ∷ used (block_at m p) ∷ []) (0 ∷ 0 ∷ []))
  pub taken : (x : List ℕ) → taken_values (taken_of m x) ≡ beside m (taken_number (taken_of m x)) (first_unfinished m ∷ [])
  -- refused: memory is as it came
  pub append-keeps : (x : List ℕ) (k : ℕ) → (taken_number (taken_of m x) ≡ 0 → ⊥) → taken_bytes m x k ≡ m
  pub clear-keeps : (cleared_number (cleared_of m) ≡ 0 → ⊥) → cleared_bytes m ≡ m
