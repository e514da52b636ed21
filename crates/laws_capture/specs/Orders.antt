-- The stores of an append but the last, in any order: any of them, each once, several times or not at all.
use Rattle.std.specs.Prelude.{Result, Ok, Err, ℕ, ◌+◌, ◌≡◌, Bool, true, ◌&&◌, List, [], ◌∷◌, ltb}
use Rattle.capture.specs.Blocks.{block_of}
use Rattle.capture.specs.Captures.{start_of}
use Rattle.capture_append.specs.Stores.{stores, store_of}
use Rattle.capture_append.specs.Appending.{taken_of}
use Rattle.capture_append.specs.declared.AppendError.{AppendError}
use Rattle.laws_capture.specs.Exact.{TornAt, SameTold}

-- numbers of stores, none of them the last one's
abbrev pub before_last : List ℕ → Bool
before_last [] = true
before_last (j ∷ js) = ltb (j + 1) stores && before_last js

-- memory after the stores of these numbers, the latest first, where the block begins at a byte
abbrev pub stored_by : List ℕ → ℕ → List ℕ → List ℕ → List ℕ
stored_by m start b [] = m
stored_by m start b (j ∷ js) = store_of (stored_by m start b js) start b j

-- after those of an append with this answer; as it came beside a refusal
abbrev pub bytes_by : Result ℕ AppendError → List ℕ → List ℕ → List ℕ → List ℕ
bytes_by (Ok p) m x js = stored_by m (start_of p) (block_of p x) js
bytes_by (Err e) m x js = m

-- after those of an append of a payload
unfoldable pub torn_bytes : List ℕ → List ℕ → List ℕ → List ℕ
torn_bytes m x js = bytes_by (taken_of m x) m x js

-- of memory, a payload and numbers of stores
pub record OrderTells (m x js : List ℕ) : Type 0 where
  -- only the block of the place that the append takes is another, and it is unfinished as before
  pub torn : (q : ℕ) → taken_of m x ≡ Ok q → TornAt m (torn_bytes m x js) q
  -- what is found is what was found before, and every call answers the same
  pub told : SameTold m (torn_bytes m x js)
