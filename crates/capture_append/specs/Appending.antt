-- What an append answers, in the order of the rules, and what memory holds after so many of its stores.
use Rattle.std.specs.Prelude.{ℕ, min, Bool, cond, not, ◌||◌, List, [], ◌∷◌, length, eqb, ltb, Result, Ok, Err}
use Rattle.capture.specs.Blocks.{most, block_of}
use Rattle.capture.specs.Captures.{whole, start_of, first_bad, first_unfinished}
use Rattle.capture.specs.Calls.{unsound_number, unsound_values}
use Rattle.capture.specs.declared.Unsound.{Unsound}
use Rattle.capture_append.specs.Stores.{stores, stored_from}
use Rattle.capture_append.specs.declared.AppendError.{AppendError}

-- the number of a refusal
abbrev pub append_number : AppendError → ℕ
append_number (AppendError.Unsound u) = unsound_number u
append_number AppendError.PayloadLength = 31
append_number AppendError.Full = 32

-- the place of the first bad block
abbrev pub append_values : AppendError → List ℕ
append_values (AppendError.Unsound u) = unsound_values u
append_values AppendError.PayloadLength = []
append_values AppendError.Full = []

-- the number of an answer, 0 for one that is no refusal
abbrev pub taken_number : Result ℕ AppendError → ℕ
taken_number (Ok p) = 0
taken_number (Err e) = append_number e

-- the place of the block, or of the first bad one
abbrev pub taken_values : Result ℕ AppendError → List ℕ
taken_values (Ok p) = p ∷ []
taken_values (Err e) = append_values e

-- a payload that is empty or over 504 bytes
abbrev pub misfit : List ℕ → Bool
misfit x = eqb (length x) 0 || ltb most (length x)

-- an append: 34; 31; 33 with the first bad block's place; 32 where all 128 are used; else the first unfinished place
unfoldable pub taken_of : List ℕ → List ℕ → Result ℕ AppendError
taken_of m x =
    cond (not (whole m)) (Err (AppendError.Unsound Unsound.WrongSize))
    (cond (misfit x) (Err AppendError.PayloadLength)
    (cond (not (eqb (first_bad m) 0)) (Err (AppendError.Unsound (Unsound.BadBlock (first_bad m))))
    (cond (eqb (first_unfinished m) 0) (Err AppendError.Full)
    (Ok (first_unfinished m)))))

-- memory after k stores of an append with this answer, or after all if there are no more; as it came beside a refusal
abbrev pub bytes_at : Result ℕ AppendError → List ℕ → List ℕ → ℕ → List ℕ
bytes_at (Ok p) m x k = stored_from m (start_of p) (block_of p x) (min k stores)
bytes_at (Err e) m x k = m

-- after those of an append of a payload
unfoldable pub taken_bytes : List ℕ → List ℕ → ℕ → List ℕ
taken_bytes m x k = bytes_at (taken_of m x) m x k
