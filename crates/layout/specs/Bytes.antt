-- Bytes put into a buffer as they are.
use Rattle.std.specs.Prelude.{ℕ, ◌+◌, cond, List, length, leb}
use Rattle.std.proofs.lemmas.List.Edits.{sets}

-- bytes at a place in a buffer, if they fit
abbrev pub bytes_over : List ℕ → List ℕ → ℕ → List ℕ
bytes_over s buf at = cond (leb (at + length s) (length buf)) (sets buf at s) buf
