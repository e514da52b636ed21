-- Rows while a line comes in pieces: skipped bytes are kept until what follows them is known.
use Rattle.std.specs.Prelude.{ℕ, ◌+◌, ◌-◌, Bool, true, false, cond, List, [], ◌∷◌, ◌++◌, length}
use Rattle.walk.specs.Walk.{Reading, Move, walk_from, rest_of}
use Rattle.walk.specs.Rows.{skips, longer}

-- kept skipped bytes, none or one row of them, with one move more
abbrev pub grown : {A : Type 0} → List (Move A) → Move A → List (Move A)
grown [] m = m ∷ []
grown (r ∷ rs) m = longer r m.bytes ∷ []

-- the rows that moves give behind kept skipped bytes; the last of these are given only when the line is closed
abbrev pub given : {A : Type 0} → Reading A → Bool → List (Move A) → List (Move A) → List (Move A)
given R closed run [] = cond closed run []
given R closed run (m ∷ ms) = cond (skips R m) (given R closed (grown run m) ms) (run ++ (m ∷ given R closed [] ms))

-- the skipped bytes that are kept behind them
abbrev pub kept : {A : Type 0} → Reading A → List (Move A) → List (Move A) → List (Move A)
kept R run [] = run
kept R run (m ∷ ms) = cond (skips R m) (kept R (grown run m) ms) (kept R [] ms)

-- how far a walk over some bytes comes
abbrev pub reach : {A : Type 0} → Reading A → Bool → List ℕ → ℕ
reach R closed t = length t - length (rest_of R closed t)

-- the rows of a line that comes in pieces: from a place on, with skipped bytes and waiting bytes from before
abbrev pub in_pieces : {A : Type 0} → Reading A → ℕ → List (Move A) → List ℕ → List (List ℕ) → List (Move A)
in_pieces R at run rest [] = given R true run (walk_from R true at rest)
in_pieces R at run rest (piece ∷ more) =
    let t = rest ++ piece in
    let ms = walk_from R false at t in
    given R false run ms ++ in_pieces R (at + reach R false t) (kept R run ms) (rest_of R false t) more
