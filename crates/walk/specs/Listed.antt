-- The rows that a program gives which takes a line in pieces: it asks for the next rows of the bytes in hand until the walk
-- stops, puts the next piece behind what waits, and where no piece comes any more closes the line and gives what is kept.
use Rattle.std.specs.Prelude.{ℕ, zero, suc, Bool, true, false, cond, List, [], ◌∷◌, ◌++◌, drop, eqb, Ok, Err, Result}
use Rattle.answers.specs.declared.Answer.{Answer}
use Rattle.walk.specs.Walk.{Reading, walk_from}
use Rattle.walk.specs.Told.{next_of}
use Rattle.walk.specs.declared.rows.Row.{Row}
use Rattle.walk.specs.declared.rows.Kept.{Kept}
use Rattle.walk.specs.declared.rows.Next.{Next}
use Rattle.walk.specs.declared.rows.Next.TheVariants.{OneRow, TwoRows, Stopped}
use Rattle.walk.specs.declared.rows.RowsError.TheVariants.{Full}
use Rattle.walk.specs.declared.rows.RowsError.{RowsError}

-- the row of the kept skipped bytes, if there are any
abbrev pub last_row : Kept → List Row
last_row k = cond (eqb k.skipped.bytes 0) [] (k.skipped ∷ [])

-- a line is closed where no piece is to come
abbrev pub is_last : List (List ℕ) → Bool
is_last [] = true
is_last (p ∷ ps) = false

-- what follows a call: its rows and the further calls behind them
abbrev pub after_call : Result Next RowsError → List ℕ → List (List ℕ) → (Kept → List ℕ → List (List ℕ) → List Row) → List Row
after_call (Ok (OneRow r k to)) hand pieces more = r ∷ more k (drop to hand) pieces
after_call (Ok (TwoRows s r k to)) hand pieces more = s ∷ r ∷ more k (drop to hand) pieces
after_call (Ok (Stopped k to)) hand (p ∷ ps) more = more k (drop to hand ++ p) ps
after_call (Ok (Stopped k to)) hand [] more = last_row k
after_call (Err Full) hand pieces more = []

-- the rows of n calls at most: what is kept, the bytes in hand, and the pieces to come
abbrev pub rows_by_calls : Reading Answer → ℕ → Kept → List ℕ → List (List ℕ) → List Row
rows_by_calls R zero k hand pieces = []
rows_by_calls R (suc n) k hand pieces = after_call (next_of (walk_from R (is_last pieces) k.at hand) k 0) hand pieces (rows_by_calls R n)
