-- A board has no more rows in use than it has rows, so that their number fits above an answer.
use Prim.Native.Nat.{◌+◌, ◌≤◌}
use mathlib.Core.Path.{◌≡◌, refl}
use mathlib.Core.Bool.{Bool, true, false, cond}
use mathlib.Core.List.{List, [], ◌∷◌}
use native.Mathlib.Omega.{arith}
use lib.ListN.{length}
use lib.Dec.{eqb}
use borrow.Author.Tests.{eqb-true}
use Rattle.stock_board.specs.declared.Row.{Row}
use Rattle.std.specs.Prelude.{Ok, Err}
use Rattle.stock_board.specs.declared.BoardError.TheVariants.{WrongLength}
use Rattle.stock_board.specs.Board.{is_free, used_rows, in_use_of}
use Rattle.stock_board_flat.specs.Flat.{Flat, whole, rows_of}
use Rattle.stock_board_flat.specs.Calls.{in_use_flat}
use Rattle.c_board.specs.Outcomes.{rows_outcome}

-- of any rows no more are in use than there are
used-few : (rows : List Row) → used_rows rows ≤ length rows
used-few [] = omega arith
used-few (row ∷ rows) = go (is_free row) (used-few rows)
  where
    go : (t : Bool) → used_rows rows ≤ length rows → cond t 0 1 + used_rows rows ≤ length (row ∷ rows)
    go true h = omega arith
    go false h = omega arith

-- of 256 rows, and of others
counted : (rows : List Row) (t : Bool) → eqb (length rows) 256 ≡ t → rows_outcome (cond t (Ok (used_rows rows)) (Err WrongLength)) ≤ 65536
counted rows true e = omega (arith, used-few rows, eqb-true (length rows) 256 e)
counted rows false e = omega arith

-- of a flat board
pub rows_fit : (f : Flat) → rows_outcome (in_use_flat f) ≤ 65536
unfolding in_use_flat
rows_fit f = go (whole f)
  where
    go : (t : Bool) → rows_outcome (cond t (in_use_of (rows_of f)) (Err WrongLength)) ≤ 65536
    go true = counted (rows_of f) (eqb (length (rows_of f)) 256) refl
    go false = omega arith
