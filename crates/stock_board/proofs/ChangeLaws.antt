-- What a message changes, test by test.
use Prim.Native.Nat.{ℕ, ◌≤◌, ◌<◌}
use mathlib.Core.Path.{◌≡◌}
use mathlib.Core.Bool.{true, false}
use borrow.Author.Tests.{eq-eqb, ne_eqb, lt-ltb, le-ltb}
use Rattle.std.specs.Prelude.{Some, None, Ok, Err}
use Rattle.stock_frame.specs.Codec.{legal}
use Rattle.stock_quotes.specs.Quotes.{six_codec}
use Rattle.stock_quotes.specs.declared.Quote.{Quote}
use Rattle.stock_board.specs.Rows.{free_row, row_after}
use Rattle.stock_board.specs.Board.{last_of_day, change_by}
use Rattle.stock_board.specs.declared.Row.{Row}
use Rattle.stock_board.specs.declared.BoardError.TheVariants.{NotWritable, WrongLength, Full}

module _ (n own : ℕ) (row : Row) (free : ℕ) (m : Quote) where
  pub change-length : (n ≡ 256 → ⊥) → Err WrongLength ≡ change_by n own row free m
  unfolding change_by
  change-length h = rw (ne_eqb n 256 h)

  module _ (long : n ≡ 256) where
    pub change-illegal : legal six_codec m ≡ false → Err NotWritable ≡ change_by n own row free m
    unfolding change_by
    change-illegal e = rw (eq-eqb n 256 long, e)

    module _ (right : legal six_codec m ≡ true) where
      pub change-last : last_of_day m ≡ true → Ok None ≡ change_by n own row free m
      unfolding change_by
      change-last e = rw (eq-eqb n 256 long, right, e)

      module _ (stock : last_of_day m ≡ false) where
        pub change-own : own < 256 → Ok (Some (record { at = own; row = row_after row m })) ≡ change_by n own row free m
        unfolding change_by
        change-own h = rw (eq-eqb n 256 long, right, stock, lt-ltb own 256 h)

        module _ (new : 256 ≤ own) where
          pub change-free : free < 256 → Ok (Some (record { at = free; row = row_after free_row m })) ≡ change_by n own row free m
          unfolding change_by
          change-free h = rw (eq-eqb n 256 long, right, stock, le-ltb own 256 new, lt-ltb free 256 h)

          pub change-full : 256 ≤ free → Err Full ≡ change_by n own row free m
          unfolding change_by
          change-full h = rw (eq-eqb n 256 long, right, stock, le-ltb own 256 new, le-ltb free 256 h)
