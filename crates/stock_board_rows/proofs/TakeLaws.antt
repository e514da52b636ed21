-- What a message is answered and what it leaves, test by test.
use Prim.Native.Nat.{ℕ, ◌≤◌, ◌<◌}
use mathlib.Core.Path.{◌≡◌, ap, ◌∙◌}
use mathlib.Core.Bool.{true, false}
use mathlib.Core.List.{List}
use native.Mathlib.Omega.{arith}
use lib.ListN.{length, get_or, set}
use Rattle.std.specs.Prelude.{Some, Ok, Err}
use Rattle.stock_frame.specs.Codec.{legal}
use Rattle.stock_quotes.specs.Quotes.{six_codec}
use Rattle.stock_quotes.specs.declared.Quote.{Quote}
use Rattle.stock_board.specs.Rows.{free_row, row_after}
use Rattle.stock_board.specs.Board.{Changes, Answer, place_of, free_place, last_of_day, change_of, answer_of, changed}
use Rattle.stock_board.specs.declared.Row.{Row}
use Rattle.stock_board.specs.declared.BoardError.TheVariants.{NotWritable, WrongLength, Full}
use Rattle.stock_board.proofs.ChangeLaws.{change-length, change-illegal, change-last, change-own, change-free, change-full}

module _ (rows : List Row) (m : Quote) where
  -- an answer and the rows behind it
  abbrev pub Taken : Answer → List Row → Type 0
  Taken a after = (a ≡ answer_of (change_of rows m)) × (after ≡ changed rows (change_of rows m))

  by : (c : Changes) → c ≡ change_of rows m → Taken (answer_of c) (changed rows c)
  by c e = (ap answer_of e, ap (changed rows) e)

  pub taken-length : (length rows ≡ 256 → ⊥) → Taken (Err WrongLength) rows
  unfolding change_of
  taken-length h = by _ (change-length _ _ _ _ m h)

  module _ (long : length rows ≡ 256) where
    pub taken-illegal : legal six_codec m ≡ false → Taken (Err NotWritable) rows
    unfolding change_of
    taken-illegal e = by _ (change-illegal _ _ _ _ m long e)

    module _ (right : legal six_codec m ≡ true) where
      pub taken-last : last_of_day m ≡ true → Taken (Ok tt) rows
      unfolding change_of
      taken-last e = by _ (change-last _ _ _ _ m long right e)

      module _ (stock : last_of_day m ≡ false) where
        pub taken-own : (at : ℕ) (row : Row) → (at ≡ place_of m.code rows) × (at < length rows) → row ≡ row_after (get_or rows at free_row) m → Taken (Ok tt) (set rows at row)
        unfolding change_of
        taken-own at row own e =
            by (Ok (Some (record { at = at; row = row })))
            (ap {B = Changes} (λ (r : Row). Ok (Some (record { at = at; row = r }))) e
            ∙ ap {B = Changes} (λ (n : ℕ). Ok (Some (record { at = n; row = row_after (get_or rows n free_row) m }))) own.0
            ∙ change-own _ _ _ _ m long right stock (omega (arith, own.0, own.1)))

        module _ (new : length rows ≤ place_of m.code rows) where
          pub taken-free : (at : ℕ) (row : Row) → (at ≡ free_place rows) × (at < length rows) → row ≡ row_after free_row m → Taken (Ok tt) (set rows at row)
          unfolding change_of
          taken-free at row free e =
              by (Ok (Some (record { at = at; row = row })))
              (ap {B = Changes} (λ (r : Row). Ok (Some (record { at = at; row = r }))) e
              ∙ ap {B = Changes} (λ (n : ℕ). Ok (Some (record { at = n; row = row_after free_row m }))) free.0
              ∙ change-free _ _ _ _ m long right stock (omega arith) (omega (arith, free.0, free.1)))

          pub taken-none : length rows ≤ free_place rows → Taken (Err Full) rows
          unfolding change_of
          taken-none h = by _ (change-full _ _ _ _ m long right stock (omega arith) (omega arith))
