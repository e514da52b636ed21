-- A message on a flat board, test by test: what is answered, and the lists afterwards.
use Prim.Native.Nat.{ℕ, ◌≤◌, ◌<◌}
use mathlib.Core.Path.{◌≡◌, sym, ap, ◌∙◌}
use mathlib.Core.Bool.{Bool, true, false, cond, ◌&&◌}
use mathlib.Core.List.{List}
use native.Mathlib.Omega.{arith}
use lib.ListN.{length, get_or}
use lib.Dec.{eqb}
use Rattle.std.specs.Prelude.{Some, None, Ok, Err}
use Rattle.digits.proofs.TestLaws.{holds}
use Rattle.codes_times.specs.Times.{time_of_day, nines, zero_code, code_right}
use Rattle.stock_frame.specs.Codec.{legal}
use Rattle.stock_quotes.specs.Quotes.{six_codec, ShapedQuote}
use Rattle.stock_quotes.specs.declared.Quote.{Quote}
use Rattle.stock_quotes_write.proofs.LegalLaws.{tests, tests-of}
use Rattle.stock_board.specs.Rows.{free_row, row_after}
use Rattle.stock_board.specs.Board.{place_of, free_place, Changes, change_of, last_of_day}
use Rattle.stock_board.specs.declared.Row.{Row}
use Rattle.stock_board.specs.declared.BoardError.TheVariants.{NotWritable, WrongLength, Full}
use Rattle.stock_board.proofs.ChangeLaws.{change-illegal, change-last, change-own, change-free, change-full}
use Rattle.stock_board_flat.specs.Flat.{Flat, whole, head_of, rows_of}
use Rattle.stock_board_flat.specs.Calls.{change_flat}
use Rattle.stock_board_flat.specs.Steps.{first_of}
use Rattle.stock_board_flat.proofs.RowLaws.{place-told, free-place-told}
use Rattle.stock_board_flat.proofs.CallLaws.{rows_long}

-- ---- a message that can be written: its code, and that `000000` alone says that it is the day's last
module _ (m : Quote) (shaped : ShapedQuote m) (right : legal six_codec m ≡ true) where
  pub code-is-right : code_right m.code ≡ true
  code-is-right = holds (tests m shaped) (tests-of m shaped right) 2

  pub last-by-code : (t : Bool) → zero_code m.code ≡ t → last_of_day m ≡ t
  last-by-code false e = ap (λ (b : Bool). b && eqb m.time (nines 6)) e
  last-by-code true e =
      ap (λ (b : Bool). b && eqb m.time (nines 6)) e
      ∙ sym (ap (λ (b : Bool). cond b (eqb m.time (nines 6)) (time_of_day 6 m.time)) e) ∙ holds (tests m shaped) (tests-of m shaped right) 1

-- ---- what a message changes
module _ (f : Flat) (m : Quote) where
  pub change-not : whole f ≡ false → change_flat f m ≡ Err WrongLength
  unfolding change_flat
  change-not e = rw e

  module _ (all : whole f ≡ true) where
    abbrev rows : List Row
    rows = rows_of f

    is : (c : Changes) → c ≡ change_of rows m → change_flat f m ≡ c
    unfolding change_flat
    is c e = rw all (sym e)

    pub change-wrong : legal six_codec m ≡ false → change_flat f m ≡ Err NotWritable
    unfolding change_of
    change-wrong e = is _ (change-illegal _ _ _ _ m (rows_long f all) e)

    module _ (right : legal six_codec m ≡ true) where
      pub change-day : last_of_day m ≡ true → change_flat f m ≡ Ok None
      unfolding change_of
      change-day e = is _ (change-last _ _ _ _ m (rows_long f all) right e)

      module _ (stock : last_of_day m ≡ false) (long : length m.code ≡ 6) (coded : code_right m.code ≡ true) where
        own_is : first_of (head_of m.code 0 0) f.heads ≡ place_of m.code rows
        own_is = sym (place-told f.heads f.cells m.code long coded)

        free-is : first_of 0 f.heads ≡ free_place rows
        free-is = sym (free-place-told f.heads f.cells)

        pub change-first : (own : ℕ) → own ≡ first_of (head_of m.code 0 0) f.heads → own < 256
            → change_flat f m ≡ Ok (Some (record { at = own; row = row_after (get_or rows own free_row) m }))
        unfolding change_of
        change-first own e h =
            let p = e ∙ own_is in
            is _ (ap {B = Changes} (λ (o : ℕ). Ok (Some (record { at = o; row = row_after (get_or rows o free_row) m }))) p
            ∙ change-own _ _ _ (free_place rows) m (rows_long f all) right stock (omega (arith, p)))

        module _ (new : 256 ≤ first_of (head_of m.code 0 0) f.heads) where
          pub change-new : (free : ℕ) → free ≡ first_of 0 f.heads → free < 256 → change_flat f m ≡ Ok (Some (record { at = free; row = row_after free_row m }))
          unfolding change_of
          change-new free e h =
              let p = e ∙ free-is in
              is _ (ap {B = Changes} (λ (o : ℕ). Ok (Some (record { at = o; row = row_after free_row m }))) p
              ∙ change-free _ (place_of m.code rows) _ _ m (rows_long f all) right stock (omega (arith, own_is)) (omega (arith, p)))

          pub change-none : 256 ≤ first_of 0 f.heads → change_flat f m ≡ Err Full
          unfolding change_of
          change-none h = is _ (change-full _ (place_of m.code rows) _ (free_place rows) m (rows_long f all) right stock (omega (arith, own_is)) (omega (arith, free-is)))
