-- The place that is found for a message says what it changes.
use Prim.Native.Nat.{ℕ, ◌<◌}
use mathlib.Core.Path.{◌≡◌, refl, sym, ap, ◌∙◌, subst}
use mathlib.Core.Bool.{Bool, true, false, cond}
use native.Mathlib.Omega.{arith}
use lib.ListN.{length, get_or}
use lib.Dec.{ltb}
use borrow.Author.Tests.{ltb-true, ltb-false}
use Rattle.std.specs.Prelude.{Option, Some, None, Ok, Err}
use Rattle.codes_times.specs.Times.{code_right}
use Rattle.stock_frame.specs.Codec.{legal}
use Rattle.stock_quotes.specs.Quotes.{six_codec}
use Rattle.stock_quotes.specs.declared.Quote.{Quote}
use Rattle.stock_board.specs.declared.Row.{Row}
use Rattle.stock_board.specs.declared.BoardError.TheVariants.{Full}
use Rattle.stock_board.specs.Rows.{free_row, row_after}
use Rattle.stock_board.specs.Board.{Changes, answer_of, last_of_day}
use Rattle.stock_board_flat.specs.declared.placing.Place.{Place}
use Rattle.stock_board_flat.specs.Flat.{Flat, whole, head_of, rows_of}
use Rattle.stock_board_flat.specs.Calls.{change_flat, taken_answer, stored, taken_flat}
use Rattle.stock_board_flat.specs.Steps.{first_of, row_in, found_of, PlacedAt}
use Rattle.stock_board_flat.proofs.WholeLaws.{whole_long}
use Rattle.stock_board_flat.proofs.RowLaws.{row-there}
use Rattle.stock_board_flat.proofs.TakeLaws.{change-first, change-new, change-none}

-- ---- a message
module _ (f : Flat) (m : Quote) where
  -- what the place that is found for it says
  abbrev pub Found : Option Place → Type 0
  Found (Some p) = PlacedAt f m p
  Found None = change_flat f m ≡ Err Full

  module _ (all : whole f ≡ true) (right : legal six_codec m ≡ true) (stock : last_of_day m ≡ false) (long : length m.code ≡ 6) (coded : code_right m.code ≡ true) where
    abbrev own : ℕ
    own = first_of (head_of m.code 0 0) f.heads

    abbrev free : ℕ
    free = first_of 0 f.heads

    old_row : own < 256 → row_after (get_or (rows_of f) own free_row) m ≡ row_after (row_in f own) m
    old_row h =
        let there : own < length f.heads = omega (arith, (whole_long f all).heads-long) in
        ap (λ (row : Row). row_after row m) (row-there f.heads f.cells own free_row there)

    pub found-says : (code : ℕ) → code ≡ head_of m.code 0 0 → (r : Option Place) → r ≡ found_of code f.heads → Found r
    found-says code e r is = subst Found (sym (is ∙ ap (λ (n : ℕ). found_of n f.heads) e)) (go (ltb own 256) refl (ltb free 256) refl)
      where
        go : (t : Bool) → ltb own 256 ≡ t → (u : Bool) → ltb free 256 ≡ u
            → Found (cond t (Some (record { at = own; new = false })) (cond u (Some (record { at = free; new = true })) None))
        go true p u q =
            let h = ltb-true own 256 p in
            record {
              there = h;
              long = whole_long f all;
              right = right;
              row_is = change-first f m all right stock long coded own refl h ∙ ap {B = Changes} (λ (row : Row). Ok (Some (record { at = own; row = row }))) (old_row h);
            }
        go false p true q =
            let h = ltb-true free 256 q in
            record { there = h; long = whole_long f all; right = right; row_is = change-new f m all right stock long coded (ltb-false own 256 p) free refl h }
        go false p false q = change-none f m all right stock long coded (ltb-false own 256 p) (ltb-false free 256 q)

-- what is answered, and the lists behind a message that changes a row, and behind one that changes none
pub taken-by : (f : Flat) (m : Quote) (c : Changes) → change_flat f m ≡ c → (answer_of c ≡ taken_answer f m) × (stored f c ≡ taken_flat f m)
unfolding taken_flat
taken-by f m c e = (ap answer_of (sym e), ap (stored f) (sym e))
