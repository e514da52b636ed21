-- What each call says of a flat board, test by test.
use Prim.Native.Nat.{ℕ, ◌-◌, ◌*◌, ◌≤◌, ◌<◌}
use mathlib.Core.Path.{◌≡◌, ap, ◌∙◌}
use mathlib.Core.Bool.{true, false}
use mathlib.Core.List.{List}
use native.Mathlib.Omega.{arith}
use lib.ListN.{length, get_or, take, drop, replicate}
use borrow.Author.Tests.{eq-eqb, lt-ltb, le-ltb}
use Rattle.std.specs.Prelude.{Ok, Err}
use Rattle.codes_times.specs.Times.{code_right, zero_code}
use Rattle.stock_board.specs.Rows.{free_row}
use Rattle.stock_board.specs.Board.{place_of, is_free, used_rows, asked_of, row_at_of}
use Rattle.stock_board.specs.declared.BoardError.TheVariants.{WrongLength, NoRow}
use Rattle.stock_board_flat.specs.Flat.{Flat, whole, head_of, rows_of}
use Rattle.stock_board_flat.specs.Calls.{clear_flat, cleared_answer, cleared_flat, asked_flat, row_at_flat, in_use_flat}
use Rattle.stock_board_flat.specs.Steps.{flat, of_code, count_of, first_of}
use Rattle.stock_board_flat.proofs.WholeLaws.{whole_long}
use Rattle.stock_board_flat.proofs.RowLaws.{length-rows, row-there, free-head, place-told, used-told}

module _ (f : Flat) where
  -- ---- a board that is not whole
  pub asked-not : (code : List ℕ) → whole f ≡ false → asked_flat f code ≡ Err WrongLength
  unfolding asked_flat
  asked-not code e = rw e

  pub row-not : (at : ℕ) → whole f ≡ false → row_at_flat f at ≡ Err WrongLength
  unfolding row_at_flat
  row-not at e = rw e

  pub used-not : whole f ≡ false → Err WrongLength ≡ in_use_flat f
  unfolding in_use_flat
  used-not e = rw e

  pub cleared-not : whole f ≡ false → (Err WrongLength ≡ cleared_answer f) × (f ≡ cleared_flat f)
  cleared-not e = (rw e, rw e)

  -- ---- a whole one
  pub cleared-all : whole f ≡ true → (hs cs : List ℕ) → hs ≡ replicate (length f.heads) 0 → cs ≡ replicate (length f.cells) 0
      → (Ok tt ≡ cleared_answer f) × (flat hs cs ≡ cleared_flat f)
  unfolding clear_flat
  cleared-all all hs cs h c =
      let w = whole_long f all in (
        rw all,
        rw all (λ j. flat ((h ∙ ap (λ (k : ℕ). replicate k 0) w.heads-long) j) ((c ∙ ap (λ (k : ℕ). replicate k 0) w.cells-long) j)),
      )

  module _ (all : whole f ≡ true) where
    pub rows_long : length (rows_of f) ≡ 256
    rows_long = length-rows f.heads f.cells ∙ (whole_long f all).heads-long

    pub used-is : Ok (length f.heads - count_of 0 f.heads) ≡ in_use_flat f
    unfolding in_use_flat
    used-is =
        let n : length f.heads - count_of 0 f.heads ≡ used_rows (rows_of f) = omega (arith, used-told f.heads f.cells) in
        rw (all, eq-eqb (length (rows_of f)) 256 rows_long, n)

    -- the row at a place
    module _ (at : ℕ) where
      pub row_out : 256 ≤ at → row_at_flat f at ≡ Err NoRow
      unfolding row_at_flat row_at_of
      row_out h = rw (all, eq-eqb (length (rows_of f)) 256 rows_long, le-ltb at 256 h)

      module _ (there : at < 256) where
        free-is : is_free (get_or (rows_of f) at free_row) ≡ of_code 0 (get_or f.heads at 0)
        free-is =
            let h : at < length f.heads = omega (arith, (whole_long f all).heads-long) in
            ap is_free (row-there f.heads f.cells at free_row h) ∙ free-head (get_or f.heads at 0) (take 26 (drop (26 * at) f.cells))

        pub row-free : of_code 0 (get_or f.heads at 0) ≡ true → row_at_flat f at ≡ Err NoRow
        unfolding row_at_flat row_at_of
        row-free e = rw (all, eq-eqb (length (rows_of f)) 256 rows_long, lt-ltb at 256 there, free-is, e)

        pub row-used : of_code 0 (get_or f.heads at 0) ≡ false → row_at_flat f at ≡ Ok (get_or (rows_of f) at free_row)
        unfolding row_at_flat row_at_of
        row-used e = rw (all, eq-eqb (length (rows_of f)) 256 rows_long, lt-ltb at 256 there, free-is, e)

    -- the row of a code
    module _ (code : List ℕ) where
      pub asked-bytes : code_right code ≡ false → asked_flat f code ≡ Err NoRow
      unfolding asked_flat asked_of
      asked-bytes e = rw (all, eq-eqb (length (rows_of f)) 256 rows_long, e)

      module _ (right : code_right code ≡ true) where
        pub asked-zeros : zero_code code ≡ true → asked_flat f code ≡ Err NoRow
        unfolding asked_flat asked_of
        asked-zeros e = rw (all, eq-eqb (length (rows_of f)) 256 rows_long, right, e)

        module _ (long : length code ≡ 6) (stock : zero_code code ≡ false) where
          place_is : place_of code (rows_of f) ≡ first_of (head_of code 0 0) f.heads
          place_is = place-told f.heads f.cells code long right

          pub asked-row : (own : ℕ) → own ≡ first_of (head_of code 0 0) f.heads → own < 256
              → asked_flat f code ≡ Ok (get_or (rows_of f) own free_row)
          unfolding asked_flat asked_of
          asked-row own e h = rw (all, eq-eqb (length (rows_of f)) 256 rows_long, right, stock, place_is, ← e, lt-ltb own 256 h)

          pub asked-none : 256 ≤ first_of (head_of code 0 0) f.heads → asked_flat f code ≡ Err NoRow
          unfolding asked_flat asked_of
          asked-none h = rw (all, eq-eqb (length (rows_of f)) 256 rows_long, right, stock, place_is, le-ltb (first_of (head_of code 0 0) f.heads) 256 h)
