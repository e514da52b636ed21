-- The row that a call finds is the first that has the code, and where it finds none there is none.
use Prim.Native.Nat.{ℕ, suc, ◌+◌, ◌≤◌, ◌<◌}
use mathlib.Core.Path.{◌≡◌, refl, sym, ap, ◌∙◌}
use mathlib.Core.Bool.{Bool, true, false, cond}
use mathlib.Core.List.{List}
use native.Mathlib.Omega.{arith}
use lib.ListN.{length, get_or}
use lib.Dec.{ltb}
use borrow.Author.Tests.{ltb-true, ltb-false}
use Rattle.std.specs.Prelude.{Option, Some, None}
use Rattle.std.specs.List.{position, position_or_len}
use Rattle.std.proofs.lemmas.List.{get_or_default}
use Rattle.std.proofs.lemmas.List.Recursion.{is_position_or_len}
use Rattle.stock_board.specs.Rows.{free_row}
use Rattle.stock_board.specs.Board.{first_place}
use Rattle.stock_board.specs.declared.Row.{Row}

module _ (p : Row → Bool) (rows : List Row) where
  place_is : first_place p rows ≡ position_or_len p rows
  place_is = is_position_or_len (first_place p) p refl (λ x xs. ap (λ (n : ℕ). cond (p x) 0 n) (next (first_place p xs))) rows
    where
      next : (n : ℕ) → suc n ≡ 1 + n
      next n = omega arith

  -- a row is found
  pub place-found : (r : Option ℕ) (at : ℕ) → r ≡ position p rows → r ≡ Some at → (at ≡ first_place p rows) × (at < length rows)
  place-found r at e h = go (ltb (position_or_len p rows) (length rows)) refl (sym h ∙ e)
    where
      go : (t : Bool) → ltb (position_or_len p rows) (length rows) ≡ t → Some at ≡ cond t (Some (position_or_len p rows)) None → (at ≡ first_place p rows) × (at < length rows)
      go true q s =
          let same : at ≡ position_or_len p rows = cc in
          (same ∙ sym place_is, omega (arith, same, ltb-true (position_or_len p rows) (length rows) q))
      go false q s = absurd (cc)

  -- none is
  pub place-none : (r : Option ℕ) → r ≡ position p rows → r ≡ None → length rows ≤ first_place p rows
  place-none r e h = go (ltb (position_or_len p rows) (length rows)) refl (sym h ∙ e)
    where
      go : (t : Bool) → ltb (position_or_len p rows) (length rows) ≡ t → ◌≡◌ {A = Option ℕ} None (cond t (Some (position_or_len p rows)) None) → length rows ≤ first_place p rows
      go true q s = absurd (cc)
      go false q s = omega (arith, place_is, ltb-false (position_or_len p rows) (length rows) q)

-- a row that is there, whatever reading past the end would give
pub row-there : (rows : List Row) (at : ℕ) (d : Row) → at < length rows → get_or rows at d ≡ get_or rows at free_row
row-there rows at d h = get_or_default rows at d free_row h
