-- The lists of a whole board have the lengths that 256 rows make.
use mathlib.Core.Path.{◌≡◌}
use mathlib.Core.Bool.{true, false}
use lib.ListN.{length}
use lib.Dec.{eqb}
use borrow.Author.Tests.{eqb-true, eq-eqb, ne_eqb}
use Rattle.digits.proofs.Bools.{and_left, and_right}
use Rattle.stock_board_flat.specs.Flat.{Flat, whole}
use Rattle.stock_board_flat.specs.Steps.{Whole}

-- one length after the other
module _ (f : Flat) where
  pub heads-wrong : (length f.heads ≡ 256 → ⊥) → false ≡ whole f
  unfolding whole
  heads-wrong h = rw (ne_eqb (length f.heads) 256 h)

  pub cells_say : length f.heads ≡ 256 → eqb (length f.cells) 6656 ≡ whole f
  unfolding whole
  cells_say h = rw (eq-eqb (length f.heads) 256 h)

  -- the lengths of a whole board
  pub whole_long : whole f ≡ true → Whole f
  unfolding whole
  whole_long e = record {
    heads-long = eqb-true (length f.heads) 256 (and_left (eqb (length f.heads) 256) (eqb (length f.cells) 6656) e);
    cells-long = eqb-true (length f.cells) 6656 (and_right (eqb (length f.heads) 256) (eqb (length f.cells) 6656) e);
  }
