-- Where a reading says that the bad digit is.
use Rattle.std.specs.Prelude.{ℕ, ◌*◌, ◌≤◌, ◌<◌, ◌≡◌, false, List, drop, None, Some}
use Rattle.digits.specs.Packed.{good_field}
use Rattle.digits.specs.Halves.{is_none, Lowest}
use Rattle.layout.specs.Cells.{Cell}
use Rattle.layout.specs.Places.{bad_half}
use Rattle.answers.specs.Answers.{answer_number, answer_place}
use Rattle.stock_frame.specs.Outline.{length_bytes, length_cells, own, body, kind_cells}
use Rattle.stock_frame.specs.Format.{body_half}
use Rattle.stock_reading.specs.Reading.{stock, answer_of}

-- the cells of the body that the format of a frame's header has
abbrev pub body_cells : List ℕ → List Cell
body_cells t = stock.cells (own t)

-- the place beside the answer to any bytes
pub record PlaceSays (t : List ℕ) : Type 0 where
  -- beside 3: the lowest half of the length that is no digit; none exactly where all are, and its range is the cause
  pub of_length : answer_number (answer_of t) ≡ 3 → Lowest (bad_half length_cells (length_bytes t)) 2 (answer_place (answer_of t))
  pub length-cause : answer_number (answer_of t) ≡ 3 → is_none (answer_place (answer_of t)) ≡ good_field 4 (length_bytes t)
  -- beside 6: the lowest half of bytes 4 to 10 that is no digit, and always one
  pub of-head : answer_number (answer_of t) ≡ 6 → Lowest (bad_half kind_cells (drop 3 (own t))) 6 (answer_place (answer_of t))
  pub head-cause : answer_number (answer_of t) ≡ 6 → is_none (answer_place (answer_of t)) ≡ false
  -- beside 11: the lowest half of the body that is no digit of its packed field, and always one
  pub of-body : answer_number (answer_of t) ≡ 11 → Lowest (bad_half (body_cells t) (body (own t))) body_half (answer_place (answer_of t))
  pub body-cause : answer_number (answer_of t) ≡ 11 → is_none (answer_place (answer_of t)) ≡ false
  -- beside any other number none
  pub no_other : (answer_number (answer_of t) ≡ 3 → ⊥) → (answer_number (answer_of t) ≡ 6 → ⊥) → (answer_number (answer_of t) ≡ 11 → ⊥) → answer_place (answer_of t) ≡ None
  -- and it lies within a frame
  pub within : (p : ℕ) → answer_place (answer_of t) ≡ Some p → (2 ≤ p) × (p < 2 * 1024)
