-- Where a reading says that the bad digit is.
use Rattle.std.specs.Prelude.{ℕ, ◌*◌, ◌≤◌, ◌<◌, ◌≡◌, false, List, drop, None, Some}
use Rattle.digits.specs.Packed.{good_field}
use Rattle.digits.specs.Halves.{is_none, Lowest}
use Rattle.layout.specs.Places.{bad_half}
use Rattle.answers.specs.Answers.{answer_number, answer_place}
use Rattle.frame.specs.Header.{Header, length_at, start, length_bytes, length_cells, head_cells, own, body}
use Rattle.exchange.specs.Reading.{Exchange, answer_by}

-- the place beside the answer to any bytes
pub record PlaceSays {H : Header} (E : Exchange H) (t : List ℕ) : Type 0 where
  -- beside 3: the lowest half of the length that is no digit; none exactly where all are, and its range is the cause
  pub of_length : answer_number (answer_by E t) ≡ 3 → Lowest (bad_half length_cells (length_bytes H t)) (2 * length_at H) (answer_place (answer_by E t))
  pub length-cause : answer_number (answer_by E t) ≡ 3 → is_none (answer_place (answer_by E t)) ≡ good_field 4 (length_bytes H t)
  -- beside 6: the lowest half of the header that is no digit, and always one
  pub of-head : answer_number (answer_by E t) ≡ 6 → Lowest (bad_half (head_cells H) (drop 1 (own H t))) 2 (answer_place (answer_by E t))
  pub head-cause : answer_number (answer_by E t) ≡ 6 → is_none (answer_place (answer_by E t)) ≡ false
  -- beside 11: the lowest half of the body that is no digit of its packed field, and always one
  pub of-body : answer_number (answer_by E t) ≡ 11 → Lowest (bad_half (E.cells (own H t)) (body H (own H t))) (2 * start H) (answer_place (answer_by E t))
  pub body-cause : answer_number (answer_by E t) ≡ 11 → is_none (answer_place (answer_by E t)) ≡ false
  -- beside any other number none
  pub no_other : (answer_number (answer_by E t) ≡ 3 → ⊥) → (answer_number (answer_by E t) ≡ 6 → ⊥) → (answer_number (answer_by E t) ≡ 11 → ⊥) → answer_place (answer_by E t) ≡ None
  -- and it lies within a frame, behind its first byte
  pub within : (p : ℕ) → answer_place (answer_by E t) ≡ Some p → (2 ≤ p) × (p < 2 * H.most)
