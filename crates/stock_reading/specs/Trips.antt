-- What reading and writing promise of the rules and of each other: acceptance exactly, the message that the bytes mean, both round trips.
use Rattle.std.specs.Prelude.{ℕ, ◌≤◌, ◌≡◌, true, List, [], ◌∷◌, ◌++◌, ◌↔◌, length, drop}
use Rattle.layout.specs.Checks.{first_fail}
use Rattle.answers.specs.Answers.{answer_number, answer_values}
use Rattle.answers.specs.declared.Frame.{Frame}
use Rattle.answers.specs.declared.Answer.TheVariants.{Accepted}
use Rattle.stock_frame.specs.Outline.{length_of, own, format, sequence}
use Rattle.stock_frame.specs.Writing.{written_over}
use Rattle.stock_frame.specs.Codec.{Codec, legal, frame_of}
use Rattle.layout.specs.Checks.{all_hold}
use Rattle.stock_frame.specs.Reads.{Reads}
use Rattle.stock_frame.specs.Figures.{beside}
use Rattle.stock_reading.specs.Reading.{is_format, checks, place_of, answer_of, message_by}

-- the answer to any bytes
pub record AnswerSays (t : List ℕ) : Type 0 where
  -- 0 exactly where every check of the rules' table holds
  pub exactly : (answer_number (answer_of t) ≡ 0) ↔ all_hold (checks t)
  -- an accepted frame's format is one of the list
  pub format-is : answer_number (answer_of t) ≡ 0 → is_format (format (own t)) ≡ true
  -- else the number of the first check that fails, at most 13
  pub first : answer_number (answer_of t) ≡ first_fail (checks t)
  pub at-most : answer_number (answer_of t) ≤ 13
  -- beside 0 the format, the number and the length, beside 1 to 5 no length, beside the others the length; beside 3, 6 and 11 the place of
  -- a bad digit, if one is the cause
  pub values : answer_values (answer_of t)
      ≡ beside (answer_number (answer_of t)) (format (own t) ∷ sequence (own t) ∷ length_of t ∷ []) (length_of t) (place_of (answer_number (answer_of t)) t)

-- the messages of one format
pub record Trips {M : Type 0} (C : Codec M) (Shaped : M → Type 0) (none : M) : Type 0 where
  -- an accepted frame of the format begins with a frame that the rules allow, and its message is the one those bytes mean
  pub means : (t : List ℕ) (f : Frame) → answer_of t ≡ Accepted f → f.format ≡ C.form.number → Reads C t (message_by C none t)
  -- bytes that begin with such a frame are accepted
  pub accepts : (t : List ℕ) (m : M) → Reads C t m
      → (answer_of t ≡ Accepted (record { format = C.form.number; seq = sequence (own t); length = length_of t })) × (message_by C none t ≡ m)
  -- writing an accepted message into enough room gives the frame's own bytes back, and no other byte changes
  pub write_read : (t : List ℕ) (f : Frame) (buf : List ℕ) → answer_of t ≡ Accepted f → f.format ≡ C.form.number → length (own t) ≤ length buf
      → written_over (legal C (message_by C none t)) (frame_of C (message_by C none t)) buf ≡ own t ++ drop (length (own t)) buf
  -- reading a written frame gives its format, its number, its length and the message, whatever follows it
  pub read-write : (m : M) → Shaped m → legal C m ≡ true → (r : List ℕ)
      → (answer_of (frame_of C m ++ r) ≡ Accepted (record { format = C.form.number; seq = C.seq m; length = length (frame_of C m) }))
      × (message_by C none (frame_of C m ++ r) ≡ m)
