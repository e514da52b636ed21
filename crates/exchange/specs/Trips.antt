-- What reading and writing promise of the rules and of each other: acceptance exactly, the message that the bytes mean, both round trips.
use Rattle.std.specs.Prelude.{ℕ, ◌≤◌, ◌≡◌, Bool, true, cond, ◌&&◌, List, [], ◌∷◌, ◌++◌, ◌↔◌, length, drop, eqb}
use Rattle.layout.specs.Cells.{size, good_cells}
use Rattle.layout.specs.Checks.{first_fail, all_hold}
use Rattle.answers.specs.Answers.{answer_number, answer_values}
use Rattle.answers.specs.declared.Frame.{Frame}
use Rattle.answers.specs.declared.Answer.TheVariants.{Accepted}
use Rattle.frame.specs.Header.{Header, length_of, own, body, front, rear}
use Rattle.frame.specs.Figures.{beside}
use Rattle.frame.specs.Writing.{written_over}
use Rattle.frame.specs.Codec.{Codec, values_of, Reads, legal, frame_of}
use Rattle.exchange.specs.Reading.{Exchange, checks_of, place_of, frame_at, answer_by}

-- the message of an accepted frame whose format is one of a codec's; of anything else, none
abbrev pub message_by : {H : Header} {M : Type 0} → Exchange H → Codec H M → (ℕ → Bool) → M → List ℕ → M
message_by {H} E C has none t =
    let f = own H t in
    cond (eqb (first_fail (checks_of E t)) 0 && has (E.format f)) (C.message (front H f) (rear H f) (values_of C (body H f))) none

-- the exchange's checks on a frame of a format that the codec has are the codec's own rules
pub record Speaks {H : Header} {M : Type 0} (E : Exchange H) (C : Codec H M) (has : ℕ → Bool) : Type 0 where
  pub passes : (f : List ℕ) → let b = body H f in eqb (size (C.told b)) (length b) ≡ true → good_cells (C.told b) b ≡ true
      → C.rules (front H f) (rear H f) (length b) (values_of C b) ≡ true → (first_fail (E.checks f) ≡ 0) × (has (E.format f) ≡ true)
  pub allows : (f : List ℕ) → first_fail (E.checks f) ≡ 0 → has (E.format f) ≡ true → let b = body H f in
      (eqb (size (C.told b)) (length b) ≡ true) × (good_cells (C.told b) b ≡ true) × (C.rules (front H f) (rear H f) (length b) (values_of C b) ≡ true)

-- a frame is accepted exactly when every check of the rules' table holds; else the number is that of the first that fails, at most 13
pub record AnswerSays {H : Header} (E : Exchange H) (t : List ℕ) : Type 0 where
  pub exactly : (answer_number (answer_by E t) ≡ 0) ↔ all_hold (checks_of E t)
  pub first : answer_number (answer_by E t) ≡ first_fail (checks_of E t)
  pub at-most : answer_number (answer_by E t) ≤ 13
  -- beside 0 the format, the number and the length; beside 1 to 5 no length, beside the others the length; and the place of a bad digit, if there is one
  pub values : let f = own H t in let n = answer_number (answer_by E t) in
      answer_values (answer_by E t) ≡ beside n (E.format f ∷ E.seq f ∷ length_of H t ∷ []) (length_of H t) (place_of E n t)

-- the messages of one codec
pub record Trips {H : Header} {M : Type 0} (E : Exchange H) (C : Codec H M) (has : ℕ → Bool) (Shaped : M → Type 0) (none : M) : Type 0 where
  -- an accepted frame of its formats begins with a frame that the rules allow, and its message is the one those bytes mean
  pub means : (t : List ℕ) (f : Frame) → answer_by E t ≡ Accepted f → has f.format ≡ true → Reads C t (message_by E C has none t)
  -- bytes that begin with such a frame are accepted
  pub accepts : (t : List ℕ) (m : M) → Reads C t m → (answer_by E t ≡ Accepted (frame_at E t)) × (message_by E C has none t ≡ m)
  -- writing an accepted message into enough room gives the frame's own bytes back, and no other byte changes
  pub write_read : (t : List ℕ) (f : Frame) (buf : List ℕ) → answer_by E t ≡ Accepted f → has f.format ≡ true → length (own H t) ≤ length buf
      → written_over (legal C (message_by E C has none t)) (frame_of C (message_by E C has none t)) buf ≡ own H t ++ drop (length (own H t)) buf
  -- reading a written frame accepts it with its length and gives the message, whatever follows it
  pub read-write : (m : M) → Shaped m → legal C m ≡ true → (r : List ℕ)
      → (answer_by E (frame_of C m ++ r) ≡ Accepted (record { format = E.format (frame_of C m); seq = E.seq (frame_of C m); length = length (frame_of C m) }))
      × (message_by E C has none (frame_of C m ++ r) ≡ m)
