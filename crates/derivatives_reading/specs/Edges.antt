-- Index values byte for byte: what frames mean, and the edges of each check.
use Rattle.std.specs.Prelude.{ℕ, ◌≡◌, List, [], ◌∷◌, ◌++◌, take, None, Some}
use Rattle.answers.specs.declared.Answer.TheVariants.{Accepted, NoFrame, Refused}
use Rattle.amounts.specs.Amounts.{as_thousandths}
use Rattle.frame.specs.Writing.{frame_around}
use Rattle.derivatives_frame.specs.Outline.{header}
use Rattle.derivatives_frame.specs.Closing.{head_numbers}
use Rattle.derivatives_reading.specs.Reading.{answer_of, index_in}

-- I060 of the futures contract TXF: 17,234.567 at 13:29:59.95, sent at 13:30:00.25
abbrev pub short : List ℕ
short =
    0x1B ∷ 0x31 ∷ 0x35 ∷ 0x13 ∷ 0x30 ∷ 0x00 ∷ 0x25 ∷ 0x00 ∷ 0x00 ∷ 0x00 ∷ 0x07 ∷ 0x02 ∷ 0x00 ∷ 0x12
    ∷ 0x54 ∷ 0x58 ∷ 0x46 ∷ 0x13 ∷ 0x29 ∷ 0x59 ∷ 0x95 ∷ 0x17 ∷ 0x23 ∷ 0x45 ∷ 0x67 ∷ 0x00 ∷ 0xBF ∷ 0x0D ∷ 0x0A ∷ []

-- I064 of stock 2330 among the options: 598.500 at 08:59:59.99, sent at 09:00:00.00
abbrev pub long : List ℕ
long =
    0x1B ∷ 0x34 ∷ 0x38 ∷ 0x09 ∷ 0x00 ∷ 0x00 ∷ 0x00 ∷ 0x99 ∷ 0x99 ∷ 0x99 ∷ 0x99 ∷ 0x01 ∷ 0x00 ∷ 0x17
    ∷ 0x32 ∷ 0x33 ∷ 0x33 ∷ 0x30 ∷ 0x20 ∷ 0x20 ∷ 0x20 ∷ 0x20 ∷ 0x08 ∷ 0x59 ∷ 0x59 ∷ 0x99 ∷ 0x00 ∷ 0x59 ∷ 0x85 ∷ 0x00 ∷ 0x05 ∷ 0x59 ∷ 0x0D ∷ 0x0A ∷ []

-- a frame of a kind and version, sent at a time, with a body
abbrev pub sent_at : ℕ → ℕ → ℕ → List ℕ → List ℕ
sent_at kind version sent b = frame_around header (head_numbers 49 kind sent 1 version) [] b

-- a short body at a time with a status
abbrev pub body_with : List ℕ → ℕ → List ℕ
body_with time status = 0x54 ∷ 0x58 ∷ 0x46 ∷ time ++ (0x00 ∷ 0x00 ∷ 0x00 ∷ 0x01 ∷ status ∷ [])

pub record Edges : Type 0 where
  pub short-accepted : answer_of short ≡ Accepted (record { format = 60; seq = 7; length = 29 })
  pub short-means : index_in short
      ≡ record { market = 49; kind = 53; sent = 13300025; seq = 7; contract = 0x54 ∷ 0x58 ∷ 0x46 ∷ 0 ∷ 0 ∷ 0 ∷ 0 ∷ 0 ∷ []; length = 3; time = 13295995; value = as_thousandths 17234567; status = 0 }
  pub long-accepted : answer_of long ≡ Accepted (record { format = 64; seq = 99999999; length = 34 })
  pub long-means : index_in long
      ≡ record { market = 52; kind = 56; sent = 9000000; seq = 99999999; contract = 0x32 ∷ 0x33 ∷ 0x33 ∷ 0x30 ∷ 0x20 ∷ 0x20 ∷ 0x20 ∷ 0x20 ∷ []; length = 8; time = 8595999; value = as_thousandths 598500; status = 5 }
  -- 2 under 14 bytes, and under the whole; a single byte that is not 27
  pub no_bytes : answer_of [] ≡ NoFrame 2 None
  pub not-27 : answer_of (0x41 ∷ []) ≡ NoFrame 1 None
  pub thirteen : answer_of (take 13 short) ≡ NoFrame 2 None
  pub one_less : answer_of (take 28 short) ≡ NoFrame 2 None
  -- 3: a bad digit, at its place, and a whole frame above 1,024 bytes; a body of 0 bytes answers 9
  pub length-digit : answer_of (take 12 short ++ (0x00 ∷ 0x1A ∷ [])) ≡ NoFrame 3 (Some 27)
  pub longest : answer_of (take 12 short ++ (0x10 ∷ 0x07 ∷ [])) ≡ NoFrame 2 None
  pub too_long : answer_of (take 12 short ++ (0x10 ∷ 0x08 ∷ [])) ≡ NoFrame 3 None
  pub no_body : answer_of (sent_at 53 2 0 []) ≡ Refused 9 17 None
  -- 6 before 7, 7 before 8, 8 before 9
  pub head-digit : answer_of (0x1B ∷ 0x00 ∷ 0x00 ∷ 0x13 ∷ 0x30 ∷ 0x00 ∷ 0x2F ∷ 0x00 ∷ 0x00 ∷ 0x00 ∷ 0x01 ∷ 0x02 ∷ 0x00 ∷ 0x00 ∷ 0x0F ∷ 0x0D ∷ 0x0A ∷ []) ≡ Refused 6 17 (Some 13)
  pub other-kind : answer_of (sent_at 54 9 0 []) ≡ Refused 7 17 None
  pub other-version : answer_of (sent_at 56 2 0 []) ≡ Refused 8 17 None
  -- 11 before 12, and the lowest of two bad halves; either time; a status bit of each kind
  pub body-digit : answer_of (sent_at 53 2 99000000 (body_with (0x00 ∷ 0xA0 ∷ 0x00 ∷ 0xF0 ∷ []) 0xFF)) ≡ Refused 11 29 (Some 36)
  pub sent-late : answer_of (sent_at 53 2 24000000 (body_with (0x00 ∷ 0x00 ∷ 0x00 ∷ 0x00 ∷ []) 0xFF)) ≡ Refused 12 29 None
  pub nines : answer_of (sent_at 53 2 0 (body_with (0x99 ∷ 0x99 ∷ 0x99 ∷ 0x99 ∷ []) 0xFF)) ≡ Refused 12 29 None
  pub bit-one : answer_of (sent_at 53 2 0 (body_with (0x00 ∷ 0x00 ∷ 0x00 ∷ 0x00 ∷ []) 2)) ≡ Refused 13 29 None
  pub bit-two : answer_of (sent_at 56 1 0 (body_with (0x00 ∷ 0x00 ∷ 0x00 ∷ 0x00 ∷ []) 7)) ≡ Accepted (record { format = 64; seq = 1; length = 29 })
  pub bit-three : answer_of (sent_at 56 1 0 (body_with (0x00 ∷ 0x00 ∷ 0x00 ∷ 0x00 ∷ []) 8)) ≡ Refused 13 29 None
