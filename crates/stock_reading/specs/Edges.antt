-- The starred edges of the owner's paper that concern frames, as one list; those of levels that are not shown; and those of bad digits.
use Rattle.std.specs.Prelude.{ℕ, ◌+◌, ◌≡◌, List, [], ◌∷◌, ◌++◌, take, replicate, None, Some}
use Rattle.stock_frame.specs.Writing.{frame_around}
use Rattle.answers.specs.declared.Answer.TheVariants.{Accepted, NoFrame, Refused}
use Rattle.stock_notices.specs.Notices.{five_codec, no_notice}
use Rattle.stock_quotes.specs.Reveal.{revealed, pair_count}
use Rattle.stock_quotes.specs.Quotes.{six_codec, no_quote}
use Rattle.stock_quotes.specs.declared.Levels.TheVariants.{Shown, NotShown}
use Rattle.stock_halts.specs.Halts.{nineteen_codec, no_halt}
use Rattle.stock_halts.specs.declared.Event.TheVariants.{Halted}
use Rattle.stock_halts.specs.declared.Sending.TheVariants.{Instant}
use Rattle.stock_reading.specs.Reading.{answer_of, message_by}

-- the 14-byte notice of the listing, with its check byte and its last byte
abbrev pub notice : ℕ → ℕ → List ℕ
notice check last = 0x1B ∷ 0x00 ∷ 0x14 ∷ 0x01 ∷ 0x05 ∷ 0x01 ∷ 0x00 ∷ 0x00 ∷ 0x00 ∷ 0x01 ∷ 0x09 ∷ check ∷ 0x0D ∷ last ∷ []

-- the halt of stock 1234 at 10:05:00, still open, sent at once
abbrev pub halted : List ℕ
halted =
    0x1B ∷ 0x00 ∷ 0x26 ∷ 0x01 ∷ 0x19 ∷ 0x01 ∷ 0x00 ∷ 0x00 ∷ 0x00 ∷ 0x01 ∷ 0x31 ∷ 0x32 ∷ 0x33 ∷ 0x34 ∷ 0x20 ∷ 0x20
    ∷ 0x10 ∷ 0x05 ∷ 0x00 ∷ 0x99 ∷ 0x99 ∷ 0x99 ∷ 0x49 ∷ 0xFF ∷ 0x0D ∷ 0x0A ∷ []

-- a quote of stock 1234 at midnight with a reveal byte and n pairs of zeros
abbrev pub quote : ℕ → ℕ → List ℕ
quote reveal n =
    frame_around 6 4 1
    (0x31 ∷ 0x32 ∷ 0x33 ∷ 0x34 ∷ 0x20 ∷ 0x20 ∷ 0x00 ∷ 0x00 ∷ 0x00 ∷ 0x00 ∷ 0x00 ∷ 0x00 ∷ reveal ∷ 0x00 ∷ 0x00 ∷ replicate (4 + n) 0)

pub record Edges : Type 0 where
  pub no_bytes : answer_of [] ≡ NoFrame 2 None
  pub two_bytes : answer_of (0x1B ∷ 0x0A ∷ []) ≡ NoFrame 2 None
  pub bad-length : answer_of (0x1B ∷ 0x0A ∷ 0x14 ∷ []) ≡ NoFrame 3 (Some 3)
  pub not-27 : answer_of (0x41 ∷ []) ≡ NoFrame 1 None
  pub notice-accepted : answer_of (notice 0x19 0x0A) ≡ Accepted (record { format = 5; seq = 1; length = 14 })
  pub notice-means : message_by five_codec no_notice (notice 0x19 0x0A) ≡ record { seq = 1; category = 9; length = 0; text = replicate 60 0 }
  pub check-byte-18 : answer_of (notice 0x18 0x0A) ≡ NoFrame 5 None
  pub last-byte-0B : answer_of (notice 0x19 0x0B) ≡ NoFrame 4 None
  pub first-13 : answer_of (take 13 (notice 0x19 0x0A)) ≡ NoFrame 2 None
  pub halt-accepted : answer_of halted ≡ Accepted (record { format = 19; seq = 1; length = 26 })
  pub halt-means : message_by nineteen_codec no_halt halted
      ≡ record { seq = 1; code = 0x31 ∷ 0x32 ∷ 0x33 ∷ 0x34 ∷ 0x20 ∷ 0x20 ∷ []; event = Halted 100500 None; state = Instant }
  pub reveal-A2-counts : (revealed 0xA2).trades ∷ (revealed 0xA2).bids ∷ (revealed 0xA2).asks ∷ pair_count (revealed 0xA2) ∷ [] ≡ 1 ∷ 2 ∷ 1 ∷ 4 ∷ []
  pub reveal-A2 : answer_of (quote 0xA2 36) ≡ Accepted (record { format = 6; seq = 1; length = 68 })
  pub reveal-DA-counts : pair_count (revealed 0xDA) ≡ 11
  pub reveal-DA : answer_of (quote 0xDA 99) ≡ Accepted (record { format = 6; seq = 1; length = 131 })
  pub reveal-00 : answer_of (quote 0x00 0) ≡ Accepted (record { format = 6; seq = 1; length = 32 })
  pub reveal-60 : answer_of (quote 0x60 54) ≡ Refused 10 86 None

-- bit 0 of the reveal byte: levels that are not shown, with a trade and without; none, which is another message; and check 10, whatever the length
pub record LevelEdges : Type 0 where
  pub reveal-81 : answer_of (quote 0x81 9) ≡ Accepted (record { format = 6; seq = 1; length = 41 })
  pub reveal-81-hides : (message_by six_codec no_quote (quote 0x81 9)).levels ≡ NotShown
  pub reveal-01 : answer_of (quote 0x01 0) ≡ Accepted (record { format = 6; seq = 1; length = 32 })
  pub reveal-01-hides : (message_by six_codec no_quote (quote 0x01 0)).levels ≡ NotShown
  pub reveal-00-shows : (message_by six_codec no_quote (quote 0x00 0)).levels ≡ Shown
  pub reveal-A3 : answer_of (quote 0xA3 36) ≡ Refused 10 68 None
  pub reveal-A3-longer : answer_of (quote 0xA3 45) ≡ Refused 10 77 None
  pub reveal-11 : answer_of (quote 0x11 9) ≡ Refused 10 41 None
  pub reveal-03 : answer_of (quote 0x03 9) ≡ Refused 10 41 None

-- a frame of format nineteen by its times, and one of format five by its category, each with an FF in a field that is not packed
abbrev pub halt_with : List ℕ → List ℕ
halt_with times = frame_around 19 1 1 (0xFF ∷ 0x32 ∷ 0x33 ∷ 0x34 ∷ 0x20 ∷ 0x20 ∷ times ++ (0x49 ∷ []))

abbrev pub notice_with : ℕ → List ℕ
notice_with category = frame_around 5 1 1 (category ∷ 0xFF ∷ [])

-- the place of a bad digit: in each half of the length, and none where its range is the cause; in the header; in a packed field of the body and in no
-- other byte; a price's leading half; the lower of two
pub record PlaceEdges : Type 0 where
  pub length_high : answer_of (0x1B ∷ 0xA0 ∷ 0x14 ∷ []) ≡ NoFrame 3 (Some 2)
  pub length_last : answer_of (0x1B ∷ 0x00 ∷ 0x1F ∷ []) ≡ NoFrame 3 (Some 5)
  pub length_two : answer_of (0x1B ∷ 0x0F ∷ 0xF0 ∷ []) ≡ NoFrame 3 (Some 3)
  pub length-range : answer_of (0x1B ∷ 0x00 ∷ 0x13 ∷ []) ≡ NoFrame 3 None
  pub head_first : answer_of (0x1B ∷ 0x00 ∷ 0x14 ∷ 0xA1 ∷ 0x05 ∷ 0x01 ∷ 0x00 ∷ 0x00 ∷ 0x00 ∷ 0x01 ∷ 0x09 ∷ 0xB9 ∷ 0x0D ∷ 0x0A ∷ []) ≡ Refused 6 14 (Some 6)
  pub head-last : answer_of (0x1B ∷ 0x00 ∷ 0x14 ∷ 0x01 ∷ 0x05 ∷ 0x01 ∷ 0x00 ∷ 0x00 ∷ 0x00 ∷ 0x0F ∷ 0x09 ∷ 0x17 ∷ 0x0D ∷ 0x0A ∷ []) ≡ Refused 6 14 (Some 19)
  pub category-low : answer_of (notice_with 0x0A) ≡ Refused 11 15 (Some 21)
  pub halt-digit : answer_of (halt_with (0x10 ∷ 0x05 ∷ 0x00 ∷ 0x99 ∷ 0x9A ∷ 0xFF ∷ [])) ≡ Refused 11 26 (Some 41)
  pub price-lead : answer_of (frame_around 6 4 1 (0x31 ∷ 0x32 ∷ 0x33 ∷ 0x34 ∷ 0x20 ∷ 0x20 ∷ 0x00 ∷ 0x00 ∷ 0x00 ∷ 0x00 ∷ 0x00 ∷ 0x00 ∷ 0x80 ∷ 0xFF ∷ 0xFF ∷ 0x00 ∷ 0x00 ∷ 0x00 ∷ 0x00 ∷ 0x10 ∷ replicate 8 0)) ≡ Refused 11 41 (Some 58)
