-- Format six while bit 0 of its reveal byte was handed on unread: what check 10 was, and what a writing asked. The rules of today are held against it.
use Rattle.std.specs.Prelude.{ℕ, ◌+◌, ◌%◌, ◌≡◌, Bool, true, false, ◌&&◌, List, [], ◌∷◌, length, get_or, drop, leb, None}
use Rattle.answers.specs.declared.Answer.TheVariants.{Refused}
use Rattle.stock_frame.specs.Format.{Format, around, ranged, body_answer}
use Rattle.stock_frame.specs.Codec.{Codec, legal, frame_of}
use Rattle.stock_quotes.specs.declared.Levels.TheVariants.{Shown}
use Rattle.stock_quotes.specs.declared.Quote.{Quote}
use Rattle.stock_quotes.specs.declared.Reveal.{Reveal}
use Rattle.stock_quotes.specs.Reveal.{revealed, side_room, count_right}
use Rattle.stock_quotes.specs.Quotes.{reveal_of, reveal_place, six, six_timed, six_ruled, zero_pairs, six_codec, ShapedQuote}

-- check 10: each side's levels have room, whatever bit 0 says
abbrev pub levels_before : Reveal → Bool
levels_before r = leb r.bids side_room && leb r.asks side_room

abbrev pub six_before : Format
six_before = record {
  number = six.number;
  version = six.version;
  least = six.least;
  most = six.most;
  cells = six.cells;
  levels = λ vs. levels_before (revealed (reveal_of vs));
  timed = six_timed;
  ruled = six_ruled;
}

-- what a message leaves unused is zero; it said nothing of its levels
abbrev pub tidy_before : Quote → Bool
tidy_before m =
    let r = revealed m.reveal in
    zero_pairs (drop r.trades (m.trade ∷ [])) && (zero_pairs (drop r.bids m.bids) && zero_pairs (drop r.asks m.asks))

abbrev pub codec_before : Codec Quote
codec_before = record {
  form = six_before;
  seq = six_codec.seq;
  cells = six_codec.cells;
  values = six_codec.values;
  tidy = tidy_before;
  message = six_codec.message;
}

-- the levels that a reveal byte counts are as bit 0 says: any where it is clear, none where it is set
abbrev pub as_bit0 : ℕ → Bool
as_bit0 byte = let r = revealed byte in count_right r.levels (r.bids + r.asks)

pub record AsBefore : Type 0 where
  -- a body is answered as it was, but for bit 0 beside a level
  pub reading : (seq : ℕ) (b : List ℕ) → as_bit0 (get_or b reveal_place 0) ≡ true → body_answer six seq b ≡ body_answer six_before seq b
  -- that answers 10, at its place behind the format's range
  pub levels-hidden : (seq : ℕ) (b : List ℕ) → as_bit0 (get_or b reveal_place 0) ≡ false → ranged six (length b) ≡ true → body_answer six seq b ≡ Refused 10 (around + length b) None
  -- so bit 0 clear changes nothing of a reading, and its message shows its levels
  pub clear-reading : (seq : ℕ) (b : List ℕ) → get_or b reveal_place 0 % 2 ≡ 0 → body_answer six seq b ≡ body_answer six_before seq b
  pub clear-message : (seq : ℕ) (vs : List ℕ) → reveal_of vs % 2 ≡ 0 → (six_codec.message seq vs).levels ≡ Shown
  -- nor of a writing, of a message that shows its levels: it can be written as before, and has the same frame
  pub clear-writing : (m : Quote) → ShapedQuote m → m.levels ≡ Shown → m.reveal % 2 ≡ 0 → (legal six_codec m ≡ legal codec_before m) × (frame_of six_codec m ≡ frame_of codec_before m)
