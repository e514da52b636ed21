-- What an accepted frame is called, and what reading a written index value tells.
use Rattle.std.specs.Prelude.{ℕ, ◌+◌, ◌≡◌, true, List, ◌++◌}
use Rattle.answers.specs.declared.Frame.{Frame}
use Rattle.answers.specs.declared.Answer.TheVariants.{Accepted}
use Rattle.frame.specs.Codec.{legal, frame_of}
use Rattle.derivatives_index.specs.Index.{number_of, index_codec, ShapedIndex}
use Rattle.derivatives_index.specs.declared.index.Index.{Index}
use Rattle.derivatives_reading.specs.Reading.{is_index, answer_of, index_in}

-- of every accepted frame, and of every index value that can be written
pub record IndexSays : Type 0 where
  -- an accepted frame is I060 or I064
  pub format-is : (t : List ℕ) (f : Frame) → answer_of t ≡ Accepted f → is_index f.format ≡ true
  -- a written index value is accepted, whatever follows it, by the number of its kind, its own number and its length, and is read as it was
  pub read-write : (m : Index) → ShapedIndex m → legal index_codec m ≡ true → (r : List ℕ)
      → (answer_of (frame_of index_codec m ++ r) ≡ Accepted (record { format = number_of m.kind; seq = m.seq; length = 26 + m.length }))
      × (index_in (frame_of index_codec m ++ r) ≡ m)
