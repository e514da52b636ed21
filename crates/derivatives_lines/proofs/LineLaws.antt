-- The reading of the derivatives exchange's frames is sound, with and without the index values, so the laws of a walk hold of its lines.
use Rattle.std.specs.Prelude.{None}
use Prim.Native.Nat.{ℕ}
use mathlib.Core.Path.{◌≡◌}
use mathlib.Core.List.{List, ◌∷◌, ◌++◌}
use Rattle.answers.specs.Answers.{answer_number}
use Rattle.answers.specs.declared.Answer.TheVariants.{NoFrame}
use Rattle.exchange.proofs.SoundLaws as common
use Rattle.walk.specs.Sound.{Sound}
use Rattle.derivatives_frame.proofs.HeaderHolds.{law}
use Rattle.derivatives_index.specs.Index.{index_codec, no_index}
use Rattle.derivatives_reading.specs.Reading.{derivatives, is_index, answer_of, index_in}
use Rattle.derivatives_reading.proofs.ReadingLaws.{behind}
use Rattle.derivatives_lines.specs.Lines.{answers, longest, sayings}

-- ---- by answers
pub sound-answers : Sound answers longest
unfolding answer_of
sound-answers = common.sound-reading derivatives law behind

-- where no 27 stands the reading answers 1
pub quiet : (b : ℕ) (bs : List ℕ) → (b ≡ 27 → ⊥) → answer_of (b ∷ bs) ≡ NoFrame 1 None
unfolding answer_of
quiet = common.quiet derivatives law behind

-- ---- with index values
-- bytes that follow take none back
index_stays : (t u : List ℕ) → (answer_number (answer_of t) ≡ 2 → ⊥) → index_in (t ++ u) ≡ index_in t
unfolding answer_of index_in
index_stays t u h = common.message-more derivatives law behind t u h index_codec is_index no_index

pub sound-sayings : Sound sayings longest
sound-sayings = record {
  nothing = sound-answers.nothing;
  some = sound-answers.some;
  inside = sound-answers.inside;
  settled = λ t u h. λ i. record { answer = sound-answers.settled t u h i; index = index_stays t u h i };
  short = sound-answers.short;
}
