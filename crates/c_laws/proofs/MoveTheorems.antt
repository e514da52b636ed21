-- The outcome of a move along a line tells the move.
use Prim.Native.Nat.{ℕ}
use mathlib.Core.Path.{◌≡◌}
use mathlib.Core.Bool.{Bool, false}
use mathlib.Core.List.{List}
use lib.ListN.{drop}
use Rattle.answers.specs.Answers.{answer_number, answer_place}
use Rattle.answers.specs.declared.Answer.TheVariants.{Accepted}
use Rattle.answers.specs.declared.Frame.{Frame}
use Rattle.walk.specs.Walk.{stops}
use Rattle.stock_reading.specs.Reading.{answer_of}
use Rattle.walk.specs.Lines.{step_number}
use Rattle.stock_lines.specs.Lines.{answers, longest, move_at}
use Rattle.stock_lines.proofs.LineLaws.{sound-answers}
use Rattle.c_outcomes.specs.Outcomes.{answer_part, format_part, length_part, seq_part, place_from}
use Rattle.c_outcomes.specs.Walking.{move_outcome}
use Rattle.c_outcomes.proofs.MoveLaws as any
use Rattle.c_outcomes.proofs.MoveLaws.{step_in, step_bytes}
use Rattle.c_laws.proofs.OutcomeTheorems.{tells}

module _ (closed : Bool) (at : ℕ) (line : List ℕ) where
  -- a move's outcome tells it at its place: that the walk stops, or the answer with the frame's format, length and number, and the bytes
  pub move-back : step_in at (move_outcome (move_at closed at line)) ≡ move_at closed at line
  move-back = any.move-back answer_of tells longest sound-answers closed at line

  -- it has the answer's number, and the bytes that the move goes past
  pub move-told : (answer_part (move_outcome (move_at closed at line)) ≡ step_number (move_at closed at line))
      × (length_part (move_outcome (move_at closed at line)) ≡ step_bytes (move_at closed at line))
  move-told = any.move-told answer_of tells longest sound-answers closed at line

  -- past an accepted frame it has the frame's format, its length and its number
  pub accepted-moved : (f : Frame) → answer_of (drop at line) ≡ Accepted f → let x = move_outcome (move_at closed at line) in
      (format_part x ≡ f.format) × (length_part x ≡ f.length) × (seq_part x ≡ f.seq)
  accepted-moved f e = any.accepted-moved answer_of tells longest sound-answers closed at line f e

  -- past a refusal it has the place of the bad digit that it tells, or none
  pub place-moved : (answer_number (answer_of (drop at line)) ≡ 0 → ⊥) → stops answers closed (drop at line) ≡ false
      → place_from (seq_part (move_outcome (move_at closed at line))) ≡ answer_place (answer_of (drop at line))
  place-moved h moves = any.place-moved answer_of tells longest sound-answers closed at line h moves
