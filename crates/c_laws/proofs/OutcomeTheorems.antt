-- An outcome tells what it was made from: nothing of a reading's answer is lost in its one number.
use Rattle.std.specs.Prelude.{Option}
use Prim.Native.Nat.{ℕ, ◌≤◌, ◌<◌}
use mathlib.Core.Path.{◌≡◌, refl, sym, ap, ◌∙◌}
use mathlib.Core.List.{List}
use native.Mathlib.Omega.{arith}
use lib.ListN.{length, get_or, drop}
use lib.Dec.{eqb, leb}
use borrow.Author.Tests.{leb-true}
use Rattle.digits.specs.Packed.{good_field}
use Rattle.digits.proofs.Bools.{and_right}
use Rattle.layout.specs.Checks.{first_fail}
use Rattle.answers.specs.Answers.{named, answer_number, answer_length, answer_place}
use Rattle.stock_frame.specs.Outline.{length_bytes, length_of, own, format, sequence, length_right}
use Rattle.answers.specs.declared.Frame.{Frame}
use Rattle.answers.specs.declared.Answer.TheVariants.{Accepted}
use Rattle.stock_reading.specs.Reading.{checks, place_of, answer_of}
use Rattle.stock_frame.proofs.FigureLaws.{fails-at-most}
use Rattle.stock_reading.proofs.HeaderLaws.{format_small}
use Rattle.stock_reading.proofs.Trips.{answer-number, answer-says}
use Rattle.stock_reading.proofs.PlaceTheorems.{place_is, place-says}
use Rattle.c_outcomes.specs.Lent.{is_of}
use Rattle.c_outcomes.specs.Outcomes.{answer_part, format_part, length_part, seq_part, place_from, read_outcome}
use Rattle.c_outcomes.proofs.OutcomeLaws as any
use Rattle.c_outcomes.proofs.OutcomeLaws.{Tellable, answer_in, right-before}

-- ---- the checks of a reading
module _ (t : List ℕ) where
  -- the numbers of the table are at most 13
  checks-small : first_fail (checks t) ≤ 13
  unfolding checks
  checks-small = fails-at-most 13 (checks t) refl

  -- where none fails the format is one of the list
  format-low : first_fail (checks t) ≡ 0 → format (own t) < 256
  format-low z = omega (arith, format_small (format (own t)) ((answer-says t).format-is (answer-number t ∙ z)))

  -- where none of 1 to 5 is answered the length is right
  length-told : (1 ≤ first_fail (checks t) → first_fail (checks t) ≤ 5 → ⊥) → length_of t ≤ 1024
  unfolding checks
  length-told h =
      let right = right-before (first_fail (checks t)) (leb 1 (length t)) (eqb (get_or t 0 0) 27) (leb 3 (length t)) (length_right t) (drop 4 (checks t)) refl h in
      leb-true (length_of t) 1024 (and_right (leb 14 (length_of t)) _ (and_right (good_field 4 (length_bytes t)) _ right))

  abbrev frame : Frame
  frame = record { format = format (own t); seq = sequence (own t); length = length_of t }

  abbrev place : Option ℕ
  place = place_of (first_fail (checks t)) t

  named-is : answer_of t ≡ named (first_fail (checks t)) frame place
  unfolding answer_of
  named-is = refl

  -- the answer to any bytes has room in an outcome
  pub tells : Tellable (answer_of t)
  tells =
      let same = answer-number t in
      record {
        frame = frame;
        place = place;
        is-named = is-named;
        few = omega (arith, same, checks-small);
        low = λ z. format-low (sym same ∙ z);
        short = λ h. length-told (λ u v. h (omega (arith, same, u)) (omega (arith, same, v)));
        near = λ q e. omega (arith, ((place-says t).within q (place_is t ∙ ap (λ (k : ℕ). place_of k t) same ∙ e)).1);
      }
    where
      is-named : answer_of t ≡ named (answer_number (answer_of t)) frame place
      is-named = named-is ∙ ap (λ (n : ℕ). named n frame place) (sym (answer-number t))

  -- a reading's outcome tells the answer
  pub reading-back : answer_in (read_outcome (answer_of t)) ≡ answer_of t
  reading-back = any.reading-back (answer_of t) tells

  -- it has the answer's number and the length beside it
  pub reading-told : (answer_part (read_outcome (answer_of t)) ≡ answer_number (answer_of t)) × (length_part (read_outcome (answer_of t)) ≡ answer_length (answer_of t))
  reading-told = any.reading-told (answer_of t) tells

-- an accepted frame's outcome has its format, its length and its number
pub accepted-told : (t : List ℕ) (f : Frame) → answer_of t ≡ Accepted f
    → (format_part (read_outcome (answer_of t)) ≡ f.format) × (length_part (read_outcome (answer_of t)) ≡ f.length) × (seq_part (read_outcome (answer_of t)) ≡ f.seq)
accepted-told t f e = any.accepted-told (answer_of t) (tells t) f e

-- a refusal's outcome has the place of the bad digit that it tells, or none
pub place-told : (t : List ℕ) → (answer_number (answer_of t) ≡ 0 → ⊥) → place_from (seq_part (read_outcome (answer_of t))) ≡ answer_place (answer_of t)
place-told t h = any.place-told (answer_of t) (tells t) h

-- a reading's outcome has a format exactly where a frame of the format is accepted, and so where lent memory is filled
pub format-told : (t : List ℕ) (format : ℕ) → 1 ≤ format → is_of format (answer_of t) ≡ eqb (format_part (read_outcome (answer_of t))) format
format-told t k one = any.format-told (answer_of t) (tells t) k one
