-- An outcome tells what it was made from: nothing of the answer of a reading of the derivatives exchange is lost in its one number.
use Rattle.std.specs.Prelude.{Some}
use Prim.Native.Nat.{ℕ, ◌≤◌, ◌<◌}
use mathlib.Core.Path.{◌≡◌, refl, sym, ap, ◌∙◌}
use mathlib.Core.Bool.{Bool, true, false, cond}
use mathlib.Core.List.{List}
use native.Mathlib.Omega.{arith}
use lib.ListN.{length, get_or, drop}
use lib.Dec.{eqb, leb}
use Rattle.layout.specs.Checks.{first_fail}
use Rattle.answers.specs.Answers.{named, answer_number, answer_length, answer_place}
use Rattle.answers.specs.declared.Frame.{Frame}
use Rattle.answers.specs.declared.Answer.TheVariants.{Accepted}
use Rattle.frame.specs.Header.{length_end, length_of, length_right, own}
use Rattle.frame.proofs.HeaderLaws.{right-length}
use Rattle.exchange.specs.Reading.{checks_of, place_of, frame_at}
use Rattle.exchange.proofs.ReadingLaws.{answer-number}
use Rattle.exchange.proofs.PlaceLaws.{place_at}
use Rattle.derivatives_frame.specs.Outline.{header, kind}
use Rattle.derivatives_frame.proofs.HeaderHolds.{law}
use Rattle.derivatives_index.specs.Index.{number_of}
use Rattle.derivatives_reading.specs.Reading.{derivatives, answer_of}
use Rattle.derivatives_reading.proofs.ReadingLaws.{behind}
use Rattle.derivatives_reading.proofs.Theorems.{index-answers, index-places}
use Rattle.c_outcomes.specs.Lent.{is_of}
use Rattle.c_outcomes.specs.Outcomes.{answer_part, format_part, length_part, seq_part, place_from, read_outcome}
use Rattle.c_outcomes.proofs.OutcomeLaws as any
use Rattle.c_outcomes.proofs.OutcomeLaws.{Tellable, answer_in, right-before}

-- both kinds are called by a number of one byte
number-low : (k : ℕ) → number_of k < 256
number-low k = go (eqb k 53)
  where
    go : (x : Bool) → cond x 60 64 < 256
    go true = omega arith
    go false = omega arith

module _ (t : List ℕ) where
  abbrev n : ℕ
  n = first_fail (checks_of derivatives t)

  abbrev f : List ℕ
  f = own header t

  named-is : answer_of t ≡ named n (frame_at derivatives t) (place_of derivatives n t)
  unfolding answer_of
  named-is = refl

  number_is : answer_number (answer_of t) ≡ n
  unfolding answer_of
  number_is = answer-number derivatives t

  few : n ≤ 13
  few = omega (arith, (index-answers t).at-most, (index-answers t).first)

  -- where none of 1 to 5 is answered the length is right
  length-told : (1 ≤ n → n ≤ 5 → ⊥) → length_of header t ≤ 1024
  length-told h =
      let right = right-before n (leb 1 (length t)) (eqb (get_or t 0 0) 27) (leb (length_end header) (length t)) (length_right header t) (drop 4 (checks_of derivatives t)) refl h in
      (right-length header law t right).1

  -- and so a place is near the frame's first byte
  place-near : (q : ℕ) → place_of derivatives n t ≡ Some q → q < 4294967295
  place-near q e = omega (arith, ((index-places t).within q (place_at derivatives law behind t n (answer-number derivatives t) ∙ e)).1)

  -- the answer to any bytes has room in an outcome
  pub tells : Tellable (answer_of t)
  tells = record {
    frame = frame_at derivatives t;
    place = place_of derivatives n t;
    is-named = named-is ∙ ap (λ (k : ℕ). named k (frame_at derivatives t) (place_of derivatives n t)) (sym number_is);
    few = omega (arith, number_is, few);
    low = λ z. number-low (kind f);
    short = λ h. length-told (λ u v. h (omega (arith, number_is, u)) (omega (arith, number_is, v)));
    near = place-near;
  }

  -- a reading's outcome tells the answer
  pub reading-back : answer_in (read_outcome (answer_of t)) ≡ answer_of t
  reading-back = any.reading-back (answer_of t) tells

  -- it has the answer's number and the length beside it
  pub reading-told : (answer_part (read_outcome (answer_of t)) ≡ answer_number (answer_of t)) × (length_part (read_outcome (answer_of t)) ≡ answer_length (answer_of t))
  reading-told = any.reading-told (answer_of t) tells

  -- an accepted frame's outcome has its format, its length and its number
  pub accepted-told : (g : Frame) → answer_of t ≡ Accepted g
      → (format_part (read_outcome (answer_of t)) ≡ g.format) × (length_part (read_outcome (answer_of t)) ≡ g.length) × (seq_part (read_outcome (answer_of t)) ≡ g.seq)
  accepted-told g e = any.accepted-told (answer_of t) tells g e

  -- a refusal's outcome has the place of the bad digit that it tells, or none
  pub place-told : (answer_number (answer_of t) ≡ 0 → ⊥) → place_from (seq_part (read_outcome (answer_of t))) ≡ answer_place (answer_of t)
  place-told h = any.place-told (answer_of t) tells h

  -- it has a format exactly where a frame of the format is accepted, and so where lent memory is filled
  pub format-told : (format : ℕ) → 1 ≤ format → is_of format (answer_of t) ≡ eqb (format_part (read_outcome (answer_of t))) format
  format-told k one = any.format-told (answer_of t) tells k one
