-- The text of an accepted notice stands on the line, from byte 12 of its frame on.
use Prim.Native.Nat.{ℕ, zero, suc, ◌+◌, ◌-◌, ◌≤◌}
use mathlib.Core.Path.{◌≡◌, refl, sym, ap, ap₂, ◌∙◌}
use mathlib.Core.Bool.{true}
use mathlib.Core.List.{List, [], ◌∷◌, ◌++◌}
use native.Mathlib.Omega.{arith}
use lib.ListN.{length, take, drop, replicate, length-drop}
use lib.Seq.{drop-drop}
use borrow.Author.Tests.{eqb-true}
use Rattle.digits.proofs.Bools.{no_false}
use Rattle.stock_frame.specs.Outline.{length_of, own, body}
use Rattle.stock_frame.specs.Format.{values_of}
use Rattle.layout.specs.Bytes.{bytes_over}
use Rattle.answers.specs.Answers.{answer_length}
use Rattle.answers.specs.declared.Answer.{Answer}
use Rattle.answers.specs.declared.Answer.TheVariants.{Accepted, NoFrame, Refused}
use Rattle.stock_frame.proofs.OutlineLaws.{within-line, length-body}
use Rattle.stock_frame.proofs.PartLaws.{body-part}
use Rattle.stock_frame.proofs.CodecLaws.{Reads}
use Rattle.stock_notices.specs.Notices.{five, five_codec, room}
use Rattle.stock_notices.specs.declared.Notice.{Notice}
use Rattle.stock_notices.specs.declared.NoticeReading.{NoticeReading}
use Rattle.stock_notices.proofs.NoticeLaws.{text-length, ranged-text, text-put}
use Rattle.stock_notices_read.proofs.ReadSteps.{values-five}
use Rattle.stock_reading.specs.Reading.{answer_of, notice_at}
use Rattle.stock_reading.proofs.Trips.{trips-five}
use Rattle.c_outcomes.specs.Lent.{is_of}

-- all but the first of the first bytes
behind-first : (k : ℕ) (l : List ℕ) → drop 1 (take (suc k) l) ≡ take k (drop 1 l)
behind-first zero [] = refl
behind-first (suc k) [] = refl
behind-first k (x ∷ l) = refl

-- a reading of a place on a line that accepts a notice
module _ (line : List ℕ) (at : ℕ) (r : NoticeReading) (e : r ≡ notice_at (drop at line)) (is : is_of 5 r.answer ≡ true) where
  abbrev t : List ℕ
  t = drop at line

  abbrev b : List ℕ
  b = body (own t)

  abbrev n : ℕ
  n = r.notice.length

  -- the bytes begin with a notice's frame
  reads : Reads five_codec t (notice_at t).notice
  reads = go (answer_of t) refl (sym (ap (λ (x : NoticeReading). is_of 5 x.answer) e) ∙ is)
    where
      go : (a : Answer) → answer_of t ≡ a → is_of 5 a ≡ true → Reads five_codec t (notice_at t).notice
      go (Accepted f) q i = trips-five.means t f q (eqb-true f.format 5 i)
      go (NoFrame m p) q i = absurd (no_false i)
      go (Refused m l p) q i = absurd (no_false i)

  -- its body is the category and the text, which has room
  text-long : (1 + n ≡ length b) × (n ≤ room)
  text-long =
      let long : n ≡ length b - 1 =
      ap (λ (x : NoticeReading). x.notice.length) e ∙ ap (λ (m : Notice). m.length) reads.meant ∙ text-length b in
      let range = ranged-text (length b) reads.bodied.within-range in
      (omega (arith, range.0), omega (arith, range.1))

  -- the text ends before the line does
  pub text-within : at + 11 + n ≤ length line
  text-within =
      let high : length_of t ≤ length line - at = rw length-drop at (within-line t reads.outlined) in
      omega (arith, high, length-body t reads.outlined, text-long.0)

  -- a caller in C has the frame's length, which is the text's and 14
  pub text-told : answer_length r.answer ≡ n + 14
  text-told =
      let whole : answer_length r.answer ≡ length_of t =
      ap (λ (x : NoticeReading). answer_length x.answer) e ∙ ap answer_length (trips-five.accepts t (notice_at t).notice reads).0 in
      omega (arith, whole, length-body t reads.outlined, text-long.0)

  -- the text, as the part `&line[at + 11..at + 11 + n]`
  abbrev text : List ℕ
  text = take (at + 11 + n - (at + 11)) (drop (at + 11) line)

  -- it is what follows the category
  text-there : text ≡ drop 1 b
  text-there =
      let part = body-part line at (at + 10) (at + 10 + suc n) reads.outlined refl (omega (arith, length-body t reads.outlined, text-long.0)) in
      let k : at + 10 + suc n - (at + 10) ≡ suc n = omega arith in
      let long : at + 11 + n - (at + 11) ≡ n = omega arith in
      let next : at + 11 ≡ at + 10 + 1 = omega arith in
      ap₂ (λ (i j : ℕ). take i (drop j line)) long next
      ∙ ap (take n) (sym (drop-drop 1 (at + 10) line))
      ∙ sym (behind-first n (drop (at + 10) line))
      ∙ ap (λ (x : ℕ). drop 1 (take x (drop (at + 10) line))) (sym k)
      ∙ ap (drop 1) part

  -- over zeros it is the notice's
  pub text-bytes : bytes_over text (replicate room 0) 0 ≡ (notice_at t).notice.text
  text-bytes =
      let values : drop 1 (values_of five b) ≡ drop 1 b = ap (drop 1) (values-five b (omega (arith, text-long.0))) in
      let long : length (drop 1 b) ≡ n = rw length-drop (omega (arith, text-long.0)) in
      ap (λ (x : List ℕ). bytes_over x (replicate room 0) 0) text-there
      ∙ text-put (drop 1 b) room (omega (arith, text-long.1))
      ∙ ap (λ (x : List ℕ). x ++ replicate (room - length x) 0) (sym values)
      ∙ sym (ap (λ (m : Notice). m.text) reads.meant)
