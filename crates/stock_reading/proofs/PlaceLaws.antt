-- A frame at a place on a line: where it stands, and what a reader of one kind of frames goes by.
use Rattle.std.specs.Prelude.{Err, Ok, Result}
use Prim.Native.Nat.{ℕ, ◌+◌, ◌-◌, ◌*◌, ◌≤◌}
use mathlib.Core.Path.{◌≡◌, refl, sym, ap, ◌∙◌, subst}
use mathlib.Core.Bool.{false, cond}
use mathlib.Core.List.{List}
use native.Mathlib.Omega.{arith}
use lib.ListN.{length, take, drop, length-drop}
use lib.Dec.{eqb}
use borrow.Author.Tests.{eqb-false}
use Rattle.layout.specs.Checks.{first_fail}
use Rattle.stock_frame.specs.Outline.{length_of, own, business, format, version, sequence, head_of, outline_of}
use Rattle.stock_frame.specs.Format.{values_of, body_checks, body_answer}
use Rattle.stock_frame.specs.Codec.{Codec}
use Rattle.answers.specs.declared.Answer.{Answer}
use Rattle.stock_frame.specs.declared.head.Head.{Head}
use Rattle.stock_frame.specs.Reads.{Outlined}
use Rattle.stock_frame.proofs.FormatsLaws.{Listed}
use Rattle.stock_frame.proofs.OutlineLaws.{length-own, least-length, within-line}
use Rattle.stock_frame.proofs.PartLaws.{whole-outlined, body-part}
use Rattle.stock_reading.specs.Reading.{formats, answer_of, message_by}
use Rattle.stock_reading.specs.declared.reading.Whole.{Whole as Found-Whole}
use Rattle.stock_reading.specs.Steps.{kind_of, is_kind, after_outline, WholeAt, kind_says}
use Rattle.stock_reading.proofs.HeaderLaws.{named-format, kind-hit}
use Rattle.stock_reading.proofs.ReadingLaws.{business-lt, format-lt, version-lt, answer-outlined, message-not, message-hit, message-miss}
use Rattle.stock_reading.specs.declared.reading.Whole.{Whole}

-- ---- a frame whose outline is whole at a place on a line
module _ (line : List ℕ) (at : ℕ) (w : Found-Whole) (s : WholeAt line at w) where
  abbrev bytes : List ℕ
  bytes = drop at line

  abbrev part : List ℕ
  part = take (w.end - w.start) (drop w.start line)

  outlined : Outlined (drop at line)
  outlined = (whole-outlined (drop at line) (record { kind = w.kind; seq = w.seq; length = w.length }) s.whole).0

  head-is : (record { kind = w.kind; seq = w.seq; length = w.length }) ≡ head_of (own (drop at line))
  head-is = (whole-outlined (drop at line) (record { kind = w.kind; seq = w.seq; length = w.length }) s.whole).1

  kind-is : w.kind ≡ (business (own bytes) * 100 + format (own bytes)) * 100 + version (own bytes)
  kind-is = ap (λ (h : Head). h.kind) head-is

  seq-is : w.seq ≡ sequence (own bytes)
  seq-is = ap (λ (h : Head). h.seq) head-is

  pub whole-answer : after_outline w.kind w.seq part ≡ answer_of bytes
  whole-answer = (λ i. after_outline (kind-is i) (seq-is i) (s.body-there i)) ∙ answer-outlined bytes outlined

  module _ {M : Type 0} (C : Codec M) (none : M) (listed : Listed C.form formats) where
    pub whole-hit : w.kind ≡ kind_of C.form
        → (body_answer C.form w.seq part ≡ answer_of bytes)
        × (cond (eqb (first_fail (body_checks C.form part)) 0) (C.message w.seq (values_of C.form part)) none ≡ message_by C none bytes)
    whole-hit e =
        let b = business-lt bytes outlined in
        let f = format-lt bytes outlined in
        let v = version-lt bytes outlined in
        let k = kind-is in
        let nf = (named-format C.form listed).number_fits in
        let vf = (named-format C.form listed).version-fits in
        let bu : business (own bytes) ≡ 1 = omega arith in
        let fm : format (own bytes) ≡ C.form.number = omega arith in
        let ve : version (own bytes) ≡ C.form.version = omega arith in (
          kind-hit w.kind w.seq part C.form listed e ∙ whole-answer,
          (λ i. cond (eqb (first_fail (body_checks C.form (s.body-there i))) 0) (C.message (seq-is i) (values_of C.form (s.body-there i))) none)
              ∙ message-hit C none listed bytes outlined bu fm ve,
        )

-- a frame of another kind, or none
module _ {M : Type 0} (C : Codec M) (none : M) (listed : Listed C.form formats) (t : List ℕ) where
  pub kind-miss : is_kind (kind_of C.form) (outline_of t) ≡ false → none ≡ message_by C none t
  kind-miss miss = go (outline_of t) refl
    where
      go : (o : Result Head Answer) → outline_of t ≡ o → none ≡ message_by C none t
      go (Err a) e = message-not t a e C none
      go (Ok h) e =
          let other = eqb-false h.kind (kind_of C.form) (sym (ap (is_kind (kind_of C.form)) e) ∙ miss) in
          let o = whole-outlined t h e in
          message-miss C none listed t o.0 (λ p. other (ap (λ (d : Head). d.kind) o.1 ∙ (λ i. (p.0 i * 100 + p.1 i) * 100 + p.2 i)))

-- ---- what a reader of one kind goes by, once it has looked for a frame of the kind
-- such a frame: where its body stands, and that reading the body is reading the frame
pub record KindFound {M : Type 0} (C : Codec M) (none : M) (line : List ℕ) (at : ℕ) (w : Found-Whole) : Type 0 where
  pub in_order : w.start ≤ w.end
  pub in-line : w.end ≤ length line
  pub answers : body_answer C.form w.seq (take (w.end - w.start) (drop w.start line)) ≡ answer_of (drop at line)
  pub means : let b = take (w.end - w.start) (drop w.start line) in
      cond (eqb (first_fail (body_checks C.form b)) 0) (C.message w.seq (values_of C.form b)) none ≡ message_by C none (drop at line)

module _ {M : Type 0} (C : Codec M) (none : M) (listed : Listed C.form formats) (line : List ℕ) (at : ℕ) (r : Result Whole Answer) (said : kind_says r line at (kind_of C.form)) where
  pub kind-found : (w : Found-Whole) → r ≡ Ok w → KindFound C none line at w
  kind-found w e =
      let there = subst (λ (x : Result Whole Answer). kind_says x line at (kind_of C.form)) e said in
      let hit = whole-hit line at w there.0 C none listed there.1 in
      record { in_order = there.0.in_order; in-line = there.0.in-line; answers = hit.0; means = hit.1 }

  -- none such: the answer stands, and there is no message
  pub kind-other : (a : Answer) → r ≡ Err a → (a ≡ answer_of (drop at line)) × (none ≡ message_by C none (drop at line))
  kind-other a e =
      let there = subst (λ (x : Result Whole Answer). kind_says x line at (kind_of C.form)) e said in
      (there.0, kind-miss C none listed (drop at line) there.1)

-- ---- where a whole frame stands
module _ (line : List ℕ) (at : ℕ) (h : Head) (e : outline_of (drop at line) ≡ Ok h) where
  found-outlined : Outlined (drop at line)
  found-outlined = (whole-outlined (drop at line) h e).0

  found-length : h.length ≡ length_of (drop at line)
  found-length = ap (λ (x : Head). x.length) (whole-outlined (drop at line) h e).1 ∙ length-own (drop at line) found-outlined

  pub found-bounds : (14 ≤ h.length) × (at + h.length ≤ length line)
  found-bounds =
      let low : 14 ≤ length_of (drop at line) = least-length (drop at line) found-outlined in
      let high : length_of (drop at line) ≤ length line - at = rw length-drop at (within-line (drop at line) found-outlined) in
      (omega (arith, found-length), omega (arith, found-length))

  pub found-whole : WholeAt line at (record { start = at + 10; end = at + h.length - 3; kind = h.kind; seq = h.seq; length = h.length })
  found-whole =
      let b = found-bounds in
      record {
        whole = e;
        in_order = omega (arith, b.0);
        in-line = omega (arith, b.0, b.1);
        body-there = body-part line at (at + 10) (at + h.length - 3) found-outlined refl (omega (arith, b.0, found-length));
      }
