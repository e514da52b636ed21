-- Acceptance exactly by the checks, the message that the bytes mean, and both round trips through the reading; once for any exchange and codec.
use Prim.Native.Nat.{ℕ}
use mathlib.Core.Path.{◌≡◌, sym, ap, ap₂, ◌∙◌}
use mathlib.Core.Bool.{Bool, true, cond}
use mathlib.Core.List.{List, ◌++◌}
use lib.ListN.{length, drop}
use borrow.Author.Tests.{eq-eqb, le-leb}
use Rattle.layout.specs.Checks.{first_fail}
use Rattle.answers.specs.Answers.{named, answer_number}
use Rattle.answers.specs.declared.Frame.{Frame}
use Rattle.answers.specs.declared.Answer.TheVariants.{Accepted}
use Rattle.frame.specs.Header.{Header, own, body, front, rear}
use Rattle.frame.specs.Writing.{written_over}
use Rattle.frame.specs.Codec.{Codec, values_of, Reads, frame_of, Lawful}
use Rattle.frame.proofs.HeaderLaws.{length-own}
use Rattle.frame.proofs.CodecLaws.{own-frame_of, read-written, written_read, legal-read}
use Rattle.exchange.specs.Reading.{Exchange, checks_of, place_of, frame_at, answer_by}
use Rattle.exchange.specs.Trips.{message_by, Speaks, Trips}
use Rattle.exchange.proofs.NumberLaws.{named-accepted}
use Rattle.exchange.proofs.ReadingLaws.{answer-number, checks-outlined, accepted-outlined}

module _ {H : Header} {M : Type 0} (E : Exchange H) (C : Codec H M) (has : ℕ → Bool) (speaks : Speaks E C has)
    (Shaped : M → Type 0) (law : Lawful C Shaped) (none : M) where
  -- ---- the message of a frame that the codec has
  pub message-hit : (t : List ℕ) → first_fail (checks_of E t) ≡ 0 → has (E.format (own H t)) ≡ true
      → message_by E C has none t ≡ C.message (front H (own H t)) (rear H (own H t)) (values_of C (body H (own H t)))
  message-hit t z h = rw (eq-eqb (first_fail (checks_of E t)) 0 z, h)

  pub reads-accepted : (t : List ℕ) (m : M) → Reads C t m → (answer_by E t ≡ Accepted (frame_at E t)) × (message_by E C has none t ≡ m)
  reads-accepted t m rd =
      let p = speaks.passes (own H t) rd.sized rd.good-digits rd.ruled in
      let zero = checks-outlined E t rd.outlined ∙ p.0 in
      (ap (λ (n : ℕ). named n (frame_at E t) (place_of E n t)) zero, message-hit t zero p.1 ∙ sym rd.meant)

  pub accepted-reads : (t : List ℕ) (f : Frame) → answer_by E t ≡ Accepted f → has f.format ≡ true → Reads C t (message_by E C has none t)
  accepted-reads t f e h =
      let n = first_fail (checks_of E t) in
      let z : n ≡ 0 = sym (answer-number E t) ∙ ap answer_number e in
      let o = accepted-outlined E t z in
      let form = ap (λ (x : Frame). has x.format) (named-accepted n (frame_at E t) (place_of E n t) f e) ∙ h in
      let a = speaks.allows (own H t) (sym (checks-outlined E t o) ∙ z) form in
      record { outlined = o; sized = a.0; good-digits = a.1; ruled = a.2; meant = message-hit t z form }

  -- ---- the promises
  pub trips : Trips E C has Shaped none
  trips = record {
    means = accepted-reads;
    accepts = reads-accepted;
    write_read = λ t f buf e h enough.
        let rd = accepted-reads t f e h in
        let m = message_by E C has none t in
        ap₂ (λ (l : Bool) (x : List ℕ). written_over l x buf) (legal-read C Shaped law t m rd) (written_read C Shaped law t m rd)
        ∙ ap (λ (l : Bool). cond l (own H t ++ drop (length (own H t)) buf) buf) (le-leb (length (own H t)) (length buf) enough);
    read-write = λ m s l r.
        let rd = read-written C Shaped law m s l r in
        let a = reads-accepted (frame_of C m ++ r) m rd in
        let same = own-frame_of C Shaped law m s l r in
        let long = sym (length-own H law.header-law (frame_of C m ++ r) rd.outlined) ∙ ap length same in
        (a.0 ∙ (λ i. Accepted (record { format = E.format (same i); seq = E.seq (same i); length = long i })), a.1);
  }
