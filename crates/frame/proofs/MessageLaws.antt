-- A message's frame written: its body put at its place, then closed. Over any header and any kind's messages.
use Rattle.std.specs.Prelude.{Err, Ok, Result}
use Prim.Native.Nat.{ℕ, ◌+◌, ◌-◌, ◌≤◌, ◌<◌}
use mathlib.Core.Path.{◌≡◌, ap, ap₂, ◌∙◌}
use mathlib.Core.Bool.{Bool, true, cond}
use mathlib.Core.List.{List, ◌++◌}
use native.Mathlib.Omega.{arith}
use lib.ListN.{length, take, drop}
use lib.Seq.{sets, length-sets}
use lib.Dec.{leb}
use borrow.Author.Tests.{le-leb}
use Rattle.digits.proofs.Bools.{and_both}
use Rattle.digits.proofs.FieldLaws.{taken-sets}
use Rattle.layout.specs.Cells.{size, encode}
use Rattle.layout.proofs.CellLaws.{length-encode}
use Rattle.layout.proofs.PutLaws.{drop-sets}
use Rattle.frame.specs.Header.{Header, start, around}
use Rattle.frame.specs.Writing.{frame_around, write_answer, written_over, close_answer, closed_over}
use Rattle.frame.specs.Codec.{Codec, legal, frame_of, Lawful}
use Rattle.frame.proofs.CodecLaws.{legal-fits, length-frame_of}
use Rattle.frame.proofs.WriteLaws.{write-short, write-whole}
use Rattle.answers.specs.declared.WriteError.{WriteError}
use Rattle.answers.specs.declared.WriteError.TheVariants.{NoRoom}

-- ---- closing around a body that was put at its place
module _ (H : Header) (right : Bool) (vs ws : List ℕ) (n : ℕ) (buf t b : List ℕ) (c : right ≡ true) (fit : n ≤ length buf)
    (so : t ≡ sets buf (start H) b) (long : around H + length b ≡ n) where
  same-room : leb n (length t) ≡ true
  same-room = le-leb n (length t) (omega (arith, ap length so, length-sets buf (start H) b))

  body-put : take (n - around H) (drop (start H) t) ≡ b
  body-put =
      ap (λ (x : List ℕ). take (n - around H) (drop (start H) x)) so
      ∙ taken-sets buf b (start H) (n - around H) (omega arith) (omega arith)

  rest-kept : drop n t ≡ drop n buf
  rest-kept = ap (drop n) so ∙ drop-sets b buf (start H) n (omega arith)

  pub close-answers : close_answer right n t ≡ Ok n
  close-answers = rw (c, same-room)

  pub close-leaves : closed_over H right vs ws n t ≡ frame_around H vs ws b ++ drop n buf
  close-leaves =
      ap (λ (x : Bool). cond x (frame_around H vs ws (take (n - around H) (drop (start H) t)) ++ drop n t) t) (and_both c same-room)
      ∙ ap₂ (λ (x y : List ℕ). frame_around H vs ws x ++ y) body-put rest-kept

-- ---- a message that the rules allow, by whatever test says so
module _ {H : Header} {M : Type 0} (C : Codec H M) (Shaped : M → Type 0) (law : Lawful C Shaped) (m : M) (s : Shaped m) (l : legal C m ≡ true)
    (allowed : Bool) (e : allowed ≡ true) where
  abbrev whole : ℕ
  whole = around H + size (C.cells m)

  -- the buffer is too short
  pub message-short : (buf : List ℕ) → length buf < whole
      → (Err NoRoom ≡ write_answer allowed (frame_of C m) buf) × (buf ≡ written_over allowed (frame_of C m) buf)
  message-short buf h = write-short allowed (frame_of C m) buf e whole (length-frame_of C Shaped law m s l) h

  -- its body was put at its place, then closing answered and left u
  pub message-closed : (right : Bool) → right ≡ true → (buf t u : List ℕ) (answer : Result ℕ WriteError) → whole ≤ length buf
      → t ≡ sets buf (start H) (encode (C.cells m) (C.values m))
      → answer ≡ close_answer right whole t → u ≡ closed_over H right (C.before m) (C.behind m) whole t
      → (answer ≡ write_answer allowed (frame_of C m) buf) × (u ≡ written_over allowed (frame_of C m) buf)
  message-closed right c buf t u answer h so p q =
      let b = encode (C.cells m) (C.values m) in
      let long : around H + length b ≡ whole = ap (λ (k : ℕ). around H + k) (length-encode (C.cells m) (C.values m) (legal-fits C m l)) in
      let w = write-whole allowed (frame_of C m) buf e whole (length-frame_of C Shaped law m s l) h in (
        p ∙ close-answers H right (C.before m) (C.behind m) whole buf t b c h so long ∙ w.0,
        q ∙ close-leaves H right (C.before m) (C.behind m) whole buf t b c h so long ∙ w.1,
      )
