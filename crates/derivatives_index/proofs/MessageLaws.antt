-- A message's frame written: its body put at its place, then closed. Over any kind's messages.
use Rattle.std.specs.Prelude.{Err, Result}
use Prim.Native.Nat.{ℕ, ◌+◌, ◌^◌, ◌≤◌, ◌<◌}
use mathlib.Core.Path.{◌≡◌, sym, ap, ap₂, ◌∙◌}
use mathlib.Core.Bool.{true}
use mathlib.Core.List.{List, []}
use lib.ListN.{length}
use lib.Seq.{sets}
use lib.Dec.{ltb}
use borrow.Author.Tests.{le-leb}
use Rattle.digits.proofs.Bools.{and_left, and_right, and_both}
use Rattle.layout.specs.Cells.{size, fits, encode}
use Rattle.frame.specs.Header.{around}
use Rattle.frame.specs.Writing as frame
use Rattle.frame.specs.Writing.{write_answer, written_over}
use Rattle.frame.specs.Codec.{Codec, legal, frame_of, Lawful}
use Rattle.frame.proofs.CodecLaws.{legal-front, legal-least, legal-most}
use Rattle.frame.proofs.MessageLaws as common
use Rattle.derivatives_frame.specs.Outline.{header}
use Rattle.derivatives_frame.specs.Closing.{head_numbers, closable, close_answer, closed_over}
use Rattle.answers.specs.declared.WriteError.{WriteError}
use Rattle.answers.specs.declared.WriteError.TheVariants.{NoRoom}

-- ---- a message of any kind, by the numbers of its header
module _ {M : Type 0} (C : Codec header M) (Shaped : M → Type 0) (law : Lawful C Shaped) (m : M) (s : Shaped m) (l : legal C m ≡ true) where
  abbrev whole : ℕ
  whole = around header + size (C.cells m)

  -- the buffer is too short
  pub message-short : (buf : List ℕ) → length buf < whole
      → (Err NoRoom ≡ write_answer (legal C m) (frame_of C m) buf) × (buf ≡ written_over (legal C m) (frame_of C m) buf)
  message-short = common.message-short C Shaped law m s l (legal C m) l

  module _ (market kind sent seq version : ℕ) (before : C.before m ≡ head_numbers market kind sent seq version) (behind : C.behind m ≡ []) where
    -- its header's numbers fit their cells
    pub frame-closable : closable sent seq version whole ≡ true
    frame-closable =
        let p = ap (fits header.before) (sym before) ∙ legal-front C m l in
        let q = and_right (ltb sent (10 ^ 8)) _ p in
        let r = and_right (ltb seq (10 ^ 8)) _ q in
        and_both (and_left (ltb sent (10 ^ 8)) _ p)
        (and_both (and_left (ltb seq (10 ^ 8)) _ q)
        (and_both (and_left (ltb version (10 ^ 2)) _ r) (and_both (le-leb 17 whole (legal-least C m l)) (le-leb whole 1024 (legal-most C m l)))))

    -- its body was put at its place, then closing answered and left u
    pub message-closed : (buf t u : List ℕ) (answer : Result ℕ WriteError) → whole ≤ length buf → t ≡ sets buf 14 (encode (C.cells m) (C.values m))
        → answer ≡ close_answer sent seq version whole t → u ≡ closed_over market kind sent seq version whole t
        → (answer ≡ write_answer (legal C m) (frame_of C m) buf) × (u ≡ written_over (legal C m) (frame_of C m) buf)
    message-closed buf t u answer h so p q =
        common.message-closed C Shaped law m s l (legal C m) l (closable sent seq version whole) frame-closable buf t u answer h so p
        (q ∙ ap₂ (λ (x y : List ℕ). frame.closed_over header (closable sent seq version whole) x y whole t) (sym before) (sym behind))
