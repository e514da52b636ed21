-- A message's frame written: its body put cell by cell, then closed. Over any format's messages of the stock exchange.
use Rattle.std.specs.Prelude.{Err, Result}
use Prim.Native.Nat.{ℕ, ◌+◌, ◌^◌, ◌≤◌, ◌<◌}
use mathlib.Core.Path.{◌≡◌}
use mathlib.Core.Bool.{true}
use mathlib.Core.List.{List}
use native.Mathlib.Omega.{arith}
use lib.ListN.{length}
use lib.Seq.{sets}
use borrow.Author.Tests.{lt-ltb, le-leb}
use Rattle.digits.proofs.TestLaws.{all, ◌also◌, together}
use Rattle.layout.specs.Cells.{size, encode}
use Rattle.frame.proofs.MessageLaws as common
pub use Rattle.frame.proofs.WriteLaws.{write-illegal, write-short, write-whole, written-number}
use Rattle.stock_frame.specs.Format.{around}
use Rattle.stock_frame.specs.Writing.{write_answer, written_over, closable, close_answer, closed_over}
use Rattle.stock_frame.specs.Codec.{Codec, legal, frame_of}
use Rattle.stock_frame.proofs.FormatLaws.{range-bounds}
use Rattle.stock_frame.proofs.CodecLaws.{Lawful, as_common, common-lawful, legal-common, legal-seq, legal-range}
use Rattle.answers.specs.declared.WriteError.{WriteError}
use Rattle.answers.specs.declared.WriteError.TheVariants.{NoRoom}

-- ---- a message of any format
module _ {M : Type 0} (C : Codec M) (Shaped : M → Type 0) (law : Lawful C Shaped) (m : M) (s : Shaped m) (l : legal C m ≡ true) where
  abbrev whole : ℕ
  whole = around + size (C.cells m)

  frame-closable : closable C.form.number C.form.version (C.seq m) whole ≡ true
  frame-closable =
      let range = range-bounds C.form (size (C.cells m)) (legal-range C m l) in
      together _
      (lt-ltb C.form.number 100 law.number_fits
      also lt-ltb C.form.version 100 law.version-fits
      also lt-ltb (C.seq m) (10 ^ 8) (legal-seq C m l)
      also le-leb 14 whole (omega (arith, law.low, range.0))
      also le-leb whole 1024 (omega (arith, law.high, range.1))
      also all)

  -- the buffer is too short
  pub message-short : (buf : List ℕ) → length buf < whole
      → (Err NoRoom ≡ write_answer (legal C m) (frame_of C m) buf) × (buf ≡ written_over (legal C m) (frame_of C m) buf)
  message-short = common.message-short (as_common C) Shaped (common-lawful C Shaped law) m s (legal-common C Shaped law m l) (legal C m) l

  -- the body's cells were put from byte 11 on, then closing answered and left u
  pub message-closed : (buf t u : List ℕ) (answer : Result ℕ WriteError) → whole ≤ length buf → t ≡ sets buf 10 (encode (C.cells m) (C.values m))
      → answer ≡ close_answer C.form.number C.form.version (C.seq m) whole t
      → u ≡ closed_over C.form.number C.form.version (C.seq m) whole t
      → (answer ≡ write_answer (legal C m) (frame_of C m) buf) × (u ≡ written_over (legal C m) (frame_of C m) buf)
  message-closed =
      common.message-closed (as_common C) Shaped (common-lawful C Shaped law) m s (legal-common C Shaped law m l) (legal C m) l
      (closable C.form.number C.form.version (C.seq m) whole) frame-closable
