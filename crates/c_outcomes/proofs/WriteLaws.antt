-- A message that is another is written as the other is.
use Prim.Native.Nat.{ℕ}
use mathlib.Core.Path.{◌≡◌, ap}
use mathlib.Core.List.{List}
use Rattle.stock_frame.specs.Codec.{Codec, legal, frame_of}
use Rattle.stock_frame.specs.Writing.{write_answer, written_over}

module _ {M : Type 0} (C : Codec M) (buf : List ℕ) {m n : M} (e : m ≡ n) where
  pub same_answer : write_answer (legal C m) (frame_of C m) buf ≡ write_answer (legal C n) (frame_of C n) buf
  same_answer = ap (λ (x : M). write_answer (legal C x) (frame_of C x) buf) e

  pub same_bytes : written_over (legal C m) (frame_of C m) buf ≡ written_over (legal C n) (frame_of C n) buf
  same_bytes = ap (λ (x : M). written_over (legal C x) (frame_of C x) buf) e
