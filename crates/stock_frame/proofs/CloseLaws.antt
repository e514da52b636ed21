-- Closing a frame of the stock exchange: its header's fields written one behind another, and what then stands in the buffer.
use Rattle.std.specs.Prelude.{Ok}
use Prim.Native.Nat.{ℕ, ◌+◌, ◌-◌, ◌^◌, ◌≤◌, ◌<◌}
use mathlib.Core.Path.{◌≡◌, refl, sym, ap, ◌∙◌}
use mathlib.Core.Bool.{true}
use mathlib.Core.List.{List, [], ◌++◌}
use native.Mathlib.Omega.{arith}
use lib.ListN.{length, take, drop, set}
use lib.Seq.{sets}
use borrow.Author.Tests.{lt-ltb, le-leb}
use Rattle.digits.specs.Packed.{packed}
use Rattle.digits.specs.Fields.{put_at}
use Rattle.layout.proofs.PutLaws.{put-behind}
use Rattle.layout.specs.Cells.{encode}
use Rattle.words.specs.Xor.{xor_of}
use Rattle.frame.proofs.CloseLaws.{covered, length-placed, ended-stores}
use Rattle.stock_frame.specs.Outline.{head_cells}
use Rattle.stock_frame.specs.Format.{around}
use Rattle.stock_frame.specs.Writing.{sealed, head_values, closable, close_answer, closed_over}

-- the header's fields, one behind another
module _ (n format version seq : ℕ) (s s₁ s₂ s₃ s₄ s₅ : List ℕ) (room : 10 ≤ length s)
    (hf : format < 100) (hv : version < 100) (hs : seq < 10 ^ 8) (hn : n < 10 ^ 4)
    (w₁ : s₁ ≡ put_at n 2 s 1) (w₂ : s₂ ≡ put_at 1 1 s₁ 3) (w₃ : s₃ ≡ put_at format 1 s₂ 4)
    (w₄ : s₄ ≡ put_at version 1 s₃ 5) (w₅ : s₅ ≡ put_at seq 4 s₄ 6) where
  pub head-written : s₅ ≡ sets s 1 (encode head_cells (head_values n format version seq))
  head-written =
      let p₁ : s₁ ≡ sets s 1 (packed 2 n) = w₁ ∙ put-behind n 2 [] s s 1 1 refl refl (omega arith) (omega arith) (omega arith) in
      let p₂ : s₂ ≡ sets s 1 (packed 2 n ++ packed 1 1) = w₂ ∙ put-behind 1 1 (packed 2 n) s s₁ 1 3 p₁ refl (omega arith) (omega arith) (omega arith) in
      let p₃ : s₃ ≡ sets s 1 ((packed 2 n ++ packed 1 1) ++ packed 1 format) =
      w₃ ∙ put-behind format 1 (packed 2 n ++ packed 1 1) s s₂ 1 4 p₂ refl (omega arith) (omega arith) (omega arith) in
      let p₄ : s₄ ≡ sets s 1 (((packed 2 n ++ packed 1 1) ++ packed 1 format) ++ packed 1 version) =
      w₄ ∙ put-behind version 1 ((packed 2 n ++ packed 1 1) ++ packed 1 format) s s₃ 1 5 p₃ refl (omega arith) (omega arith) (omega arith) in
      w₅ ∙ put-behind seq 4 (((packed 2 n ++ packed 1 1) ++ packed 1 format) ++ packed 1 version) s s₄ 1 6 p₄ refl (omega arith) (omega arith) (omega arith)

-- ---- what closing answers and leaves
module _ (format version seq n : ℕ) (buf : List ℕ) where
  module _ (hf : format < 100) where
    module _ (hv : version < 100) where
      module _ (hs : seq < 10 ^ 8) where
        module _ (low : 14 ≤ n) where
          module _ (high : n ≤ 1024) where
            pub closable-all : closable format version seq n ≡ true
            closable-all = rw (lt-ltb format 100 hf, lt-ltb version 100 hv, lt-ltb seq (10 ^ 8) hs, le-leb 14 n low, le-leb n 1024 high)

            module _ (fit : n ≤ length buf) where
              abbrev head : List ℕ
              head = encode head_cells (head_values n format version seq)

              -- t is the buffer with 27 and the header, and x the check byte over it
              pub close-done : (t : List ℕ) (x : ℕ) → t ≡ sets (set buf 0 27) 1 head → x ≡ xor_of (take (n - 3 - 1) (drop 1 t))
                  → (Ok n ≡ close_answer format version seq n buf)
                  × (set (set (set t (n - 3) x) (n - 2) 13) (n - 1) 10 ≡ closed_over format version seq n buf)
              close-done t x so e =
                  let b = take (n - around) (drop 10 buf) in
                  let l : around + length b ≡ n = omega (arith, length-placed buf head 9 n refl (omega arith) fit) in
                  let y : x ≡ xor_of (head ++ b) = e ∙ ap (λ (m : List ℕ). xor_of (take (n - 3 - 1) (drop 1 m))) so ∙ ap xor_of (covered buf head 9 n refl (omega arith) fit) in
                  rw (closable-all, le-leb n (length buf) fit) (
                    refl,
                    ap (λ (m : List ℕ). set (set (set m (n - 3) x) (n - 2) 13) (n - 1) 10) so
                        ∙ ended-stores buf head 9 n refl (omega arith) fit x y
                        ∙ ap (λ (k : ℕ). sealed (encode head_cells (head_values k format version seq) ++ b) ++ drop n buf) (sym l),
                  )
