-- Closing a frame: the header's numbers written one behind another, and what then stands in the buffer.
use Rattle.std.specs.Prelude.{Ok}
use Prim.Native.Nat.{ℕ, ◌-◌, ◌^◌, ◌≤◌, ◌<◌}
use mathlib.Core.Path.{◌≡◌, refl, sym, ap, ◌∙◌}
use mathlib.Core.Bool.{true}
use mathlib.Core.List.{List, [], ◌∷◌, ◌++◌}
use native.Mathlib.Omega.{arith}
use lib.ListN.{length, take, drop, set}
use lib.Seq.{sets}
use borrow.Author.Tests.{lt-ltb, le-leb}
use Rattle.digits.specs.Packed.{packed}
use Rattle.digits.specs.Fields.{put_at}
use Rattle.words.specs.Xor.{xor_of}
use Rattle.layout.proofs.PutLaws.{put-behind}
use Rattle.frame.specs.Writing.{sealed, head_bytes}
use Rattle.frame.proofs.CloseLaws.{covered, length-placed, ended-stores}
use Rattle.derivatives_frame.specs.Outline.{header}
use Rattle.derivatives_frame.specs.Closing.{head_numbers, closable, close_answer, closed_over}

-- the header's numbers, one behind another
module _ (market kind sent seq version n : ℕ) (s s₁ s₂ s₃ s₄ : List ℕ) (room : 14 ≤ length s)
    (ht : sent < 10 ^ 8) (hs : seq < 10 ^ 8) (hv : version < 100) (hn : n < 10 ^ 4)
    (w₁ : s₁ ≡ put_at sent 4 (set (set s 1 market) 2 kind) 3) (w₂ : s₂ ≡ put_at seq 4 s₁ 7)
    (w₃ : s₃ ≡ put_at version 1 s₂ 11) (w₄ : s₄ ≡ put_at n 2 s₃ 12) where
  -- what stands behind 27 after each
  abbrev upto₁ : List ℕ
  upto₁ = market ∷ kind ∷ packed 4 sent

  abbrev upto₂ : List ℕ
  upto₂ = upto₁ ++ packed 4 seq

  abbrev upto₃ : List ℕ
  upto₃ = upto₂ ++ packed 1 version

  pub head-written : s₄ ≡ sets s 1 (head_bytes header (head_numbers market kind sent seq version) [] n)
  head-written =
      let p₁ : s₁ ≡ sets s 1 upto₁ = w₁ ∙ put-behind sent 4 (market ∷ kind ∷ []) s (set (set s 1 market) 2 kind) 1 3 refl refl (omega arith) (omega arith) (omega arith) in
      let p₂ : s₂ ≡ sets s 1 upto₂ = w₂ ∙ put-behind seq 4 upto₁ s s₁ 1 7 p₁ refl (omega arith) (omega arith) (omega arith) in
      let p₃ : s₃ ≡ sets s 1 upto₃ = w₃ ∙ put-behind version 1 upto₂ s s₂ 1 11 p₂ refl (omega arith) (omega arith) (omega arith) in
      w₄ ∙ put-behind n 2 upto₃ s s₃ 1 12 p₃ refl (omega arith) (omega arith) (omega arith)

-- ---- what closing answers and leaves
module _ (market kind sent seq version n : ℕ) (buf : List ℕ) where
  module _ (ht : sent < 10 ^ 8) where
    module _ (hs : seq < 10 ^ 8) where
      module _ (hv : version < 100) where
        module _ (low : 17 ≤ n) where
          module _ (high : n ≤ 1024) where
            pub closable-all : closable sent seq version n ≡ true
            closable-all = rw (lt-ltb sent (10 ^ 8) ht, lt-ltb seq (10 ^ 8) hs, lt-ltb version 100 hv, le-leb 17 n low, le-leb n 1024 high)

            module _ (fit : n ≤ length buf) where
              abbrev head : ℕ → List ℕ
              head k = head_bytes header (head_numbers market kind sent seq version) [] k

              -- t is the buffer with 27 and the header, and x the check byte over it
              pub close-done : (t : List ℕ) (x : ℕ) → t ≡ sets (set buf 0 27) 1 (head (n - 17)) → x ≡ xor_of (take (n - 3 - 1) (drop 1 t))
                  → (Ok n ≡ close_answer sent seq version n buf)
                  × (set (set (set t (n - 3) x) (n - 2) 13) (n - 1) 10 ≡ closed_over market kind sent seq version n buf)
              close-done t x so e =
                  let b = take (n - 17) (drop 14 buf) in
                  let h = head (n - 17) in
                  let l : length b ≡ n - 17 = length-placed buf h 13 n refl low fit in
                  let y : x ≡ xor_of (h ++ b) = e ∙ ap (λ (m : List ℕ). xor_of (take (n - 3 - 1) (drop 1 m))) so ∙ ap xor_of (covered buf h 13 n refl low fit) in
                  rw (closable-all, le-leb n (length buf) fit) (
                    refl,
                    ap (λ (m : List ℕ). set (set (set m (n - 3) x) (n - 2) 13) (n - 1) 10) so
                        ∙ ended-stores buf h 13 n refl low fit x y
                        ∙ ap (λ (k : ℕ). sealed (head k ++ b) ++ drop n buf) (sym l),
                  )
