-- The promise over one append to any capture in which no block is bad, cut short after any number of stores.
use Rattle.std.specs.Prelude.{Result, Ok, Err}
use Prim.Native.Nat.{ℕ, ◌+◌, ◌<◌, ◌≤◌, min}
use mathlib.Core.Path.{◌≡◌, refl, sym, ap, ◌∙◌}
use mathlib.Core.Bool.{Bool, true, false, cond, not, ◌&&◌}
use mathlib.Core.List.{List}
use native.Mathlib.Omega.{arith}
use borrow.Author.Tests.{lt-leb, ltb-true}
use lib.ListN.{length}
use lib.Dec.{ltb}
use Rattle.capture.specs.Blocks.{block_of}
use Rattle.capture.specs.Captures.{start_of, block_at, first_bad, found}
use Rattle.capture_append.specs.Stores.{stored_from}
use Rattle.capture_append.specs.Appending.{misfit, taken_of, bytes_at, taken_bytes}
use Rattle.capture_append.specs.declared.AppendError.{AppendError}
use Rattle.laws_capture.specs.Series.{Attempt, kept_with, answer_by}
use Rattle.laws_capture.specs.Cuts.{Bytes, CutTells}
use Rattle.laws_capture.proofs.HoldLaws.{Holds, holds-good, holds-found, holds-taken, whole-block, append-holds}
use Rattle.laws_capture.proofs.GoodLaws.{good-holds}

-- the place in an answer
abbrev pub place_of : Result ℕ AppendError → ℕ
place_of (Ok p) = p
place_of (Err e) = 0

and_none : (a b : Bool) → (a && (b && false)) ≡ false
and_none true true = refl
and_none true false = refl
and_none false b = refl

module _ (m : List ℕ) (ps : List (List ℕ)) (h : Holds m ps) (x : List ℕ) (k : ℕ) where
  abbrev it : Attempt
  it = record { payload = x; done = k }

  -- an append that was not finished keeps nothing
  unkept : k < 512 → kept_with ps it ≡ ps
  unkept less = rw (lt-leb 512 k less, and_none (not (misfit x)) (ltb (length ps) 128)) refl

  next-same : k < 512 → (y : List ℕ) → taken_of (taken_bytes m x k) y ≡ taken_of m y
  next-same less y =
      holds-taken (taken_bytes m x k) (kept_with ps it) (append-holds m ps it h) y ∙ ap (λ (l : List (List ℕ)). answer_by l y) (unkept less)
      ∙ sym (holds-taken m ps h y)

  -- an append that was finished is the block of its payload
  block-is : 512 ≤ k → (p : ℕ) → taken_of m x ≡ Ok p → block_at (taken_bytes m x k) p ≡ block_of p x
  unfolding taken_bytes
  block-is all p is =
      ap (λ (t : Result ℕ AppendError). block_at (bytes_at t m x k) p) is ∙ go (misfit x) (ltb (length ps) 128) refl refl (sym (holds-taken m ps h x) ∙ is)
    where
      go : (s u : Bool) → misfit x ≡ s → ltb (length ps) 128 ≡ u → cond s (Err AppendError.PayloadLength) (cond u (Ok (length ps + 1)) (Err AppendError.Full)) ≡ Ok p
          → block_at (stored_from m (start_of p) (block_of p x) (min k 512)) p ≡ block_of p x
      go true u a b e = let y : ◌≡◌ {A = ℕ} 0 1 = cc in absurd (omega (arith, y))
      go false false a b e = let y : ◌≡◌ {A = ℕ} 0 1 = cc in absurd (omega (arith, y))
      go false true a b e =
          let q : length ps + 1 ≡ p = ap place_of e in
          let full : min k 512 ≡ 512 = omega (arith, all) in
          ap (λ (j : ℕ). block_at (stored_from m (start_of p) (block_of p x) j) p) full
          ∙ ap (λ (j : ℕ). block_at (stored_from m (start_of j) (block_of j x) 512) j) (sym q)
          ∙ whole-block m ps h x a (ltb-true (length ps) 128 b) ∙ ap (λ (j : ℕ). block_of j x) q

pub cut-tells : (m x : List ℕ) (k : ℕ) → length m ≡ 65536 → Bytes m → first_bad m ≡ 0 → CutTells m x k
cut-tells m x k long bytes good =
    let h = good-holds m long bytes good in
    let t : Attempt = record { payload = x; done = k } in
    let later = append-holds m (found m) t h in
    record {
      finds = holds-found (taken_bytes m x k) (kept_with (found m) t) later;
      no-bad = holds-good (taken_bytes m x k) (kept_with (found m) t) later;
      next = next-same m (found m) h x k;
      block = block-is m (found m) h x k;
    }
